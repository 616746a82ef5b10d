use Rattle.std.proofs.Common.{◌∙◌, List, ap, length, subst, sym}
use Rattle.dw_lists.specs.declared.indexed_unit.IndexedUnit.{IndexedUnit}
use Rattle.list_writer.specs.WrittenTables.{AreLeft, AreWritten}
use Rattle.list_writer.proofs.UnitSteps.{needing_are, needing_left, needing_none, none_written}
use Rattle.list_writer.proofs.list_tables.write_tables.Goals as goal

pub put_groups-requires-clause-left : goal.put_groups-requires-clause-left
put_groups-requires-clause-left c =
    subst (λ (us : List IndexedUnit). AreLeft c.args.kind 0 0 c.args.named.now us)
    (sym (c.deref.ensures.value ∙ needing_are c.args.named.now c.args.units.now c.in_ok-needing.needing.items c.in_ok-owns.owns
    c.in_ok-needing.ensures c.in_ok-owns.ensures))
    (needing_left c.args.kind 0 0 c.args.named.now c.args.units.now c.requires)

pub put_groups-requires-clause-start : goal.put_groups-requires-clause-start
put_groups-requires-clause-start c =
    none_written c.args.kind c.args.lists.now c.new-bytes.result.items c.new-names.result.items c.new-bytes.ensures.items
    c.new-names.ensures.items

pub returns : goal.returns
returns c =
    let needing = c.deref.ensures.value ∙ needing_are c.args.named.now c.args.units.now c.in_ok-needing.needing.items c.in_ok-owns.owns
    c.in_ok-needing.ensures c.in_ok-owns.ensures in
    record {
      written = subst (λ (us : List IndexedUnit). AreWritten c.args.kind c.args.lists.now c.args.named.now us c.put_groups.new.out.items
          c.put_groups.new.names.items) needing c.in_ok-put_groups.ensures.written;
      none = λ unnamed empty.
          c.in_ok-put_groups.ensures.none (ap length needing ∙ needing_none c.args.named.now c.args.units.now empty)
          ∙ c.new-bytes.ensures.items;
    }

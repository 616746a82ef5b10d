use Rattle.std.proofs.Common.{◌||◌, nat_cmp}
use Rattle.std.specs.Prelude.{is_some}
use Rattle.std.specs.BTreeSet.{contains}
use Rattle.dw_lists.specs.declared.indexed_unit.IndexedUnit.{IndexedUnit}
use Rattle.list_writer.proofs.UnitSteps.{filter_more}
use Rattle.list_writer.proofs.list_tables.needing.Goals as goal

pub loop-unit-preserved : goal.loop-unit-preserved
loop-unit-preserved c =
    filter_more (λ (x : IndexedUnit). is_some x.greatest || contains nat_cmp c.args.owns.now x.own) c.args.all.now c.loop-unit.unit-index _
    c.loop-unit.needing.items c.put_needing.new.out.items c.loop-unit-test.true c.loop-unit.invariant c.in_ok-put_needing.ensures

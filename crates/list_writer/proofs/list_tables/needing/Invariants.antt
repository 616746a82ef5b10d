use Rattle.std.proofs.Common.{◌≡◌, ◌||◌, nat_cmp, take, filter}
use Rattle.std.specs.Prelude.{is_some}
use Rattle.std.specs.BTreeSet.{contains}
use Rattle.dw_lists.specs.declared.indexed_unit.IndexedUnit.{IndexedUnit}
use Rattle.list_writer.proofs.list_tables.needing.Given as goal

abbrev pub invariant-loop-unit : goal.invariant-loop-unit
invariant-loop-unit l =
    l.needing.items
    ≡ filter (λ (x : IndexedUnit). is_some x.greatest || contains nat_cmp l.owns x.own) (take l.unit-index l.all)

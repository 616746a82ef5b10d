use Rattle.std.proofs.Common.{subst}
use Rattle.std.proofs.lemmas.List.{take_all}
use Rattle.dw_lists.specs.declared.indexed_unit.IndexedUnit.{IndexedUnit}
use Rattle.std.proofs.Common.{List}
use Rattle.list_writer.specs.WrittenTables.{IsCountOf}
use Rattle.list_writer.proofs.PutEntries.{index_more, index_none}
use Rattle.list_writer.proofs.list_tables.offset_count.Goals as goal

pub loop-unit-init : goal.loop-unit-init
loop-unit-init c = index_none

pub loop-unit-preserved : goal.loop-unit-preserved
loop-unit-preserved c =
    let is = c.in_ok-count.ensures in
    index_more c.args.units.now c.loop-unit.unit-index c.loop-unit.count c.in_ok-count.count _ c.loop-unit-test.true
    c.loop-unit.invariant is.least is.more is.used

pub returns : goal.returns
returns c =
    subst (λ (l : List IndexedUnit). IsCountOf l c.loop-unit.count)
    (take_all c.loop-unit.unit-index c.args.units.now c.loop-unit-test.false)
    c.loop-unit.invariant

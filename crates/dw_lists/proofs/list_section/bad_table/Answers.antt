use Rattle.std.proofs.Common.{◌∙◌, Some, ap, sym}
use Rattle.answer_runs.specs.Choices.{lower}
use Rattle.table_core.specs.DebugUnits.{Walked}
use Rattle.dw_lists.proofs.BadTables.{bad_more, bad_same}
use Rattle.dw_lists.proofs.list_section.bad_table.Goals as goal
use Rattle.dw_lists.proofs.list_section.bad_table.Goals.{then-is_bad, else-is_bad}

pub loop-table-preserved : goal.loop-table-preserved
loop-table-preserved c = elim c.if-is_bad.branch [
  | then-is_bad w ↦ bad_more c.args.tables.now c.loop-table.table-index c.table-item.result c.loop-table.bad c.if-is_bad.bad
      c.loop-table-test.true
      c.table-item.is c.loop-table.invariant (sym c.is_bad.ensures ∙ w.if-is_bad.true)
      (w.bad-is ∙ w.lower-bad.ensures ∙ ap (λ (t : Walked). lower c.loop-table.bad (Some t.place)) c.table.view_is)
  | else-is_bad w ↦ bad_same c.args.tables.now c.loop-table.table-index c.table-item.result c.loop-table.bad c.if-is_bad.bad
      c.loop-table-test.true
      c.table-item.is c.loop-table.invariant (sym c.is_bad.ensures ∙ w.if-is_bad.false) w.bad-is
]

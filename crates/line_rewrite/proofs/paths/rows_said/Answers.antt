use Rattle.std.proofs.Common.{◌∙◌, ◌++◌, ap}
use Rattle.std.specs.Option.{option_to_list}
use Rattle.line_rewrite.specs.LineAnswers.{row_said}
use Rattle.line_rewrite.specs.KeptEntries.{strings_held}
use Rattle.line_rewrite.specs.KeptUnits.{told_unit}
use Rattle.line_rewrite.proofs.Indexing.{said_more, said_done}
use Rattle.line_rewrite.proofs.paths.rows_said.Goals as goal

pub loop-row-preserved : goal.loop-row-preserved
loop-row-preserved c =
    said_more (row_said (told_unit (strings_held c.args.str.now c.args.line_str.now) c.args.unit.now)) c.args.rows.now c.loop-row.row-index
    _
    c.loop-row.said.items c.push_row.new.said.items _ c.loop-row-test.true c.loop-row.invariant
    (c.in_ok-push_row.ensures ∙ ap (λ o. c.loop-row.said.items ++ option_to_list o) c.in_ok-row.ensures)

pub returns : goal.returns
returns c =
    said_done (row_said (told_unit (strings_held c.args.str.now c.args.line_str.now) c.args.unit.now)) c.args.rows.now c.loop-row.row-index
    c.loop-row.said.items _ c.loop-row-test.false c.loop-row.invariant

use Rattle.std.proofs.Common.{◌≡◌, ◌++◌, drop}
use Rattle.std.specs.Prelude.{filter_map}
use Rattle.line_rewrite.specs.LineAnswers.{row_said}
use Rattle.line_rewrite.specs.KeptEntries.{strings_held}
use Rattle.line_rewrite.specs.KeptUnits.{told_unit}
use Rattle.line_rewrite.proofs.paths.rows_said.Given as goal

abbrev pub invariant-loop-row : goal.invariant-loop-row
invariant-loop-row l =
    l.said.items ++ filter_map (row_said (told_unit (strings_held l.str l.line_str) l.unit)) (drop l.row-index l.rows)
    ≡ filter_map (row_said (told_unit (strings_held l.str l.line_str) l.unit)) l.rows

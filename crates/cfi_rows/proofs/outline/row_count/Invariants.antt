use Rattle.std.proofs.Common.{◌≡◌, ◌≤◌, drop, []}
use Rattle.cfi_rows.specs.Outlines.{outline_rows, kept_outline}
use Rattle.cfi_rows.proofs.OutlineLoops.{plus}
use Rattle.cfi_rows.proofs.outline.row_count.Given as goal

abbrev pub invariant-loop-instruction : goal.invariant-loop-instruction
invariant-loop-instruction l =
    (outline_rows l.fn.instructions (record { location = l.fn.start; frame = l.fn.frame; saved = [] }) ≡
    plus l.rows (outline_rows (drop l.instruction-index l.fn.instructions) (kept_outline l.outline)))
    × (l.rows ≤ l.instruction-index)

use Rattle.std.proofs.Common.{◌≡◌, drop, []}
use Rattle.cfi_rows.specs.declared.outline.FrameKind.TheVariants.{Nothing}
use Rattle.cfi_rows.specs.Outlines.{outline_after, kept_outline}
use Rattle.cfi_rows.proofs.outline.frame_after.Given as goal

abbrev pub invariant-loop-instruction : goal.invariant-loop-instruction
invariant-loop-instruction l =
    outline_after l.fn.instructions (record { location = 0; frame = Nothing; saved = [] }) ≡
    outline_after (drop l.instruction-index l.fn.instructions) (kept_outline l.outline)

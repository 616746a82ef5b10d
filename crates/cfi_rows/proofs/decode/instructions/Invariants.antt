use Rattle.std.proofs.Common.{◌≡◌, ◌-◌, ◌+◌, ◌≤◌, length}
use Rattle.std.specs.Prelude.{sum_by}
use Rattle.cfi_rows.specs.EntryCounts.{bytes_in}
use Rattle.cfi_rows.specs.FrameInstructions.{instructions_at, instructions_in}
use Rattle.cfi_rows.specs.Reads.{context_of}
use Rattle.cfi_rows.proofs.InstructionLists.{after}
use Rattle.cfi_rows.proofs.decode.instructions.Given as goal

abbrev pub invariant-loop-count : goal.invariant-loop-count
invariant-loop-count l =
    (instructions_at (context_of l.fn.factors) l.fn.cursor.left ≡
    after l.list.items (instructions_in (context_of l.fn.factors) (l.count-end - l.count) l.cursor.left))
    × (sum_by bytes_in l.list.items + length l.cursor.left ≤ length l.fn.cursor.left)

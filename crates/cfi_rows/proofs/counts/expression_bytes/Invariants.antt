use Rattle.std.proofs.Common.{◌≡◌, ◌-◌, ◌^◌, take}
use Rattle.std.specs.Prelude.{min, sum_by}
use Rattle.cfi_rows.specs.EntryCounts.{bytes_in}
use Rattle.cfi_rows.proofs.counts.expression_bytes.Given as goal

abbrev pub invariant-loop-instruction : goal.invariant-loop-instruction
invariant-loop-instruction l = l.sum ≡ min (sum_by bytes_in (take l.instruction-index l.fn.instructions)) (2 ^ 64 - 1)

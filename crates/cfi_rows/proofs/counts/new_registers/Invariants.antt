use Rattle.std.proofs.Common.{◌≤◌, ℕ, List, take}
use Rattle.std.specs.Prelude.{flat_map}
use Rattle.cfi_rows.specs.EntryCounts.{registers_set}
use Rattle.cfi_rows.specs.RegisterSets.{AreIn, AreCounted}
use Rattle.cfi_rows.proofs.counts.new_registers.Given as goal

abbrev pub invariant-loop-instruction : goal.invariant-loop-instruction
invariant-loop-instruction l =
    ((xs : List ℕ) → AreIn xs l.fn.known →
    AreCounted xs (flat_map registers_set (take l.instruction-index l.fn.instructions)) l.fn.known l.registers)
    × (l.registers.count ≤ l.instruction-index)

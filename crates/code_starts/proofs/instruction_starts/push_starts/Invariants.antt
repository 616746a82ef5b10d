use Rattle.std.proofs.Common.{◌+◌, ◌-◌, ◌*◌, ◌≡◌, ◌++◌, length}
use Rattle.elf_image.specs.declared.elf.Elf.{Elf}
use Rattle.code_starts.specs.Halves.{AreHalvesOf}
use Rattle.code_starts.specs.Starts.{starts_from}
use Rattle.code_starts.proofs.instruction_starts.push_starts.Given as goal

abbrev pub invariant-loop-index : goal.invariant-loop-index
invariant-loop-index l =
    (elf : Elf) → AreHalvesOf elf l.part l.halves →
    l.starts.items ++ starts_from elf l.part.end (l.part.start + 2 * l.index) ≡ l.initial.starts.items
    ++ starts_from elf l.part.end l.part.start

abbrev pub decreases-loop-index : goal.decreases-loop-index
decreases-loop-index l = length l.halves - l.index

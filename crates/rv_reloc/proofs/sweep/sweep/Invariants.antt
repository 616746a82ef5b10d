use Rattle.std.proofs.Common.{ℕ, List, map}
use Rattle.elf_image.specs.declared.elf.Elf.{Elf}
use Rattle.rv_reloc.specs.CountedFields.{as_field, AreCandidates}
use Rattle.rv_reloc.proofs.Sweeps.{IsSweptTo}
use Rattle.rv_reloc.proofs.sweep.sweep.Given as goal

abbrev pub invariant-loop-candidate : goal.invariant-loop-candidate
invariant-loop-candidate l = (elf : Elf) (tabled : List (ℕ × ℕ)) → AreCandidates elf tabled (map as_field l.candidates) →
    IsSweptTo elf tabled (map as_field l.candidates) l.candidate-index (map as_field l.counted.items) l.reach

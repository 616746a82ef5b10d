use Rattle.std.proofs.Common.{◌≡◌, take}
use Rattle.std.specs.Prelude.{sum_by}
use Rattle.elf_plan.specs.NameWeight.{section_weight}
use Rattle.file_room.specs.Numbers.{capped}
use Rattle.elf_plan.proofs.weights.sections_weight.Given as goal

abbrev pub invariant-loop-section : goal.invariant-loop-section
invariant-loop-section l = l.sum ≡ capped (sum_by section_weight (take l.section-index l.sections))

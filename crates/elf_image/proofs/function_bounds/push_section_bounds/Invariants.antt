use Rattle.std.proofs.Common.{◌≡◌, ◌++◌, take}
use Rattle.elf_image.specs.file.CutLists.{section_bounds}
use Rattle.elf_image.proofs.function_bounds.push_section_bounds.Given as goal

abbrev pub invariant-loop-section : goal.invariant-loop-section
invariant-loop-section l = l.cuts.items ≡ l.initial.cuts.items ++ section_bounds (take l.section-index l.sections)

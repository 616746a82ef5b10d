use Rattle.std.proofs.Common.{ℕ, ◌<◌, IsTrue, nat_eq, codes, slice_index_or}
use Rattle.std.specs.List.{starts_with}
use Rattle.elf_image.specs.declared.section.Section.{Section}
use Rattle.elf_image.proofs.faults.loading.has_old_section.Given as goal

abbrev pub invariant-loop-section : goal.invariant-loop-section
invariant-loop-section l = (k : ℕ) (d : Section) → k < l.section-index →
    IsTrue (starts_with nat_eq (slice_index_or l.sections k d).name.now (codes ".old.")) → ⊥

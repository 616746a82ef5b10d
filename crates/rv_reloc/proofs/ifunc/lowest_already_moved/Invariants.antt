use Rattle.std.proofs.Common.{ℕ, ◌<◌, IsTrue, codes, nat_eq, slice_index_or}
use Rattle.std.specs.List.{starts_with}
use Rattle.elf_image.specs.declared.section.Section.{Section}
use Rattle.rv_reloc.proofs.ifunc.lowest_already_moved.Given as goal

abbrev pub invariant-loop-index : goal.invariant-loop-index
invariant-loop-index l =
    (k : ℕ) (d : Section) → k < l.index → IsTrue (starts_with nat_eq (slice_index_or l.sections k d).name.now (codes ".old.")) → ⊥

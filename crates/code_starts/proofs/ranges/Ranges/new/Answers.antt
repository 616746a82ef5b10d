use Rattle.std.proofs.Common.{◌<◌, ◌↔◌, subst, ℕ, List}
use Rattle.elf_image.specs.declared.extent.Extent.{Extent}
use Rattle.elf_image.specs.internal.Extents.{IsInOneExtent}
use Rattle.code_starts.proofs.RangeLists.{IsInOneExtent-sorted}
use Rattle.code_starts.proofs.ranges.Ranges.new.Goals as goal

pub returns : goal.returns
returns c =
    let Grown : List Extent → Type 0 = λ sorted. (a e : ℕ) → a < e →
    IsInOneExtent c.in_ok-reaches.reaches.items a e ↔ IsInOneExtent sorted a e in
    IsInOneExtent-sorted c.args.extents.items c.sort_by_start.new.extents.items c.in_ok-reaches.reaches.items
    c.in_ok-sort_by_start.ensures.permutation
    (subst Grown c.deref.ensures.value c.in_ok-reaches.ensures.covered)

use Rattle.std.proofs.Common.{◌↔◌, subst, List}
use Rattle.elf_image.specs.declared.extent.Extent.{Extent}
use Rattle.elf_image.specs.internal.Extents.{IsInOneExtent}
use Rattle.elf_plan.proofs.KeptRanges.{in_one-permutation, stays-behind}
use Rattle.elf_plan.proofs.kept_bytes.KeptBytes.new.Goals as goal

pub returns : goal.returns
returns c = λ start end some.
    let sorted = c.sort_by_start.new.extents.items in
    let one : IsInOneExtent c.in_ok-moved.moved.items start end ↔ IsInOneExtent sorted start end =
    in_one-permutation c.in_ok-moved.moved.items sorted start end c.in_ok-sort_by_start.ensures.permutation in
    let covered : IsInOneExtent c.in_ok-reaches_of.field-0.items start end ↔ IsInOneExtent sorted start end =
    subst (λ (es : List Extent). IsInOneExtent c.in_ok-reaches_of.field-0.items start end ↔ IsInOneExtent es start end)
    c.deref.ensures.value (c.in_ok-reaches_of.ensures.covered start end some) in
    stays-behind c.args.segments.now c.args.area.now c.args.shift.now start end _ c.if-area.false (
      (λ h. covered.1 (one.0 ((c.in_ok-moved.ensures start end).0 h))),
      λ h. (c.in_ok-moved.ensures start end).1 (one.1
          (covered.0 h)),
    )

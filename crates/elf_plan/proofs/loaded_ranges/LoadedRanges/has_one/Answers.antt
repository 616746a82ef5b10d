use Rattle.std.proofs.Common.{◌≡◌, sym, subst, ◌+◌, List}
use Rattle.std.specs.Prelude.{nat_lt}
use Rattle.std.specs.List.{list_any}
use Rattle.elf_image.specs.declared.extent.Extent.{Extent}
use Rattle.elf_image.specs.internal.Extents.{IsInOneExtent}
use Rattle.elf_plan.specs.LoadedRanges.{AreInOrder, meets}
use Rattle.elf_plan.proofs.FirstRange.{not-covered}
use Rattle.elf_plan.proofs.LoadedRanges.{meets-first, meets-is}
use Rattle.elf_plan.proofs.loaded_ranges.LoadedRanges.has_one.Goals as goal

pub returns-then-is_covered : goal.returns-then-is_covered
returns-then-is_covered c = sym (meets-first _ _ _ _ c.requires.order c.requires.some
    (subst (λ (xs : List Extent). IsInOneExtent xs c.args.start (c.args.start + 1)) c.deref.ensures.value
    (c.is_covered.ensures.0 c.if-is_covered.true)))

pub returns : goal.returns
returns c =
    let start = c.args.start in
    let end = c.args.end in
    let reaches = c.args.self.now.reaches.items in
    let same = c.as_slice-sorted.ensures.value in
    let from = c.count_from.ensures in
    let before = c.count_before.ensures in
    subst (λ (xs : List Extent). nat_lt c.count_from.result c.count_before.result ≡ list_any (meets start end) xs) same
    (meets-is _ reaches start end (subst (λ (xs : List Extent). AreInOrder xs reaches) (sym same) c.requires.order)
    c.requires.some c.count_from.result c.count_before.result before.bound
    (not-covered _ _ start (start + 1) _ c.deref.ensures.value c.is_covered.ensures.1 c.if-is_covered.false)
    from.below from.above before.below before.above)

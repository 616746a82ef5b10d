use Rattle.std.proofs.Common.{◌<◌, ◌↔◌, sym, subst, ℕ, List}
use Rattle.std.specs.List.Sorted.{IsNonDecreasingBy}
use Rattle.elf_image.specs.declared.extent.Extent.{Extent}
use Rattle.elf_image.specs.faults.SegmentLayout.{LiesInCode}
use Rattle.elf_image.specs.internal.Extents.{IsInOneExtent}
use Rattle.elf_image.proofs.ReachLemmas.{IsCovered-in_code}
use Rattle.elf_image.proofs.faults.stray.lowest_stray_section.Goals as goal

pub lowest_stray-requires-clause-covered : goal.lowest_stray-requires-clause-covered
lowest_stray-requires-clause-covered c =
    let file = c.args.file.now in
    let InCode : List Extent → Type 0 = λ reaches. (a e : ℕ) → a < e → IsInOneExtent reaches a e ↔ LiesInCode file a e in
    let Sorted : List Extent → Type 0 = λ sorted. (a e : ℕ) → a < e →
    IsInOneExtent c.in_ok-reaches.reaches.items a e ↔ IsInOneExtent sorted a e in
    subst InCode (sym c.deref-2.ensures.value)
    (IsCovered-in_code file c.in_ok-codes.codes.items c.sort_by_start.new.extents.items c.in_ok-reaches.reaches.items
    c.in_ok-codes.ensures c.in_ok-sort_by_start.ensures.permutation
    (subst Sorted c.deref.ensures.value c.in_ok-reaches.ensures.covered))

pub reaches_of-requires : goal.reaches_of-requires
reaches_of-requires c =
    let Rising : List Extent → Type 0 = λ extents. IsNonDecreasingBy (λ s. s.start) extents in
    subst Rising (sym c.deref.ensures.value) c.in_ok-sort_by_start.ensures.rising

pub lowest_stray-requires-clause-rising : goal.lowest_stray-requires-clause-rising
lowest_stray-requires-clause-rising c =
    let Rising : List Extent → Type 0 = λ extents. IsNonDecreasingBy (λ s. s.start) extents in
    subst Rising (sym c.deref-2.ensures.value) c.in_ok-reaches.ensures.rising

pub lowest_stray-requires-clause-growing : goal.lowest_stray-requires-clause-growing
lowest_stray-requires-clause-growing c =
    let Growing : List Extent → Type 0 = λ extents. IsNonDecreasingBy (λ s. s.end) extents in
    subst Growing (sym c.deref-2.ensures.value) c.in_ok-reaches.ensures.growing

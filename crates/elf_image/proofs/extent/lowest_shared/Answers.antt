use Rattle.std.proofs.Common.{◌<◌, sym, subst, List, All}
use Rattle.std.proofs.lemmas.List.Sorted.{All-permutation}
use Rattle.elf_image.specs.declared.extent.Extent.{Extent}
use Rattle.elf_image.specs.faults.LowestPlace.{IsLowest}
use Rattle.elf_image.specs.internal.Extents.{SharesAnother, HavePlaces}
use Rattle.elf_image.proofs.ExtentLemmas.{HavePlaces-permutation, IsLowest-permutation}
use Rattle.elf_image.proofs.extent.lowest_shared.Goals as goal

pub lowest_shared_sorted-requires-clause-places : goal.lowest_shared_sorted-requires-clause-places
lowest_shared_sorted-requires-clause-places c =
    let sorted =
    HavePlaces-permutation c.args.extents.items c.sort_by_start.new.extents.items
    c.in_ok-sort_by_start.ensures.permutation c.requires.places in
    subst HavePlaces (sym c.deref.ensures.value) sorted

pub lowest_shared_sorted-requires-clause-not_empty :
    goal.lowest_shared_sorted-requires-clause-not_empty
lowest_shared_sorted-requires-clause-not_empty c =
    let NotEmpty : List Extent → Type 0 = λ extents. All (λ s. s.start < s.end) extents in
    let sorted : NotEmpty c.sort_by_start.new.extents.items =
    All-permutation
    (λ s. s.start < s.end) c.args.extents.items c.sort_by_start.new.extents.items
    c.in_ok-sort_by_start.ensures.permutation c.requires.not_empty in
    subst NotEmpty (sym c.deref.ensures.value) sorted

pub returns : goal.returns
returns c =
    let Lowest : List Extent → Type 0 = λ extents. IsLowest (SharesAnother extents) c.lowest_shared_sorted.result in
    IsLowest-permutation c.args.extents.items c.sort_by_start.new.extents.items _ c.in_ok-sort_by_start.ensures.permutation
    (subst Lowest c.deref.ensures.value c.lowest_shared_sorted.ensures)

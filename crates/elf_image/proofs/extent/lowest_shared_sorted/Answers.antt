use Rattle.std.proofs.Common.{◌≡◌, length, arith, ap}
use Rattle.std.proofs.lemmas.List.{get_or_default}
use Rattle.elf_image.specs.declared.extent.Extent.{Extent}
use Rattle.elf_image.specs.internal.Extents.{MeetsAnother}
use Rattle.elf_image.proofs.LowestPlaces.{IsLowest-next, IsLowest-place}
use Rattle.elf_image.proofs.ExtentLemmas.{MeetingPlace, no_extent, IsReach-more, IsLowest-shared}
use Rattle.elf_image.proofs.extent.lowest_shared_sorted.Goals as goal

pub loop-index-preserved : goal.loop-index-preserved
loop-index-preserved c =
    let extents = c.args.extents.now in
    let index = c.loop-index.index in
    let place = ap (λ (s : Extent). s.place) (get_or_default extents index _ no_extent c.loop-index-test.true) in
    record {
      lowest = IsLowest-next (MeetingPlace extents) index _ _ _ c.lower-lowest.ensures c.loop-index.invariant.lowest
          (IsLowest-place (MeetsAnother extents index) _ _ _ _ c.place_if.ensures place c.meets_another.ensures);
      reach = IsReach-more extents index c.loop-index.reach _ _ c.loop-index-test.true c.max-reach.ensures
          c.loop-index.invariant.reach;
    }

pub returns : goal.returns
returns c =
    let all : c.loop-index.index ≡ length c.args.extents.now = omega arith in
    IsLowest-shared c.args.extents.now _ _ c.requires.places c.requires.not_empty all c.loop-index.invariant.lowest

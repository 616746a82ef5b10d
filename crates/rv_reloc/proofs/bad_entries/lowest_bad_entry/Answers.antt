use Rattle.std.proofs.Common.{◌≡◌, refl, length, arith}
use Rattle.std.proofs.lemmas.List.{get_or_default}
use Rattle.rv_reloc.proofs.BadEntryPlaces.{IsLowest-entries}
use Rattle.rv_reloc.proofs.Places.{IsPlaceOf-begin, IsPlaceOf-next, IsPlaceOf-all}
use Rattle.rv_reloc.proofs.bad_entries.lowest_bad_entry.Goals as goal

pub loop-low-init : goal.loop-low-init
loop-low-init c = IsPlaceOf-begin _ _

pub loop-low-preserved : goal.loop-low-preserved
loop-low-preserved c =
    IsPlaceOf-next _ _ c.args.lows.now c.loop-low.low-index _ _ _ _ _ _ c.loop-low-test.true
    (get_or_default _ _ _ _ c.loop-low-test.true) c.lower-lowest.ensures c.loop-low.invariant c.place_if.ensures refl
    c.names_bad_entry.ensures

pub returns : goal.returns
returns c =
    let all : c.loop-low.low-index ≡ length c.args.lows.now = omega arith in
    IsLowest-entries c.args.elf.now c.args.lows.now _ c.requires.lows (IsPlaceOf-all _ _ _ _ _ all c.loop-low.invariant)

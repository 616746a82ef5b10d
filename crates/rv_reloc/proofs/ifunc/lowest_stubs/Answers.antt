use Rattle.std.proofs.Common.{◌≡◌, refl, length, arith}
use Rattle.std.proofs.lemmas.List.{get_or_default}
use Rattle.rv_reloc.proofs.Places.{IsPlaceOf-begin, IsPlaceOf-next, IsPlaceOf-all}
use Rattle.rv_reloc.proofs.ifunc.lowest_stubs.Goals as goal

pub loop-section-init : goal.loop-section-init
loop-section-init c = IsPlaceOf-begin _ _

pub loop-section-preserved : goal.loop-section-preserved
loop-section-preserved c =
    IsPlaceOf-next _ _ c.args.sections.now c.loop-section.section-index _ _ _ _ _ _ c.loop-section-test.true
    (get_or_default _ _ _ _ c.loop-section-test.true) c.lower-lowest.ensures c.loop-section.invariant c.place_if.ensures
    refl c.has_stubs.ensures

pub returns : goal.returns
returns c =
    let all : c.loop-section.section-index ≡ length c.args.sections.now = omega arith in
    IsPlaceOf-all _ _ _ _ _ all c.loop-section.invariant

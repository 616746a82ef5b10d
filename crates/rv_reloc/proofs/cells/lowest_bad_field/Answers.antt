use Rattle.std.proofs.Common.{◌≡◌, refl, length, arith}
use Rattle.std.proofs.lemmas.List.{get_or_default}
use Rattle.rv_reloc.proofs.Places.{IsPlaceOf-begin, IsPlaceOf-next, IsPlaceOf-all}
use Rattle.rv_reloc.proofs.cells.lowest_bad_field.Goals as goal

pub loop-field-init : goal.loop-field-init
loop-field-init c = IsPlaceOf-begin _ _

pub loop-field-preserved : goal.loop-field-preserved
loop-field-preserved c =
    IsPlaceOf-next _ _ c.args.counted.now c.loop-field.field-index _ _ _ _ _ _ c.loop-field-test.true
    (get_or_default _ _ _ _ c.loop-field-test.true) c.lower-lowest.ensures c.loop-field.invariant
    c.place_if.ensures refl c.is_bad.ensures

pub returns : goal.returns
returns c =
    let all : c.loop-field.field-index ≡ length c.args.counted.now = omega arith in
    IsPlaceOf-all _ _ _ _ _ all c.loop-field.invariant

use Rattle.std.proofs.Common.{◌≡◌, refl, length, arith}
use Rattle.std.proofs.lemmas.List.{get_or_default}
use Rattle.rv_reloc.proofs.Places.{IsPlaceOf-begin, IsPlaceOf-next, IsPlaceOf-all}
use Rattle.std.proofs.lemmas.Bool.{eqb-true, eq-eqb}
use Rattle.rv_reloc.proofs.ifunc.lowest_irelative.Goals as goal

pub loop-relocation-init : goal.loop-relocation-init
loop-relocation-init c = IsPlaceOf-begin _ _

pub loop-relocation-preserved : goal.loop-relocation-preserved
loop-relocation-preserved c =
    IsPlaceOf-next _ _ c.args.records.now c.loop-relocation.relocation-index _ _ _ _ _ _ c.loop-relocation-test.true
    (get_or_default _ _ _ _ c.loop-relocation-test.true) c.lower-lowest.ensures
    c.loop-relocation.invariant c.place_if.ensures refl
    (eqb-true _ _, eq-eqb _ _)

pub returns : goal.returns
returns c =
    let all : c.loop-relocation.relocation-index ≡ length c.args.records.now = omega arith in
    IsPlaceOf-all _ _ _ _ _ all c.loop-relocation.invariant

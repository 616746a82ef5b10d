use Rattle.std.proofs.Common.{refl}
use Rattle.std.proofs.lemmas.List.{get_or_default}
use Rattle.rv_reloc.proofs.Places.{IsPlaceOf-next}
use Rattle.func_find.specs.Targets.{IsMisled}
use Rattle.func_find.proofs.targets.lowest_misled_of.Goals as goal

pub loop-inst-preserved : goal.loop-inst-preserved
loop-inst-preserved c =
    IsPlaceOf-next (λ p. p.addr)
    (IsMisled c.args.starts.now c.args.parts.now) c.args.insts.now c.loop-inst.inst-index _ _ _ _ _ _ c.loop-inst-test.true
    (get_or_default c.args.insts.now c.loop-inst.inst-index _ _ c.loop-inst-test.true) c.lower-lowest.ensures
    c.loop-inst.invariant c.place_if.ensures refl c.is_misled.ensures

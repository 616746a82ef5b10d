use Rattle.std.proofs.Common.{◌≡◌, sym, refl, length, arith}
use Rattle.std.proofs.lemmas.List.{get_or_default}
use Rattle.rv_reloc.proofs.Kept.{counts}
use Rattle.rv_reloc.proofs.Places.{IsPlaceOf-begin, IsPlaceOf-next, IsPlaceOf-all}
use Rattle.rv_reloc.proofs.misfits.lowest_unfit.Goals as goal

pub loop-index-init : goal.loop-index-init
loop-index-init c = IsPlaceOf-begin _ _

pub is_unfit-unfit-requires-clause-counts : goal.is_unfit-unfit-requires-clause-counts
is_unfit-unfit-requires-clause-counts c =
    counts c.args.elf.now c.args.records.now _ c.requires.records
    (c.loop-index.index, c.loop-index-test.true, sym (get_or_default _ _ _ _ c.loop-index-test.true))

pub loop-index-preserved : goal.loop-index-preserved
loop-index-preserved c =
    IsPlaceOf-next _ _ c.args.records.now c.loop-index.index _ _ _ _ _ _ c.loop-index-test.true
    (get_or_default _ _ _ _ c.loop-index-test.true) c.lower-lowest.ensures c.loop-index.invariant c.place_if.ensures
    refl c.is_unfit-unfit.ensures

pub returns : goal.returns
returns c =
    let all : c.loop-index.index ≡ length c.args.records.now = omega arith in
    IsPlaceOf-all _ _ _ _ _ all c.loop-index.invariant

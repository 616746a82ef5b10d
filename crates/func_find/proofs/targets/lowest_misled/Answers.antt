use Rattle.std.proofs.Common.{subst, List}
use Rattle.rv_code.specs.declared.placed.Placed.{Placed}
use Rattle.rv_code.specs.declared.placed.Func.{Func}
use Rattle.elf_image.specs.faults.LowestPlace.{IsLowest}
use Rattle.rv_reloc.specs.Places.{IsPlaceOf}
use Rattle.func_find.specs.Targets.{IsMisled}
use Rattle.func_find.proofs.MisledPlaces.{lowest_next}
use Rattle.func_find.proofs.targets.lowest_misled.Goals as goal

pub loop-func-preserved : goal.loop-func-preserved
loop-func-preserved c =
    let here = subst
    (λ (ps : List Placed). IsLowest
    (IsPlaceOf (λ (p : Placed). p.addr)
    (IsMisled c.args.starts.now c.args.parts.now) ps) c.lowest_misled_of.result) c.deref.ensures.value
    c.lowest_misled_of.ensures in
    lowest_next (λ (f : Func) place. IsPlaceOf (λ (p : Placed). p.addr)
    (IsMisled c.args.starts.now c.args.parts.now) f.insts.items place) c.args.funcs.now c.loop-func.func-index
    c.func-item.result c.func-item.result
    _ _ _ c.loop-func-test.true c.func-item.is c.lower-lowest.ensures c.loop-func.invariant here

use Rattle.std.proofs.Common.{refl}
use Rattle.std.proofs.lemmas.Result.{err_from_is_err_and}
use Rattle.func_find.proofs.Placing.{made_next, first_refusal}
use Rattle.func_find.proofs.inst_lists.functions_of.Goals as goal

pub returns-in_err-insts-clause-fault : goal.returns-in_err-insts-clause-fault
returns-in_err-insts-clause-fault c =
    let p = err_from_is_err_and c.from_residual.result c.from_residual.ensures.1 in
    rw (p.1, p.2) (first_refusal c.args.elf.now c.args.wholes.now c.args.parts.now c.loop-part.part-index _ _
    c.in_err-insts.field-0.0 c.requires.ordered c.loop-part-test.true c.loop-part.invariant c.in_err-insts.ensures.fault)

pub loop-part-preserved : goal.loop-part-preserved
loop-part-preserved c =
    made_next c.args.elf.now c.args.wholes.now c.args.parts.now c.loop-part.part-index _ _ _ _
    c.requires.ordered c.loop-part-test.true
    (record { start = refl; end = refl; whole = c.is_whole.ensures; insts = c.in_ok-insts.ensures.placed })
    c.in_ok-push.ensures.items c.loop-part.invariant

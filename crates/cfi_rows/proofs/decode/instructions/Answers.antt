use Rattle.std.proofs.Common.{rules, ◌≡◌, ◌∙◌, ◌<◌, ◌≤◌, length, ap, sym, ◌-◌, ◌+◌}
use Rattle.std.proofs.lemmas.Result.{err_from_is_err_and}
use Rattle.cfi_rows.specs.FrameInstructions.{instructions_in}
use Rattle.cfi_rows.specs.Reads.{context_of}
use Rattle.cfi_rows.proofs.InstructionLists.{after, next, fails, ends, runs_out, one-more}
use Rattle.cfi_rows.proofs.Failures.{fails_by}
use Rattle.cfi_rows.proofs.decode.instructions.Goals as goal

pub returns-then-left-eq0-clause-ok : goal.returns-then-left-eq0-clause-ok
returns-then-left-eq0-clause-ok c =
    let z : length c.loop-count.cursor.left ≡ 0 = search rules in c.loop-count.invariant.0 ∙ ends _ _ _ _ z

pub returns-in_err-instruction-clause-err : goal.returns-in_err-instruction-clause-err
returns-in_err-instruction-clause-err c =
    let z : 0 < length c.loop-count.cursor.left = search rules in
    let h : c.loop-count.count < c.left-count-end.result = search rules in
    let p = err_from_is_err_and c.from_residual.result c.from_residual.ensures.1 in
    rw (p.1, p.2)
    (fails_by c.in_err-instruction.field-0.0 (λ e. c.loop-count.invariant.0 ∙ fails _ _ _ _ _ _ h z e) c.in_err-instruction.ensures.err)

pub loop-count-preserved : goal.loop-count-preserved
loop-count-preserved c =
    let z : 0 < length c.loop-count.cursor.left = search rules in
    let h : c.loop-count.count < c.left-count-end.result = search rules in (
      c.loop-count.invariant.0 ∙ next _ _ _ _ _ _ _ h z c.in_ok-instruction.ensures.ok
          ∙ ap
          (λ xs. after xs (instructions_in (context_of c.args.factors.now) (c.left-count-end.result - (c.loop-count.count + 1))
          c.instruction.new.cursor.left)) (sym c.in_ok-push.ensures.items),
      one-more _ _ _ _ _ _ c.in_ok-push.ensures.items c.loop-count.invariant.1 c.in_ok-instruction.ensures.room,
    )

pub returns-then-left-gt0-clause-err : goal.returns-then-left-gt0-clause-err
returns-then-left-gt0-clause-err c =
    let z : 0 < length c.loop-count.cursor.left = search rules in
    let h : c.left-count-end.result ≤ c.loop-count.count = search rules in
    c.loop-count.invariant.0 ∙ runs_out _ _ _ _ _ h z

pub returns-clause-ok : goal.returns-clause-ok
returns-clause-ok c =
    let z : length c.loop-count.cursor.left ≡ 0 = search rules in c.loop-count.invariant.0 ∙ ends _ _ _ _ z

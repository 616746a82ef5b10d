use Rattle.std.proofs.Common.{◌∙◌, Some, sym, ap}
use Rattle.std.proofs.lemmas.Result.{err_from_is_err_and}
use Rattle.rb_bytes.specs.Readers.{Reading}
use Rattle.cfi_rows.specs.FrameInstructions.{instructions_at}
use Rattle.cfi_rows.specs.FrameRows.{known_after, begins, nothing_known}
use Rattle.cfi_rows.specs.Entries.{head_at}
use Rattle.cfi_rows.proofs.Failures.{fails_by}
use Rattle.cfi_rows.proofs.CieParts.{no-known}
use Rattle.cfi_rows.proofs.cie_program.read_cie_program.Goals as goal

pub returns-in_err-known-clause-err : goal.returns-in_err-known-clause-err
returns-in_err-known-clause-err c =
    let p = err_from_is_err_and c.from_residual-in_err-known.result c.from_residual-in_err-known.ensures.1 in
    rw (p.1, p.2)
    (fails_by c.in_err-known.field-0.0
    (λ n. no-known c.args.end c.args.body.now _ _ _ (sym (ap (λ (r : Reading). head_at c.args.end r.left) c.new-cursor.ensures)
    ∙ c.in_ok-head.ensures.ok)
    (ap (λ x. instructions_at x c.read_head.new.cursor.left) (sym c.factors.ensures) ∙ c.in_ok-list.ensures.ok)
    (ap (λ is. known_after is (Some (begins 0 nothing_known))) (sym c.deref.ensures.value) ∙ n))
    c.in_err-known.ensures.err)

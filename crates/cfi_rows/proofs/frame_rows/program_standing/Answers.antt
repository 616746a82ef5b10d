use Rattle.std.proofs.Common.{sym, ap}
use Rattle.std.proofs.lemmas.Result.{err_from_is_err_and}
use Rattle.std.specs.Rc.{rc_value}
use Rattle.cfi_rows.specs.Entries.{RawEntry}
use Rattle.cfi_rows.specs.FramePrograms.{section_in}
use Rattle.cfi_rows.proofs.Failures.{fails_by}
use Rattle.cfi_rows.proofs.FrameLookups.{program-at, no-entry, no-cie, no-program}
use Rattle.cfi_rows.proofs.frame_rows.program_standing.Goals as goal

pub returns-clause-program : goal.returns-clause-program
returns-clause-program c =
    program-at c.read_program.result c.args.debug (section_in c.args.held.now) c.args.place _
    c.in_ok-entry.entry (rc_value c.in_ok-cie.cie) c.end.result c.entry.inside.body.now c.in_ok-entry.ensures.entry c.in_ok-cie.ensures.cie
    c.end.ensures.is (sym (ap (λ (e : RawEntry). e.body) c.entry.view_is)) c.read_program.ensures.program

pub returns-in_err-entry-clause-err : goal.returns-in_err-entry-clause-err
returns-in_err-entry-clause-err c =
    let p = err_from_is_err_and c.from_residual.result c.from_residual.ensures.1 in
    rw (p.1, p.2)
    (fails_by c.in_err-entry.field-0.0 (λ n. λ read. no-entry c.args.debug (section_in c.args.held.now) c.args.place n)
    c.in_err-entry.ensures.err)

pub returns-in_err-cie-clause-err : goal.returns-in_err-cie-clause-err
returns-in_err-cie-clause-err c =
    let p = err_from_is_err_and c.from_residual-in_err-cie.result c.from_residual-in_err-cie.ensures.1 in
    rw (p.1, p.2)
    (fails_by c.in_err-cie.field-0.0
    (λ n. λ read. no-cie c.args.debug (section_in c.args.held.now) c.args.place c.in_ok-entry.entry c.in_ok-entry.ensures.entry n)
    c.in_err-cie.ensures.err)

pub returns-clause-err : goal.returns-clause-err
returns-clause-err c =
    no-program c.read_program.result c.args.debug (section_in c.args.held.now) c.args.place _
    c.in_ok-entry.entry (rc_value c.in_ok-cie.cie) c.end.result c.entry.inside.body.now c.in_ok-entry.ensures.entry
    c.in_ok-cie.ensures.cie c.end.ensures.is (sym (ap (λ (e : RawEntry). e.body) c.entry.view_is)) c.read_program.ensures.err

use Rattle.std.proofs.Common.{sym, subst}
use Rattle.std.proofs.lemmas.Result.{err_from_is_err_and}
use Rattle.elf_image.specs.file.ParsedFile.{IsElfOf}
use Rattle.cli_base.proofs.ProgramFiles.{large_refused, runnable, unreadable_refused}
use Rattle.cli_base.proofs.programs.file_program.Goals as goal

pub returns-in_err-program-clause-fault : goal.returns-in_err-program-clause-fault
returns-in_err-program-clause-fault c =
    let p = err_from_is_err_and c.from_residual.result c.from_residual.ensures.1 in
    rw (p.1, p.2) (unreadable_refused c.args.file.now c.requires c.in_err-program.field-0.0 c.in_err-program.ensures.fault)

pub check_code-requires : goal.check_code-requires
check_code-requires c =
    let read = c.in_ok-program.ensures.program.faultless.read in
    subst (λ f. IsElfOf f c.in_ok-program.program.elf) (sym read.file_is) read

pub returns-in_err-check_code-clause-fault : goal.returns-in_err-check_code-clause-fault
returns-in_err-check_code-clause-fault c =
    let p = err_from_is_err_and c.from_residual-in_err-check_code.result c.from_residual-in_err-check_code.ensures.1 in
    rw (p.1, p.2) (large_refused c.args.file.now c.in_ok-program.program c.deref.result.now c.in_ok-program.ensures.program
    c.deref.ensures.value c.in_err-check_code.field-0.0 c.in_err-check_code.ensures.refused)

pub returns-clause-program : goal.returns-clause-program
returns-clause-program c =
    runnable c.args.file.now c.in_ok-program.program c.deref.result.now c.in_ok-program.ensures.program c.deref.ensures.value
    c.in_ok-check_code.ensures.within

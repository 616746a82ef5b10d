use Rattle.std.proofs.Common.{subst, sym}
use Rattle.rv_code.specs.layout.FunctionLists.{AreLaidOut}
use Rattle.program.proofs.Programs.{laid_out}
use Rattle.cli_check.proofs.judging.verdict.Goals as goal

pub is_tight-requires-clause-laid : goal.is_tight-requires-clause-laid
is_tight-requires-clause-laid c =
    let p = c.args.program.now in
    laid_out p.elf.file.now p.elf c.requires.program.program.faultless p.funcs.items c.requires.program.program.code_is.funcs

pub check-requires-clause-laid : goal.check-requires-clause-laid
check-requires-clause-laid c =
    let p = c.args.program.now in
    subst AreLaidOut (sym c.deref.ensures.value)
    (laid_out p.elf.file.now p.elf c.requires.program.program.faultless p.funcs.items
    c.requires.program.program.code_is.funcs)

pub check-requires-clause-output : goal.check-requires-clause-output
check-requires-clause-output c =
    let output = c.requires.output in
    record { file = c.args.output.now.file.now; fields = output.read; sound = output.image.sound }

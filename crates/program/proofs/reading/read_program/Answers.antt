use Rattle.std.proofs.Common.{◌∙◌}
use Rattle.std.proofs.lemmas.Result.{err_from_is_err_and}
use Rattle.program.proofs.ReadPrograms.{functions_refused, program_read, references_refused}
use Rattle.program.proofs.reading.read_program.Goals as goal

pub returns-in_err-refs-clause-fault : goal.returns-in_err-refs-clause-fault
returns-in_err-refs-clause-fault c =
    let p = err_from_is_err_and c.from_residual-in_err-refs.result c.from_residual-in_err-refs.ensures.1 in
    rw (p.1, p.2) (references_refused c.args.file.now c.in_ok-elf.elf c.in_ok-elf.ensures.fields c.requires
    c.in_ok-elf.ensures.sound c.as_slice-whole.result.now
    (c.as_slice-whole.ensures.value ∙ c.in_ok-ranges.ensures)
    c.in_err-refs.field-0.0 c.in_err-refs.ensures.fault)

pub returns-in_err-funcs-clause-fault : goal.returns-in_err-funcs-clause-fault
returns-in_err-funcs-clause-fault c =
    let p = err_from_is_err_and c.from_residual-in_err-funcs.result c.from_residual-in_err-funcs.ensures.1 in
    rw (p.1, p.2) (functions_refused c.args.file.now c.in_ok-elf.elf c.in_ok-elf.ensures.fields c.requires
    c.in_ok-elf.ensures.sound c.as_slice-whole.result.now
    (c.as_slice-whole.ensures.value ∙ c.in_ok-ranges.ensures) c.in_ok-refs.ensures.free
    c.in_err-funcs.field-0.0 c.in_err-funcs.ensures.fault)

pub returns-clause-program : goal.returns-clause-program
returns-clause-program c =
    program_read c.args.file.now c.in_ok-elf.elf c.in_ok-elf.ensures.fields c.requires
    c.in_ok-elf.ensures.sound c.as_slice-whole.result.now
    (c.as_slice-whole.ensures.value ∙ c.in_ok-ranges.ensures) c.in_ok-refs.ensures.free
    c.in_ok-funcs.funcs.items _ c.in_ok-refs.refs c.in_ok-blocks.blocks.items c.deref-3.ensures.value c.in_ok-refs.ensures.refs
    c.in_ok-funcs.ensures.functions c.in_ok-funcs.ensures.free c.in_ok-blocks.ensures

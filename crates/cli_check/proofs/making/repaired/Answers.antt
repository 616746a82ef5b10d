use Rattle.std.proofs.lemmas.Result.{err_from_is_err_and}
use Rattle.cli_check.proofs.RepairSteps.{no_program_refused, program_again, repair_again}
use Rattle.cli_check.proofs.making.repaired.Goals as goal

pub returns-in_err-program-clause-fault : goal.returns-in_err-program-clause-fault
returns-in_err-program-clause-fault c =
    let p = err_from_is_err_and c.from_residual.result c.from_residual.ensures.1 in
    rw (p.1, p.2) (no_program_refused c.args.inputs.now.file.items c.deref.result.now c.args.inputs.now.profile.items
    c.deref.ensures.value c.requires.profile c.in_err-program.field-0.0 c.in_err-program.ensures.fault)

pub repaired_counts-requires-clause-program : goal.repaired_counts-requires-clause-program
repaired_counts-requires-clause-program c =
    program_again c.deref.result.now c.in_ok-program.program c.in_ok-program.ensures.program

pub returns-clause-made : goal.returns-clause-made
returns-clause-made c =
    repair_again c.args.inputs.now.file.items c.deref.result.now c.args.inputs.now.profile.items c.deref-2.result.now
    c.in_ok-made.made.profile.items c.in_ok-made.made.lines.items c.in_ok-program.program c.deref.ensures.value
    c.deref-2.ensures.value c.in_ok-program.ensures.program c.in_ok-made.ensures

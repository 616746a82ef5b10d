use Rattle.std.proofs.Common.{subst, refl}
use Rattle.run_core.specs.Inputs.{Outside}
use Rattle.rv_machine.specs.State.{state_of}
use Rattle.rv_machine.specs.StepResults.{answered}
use Rattle.cli_args.specs.Args.{run_given}
use Rattle.cli_run.specs.run.ByteRuns.{byte_machine}
use Rattle.cli_run.specs.run.Phases.{Closed}
use Rattle.cli_base.specs.declared.status.Status.{Status}
use Rattle.cli_run.proofs.RunEnds as ends
use Rattle.cli_run.proofs.byte_run.run_elf.Goals as goal

pub returns-in_default-clause-ran : goal.returns-in_default-clause-ran
returns-in_default-clause-ran g c = ends.unstarted (byte_machine c.args.elf.now.file.now (run_given c.args.args.now).args)
    c.args.args.now.limit _ (λ input. refl)

pub returns-clause-ran : goal.returns-clause-ran
returns-clause-ran g c =
    let before : Outside = record { input = g.I.Source.seen c.args.input.now; output = g.O.Sink.seen c.args.out.now } in
    let mid : Outside = record { input = g.I.Source.seen c.run-ran.new.input; output = g.O.Sink.seen c.run-ran.new.out } in
    let after : Outside = record { input = g.I.Source.seen c.run-ran.new.input; output = g.O.Sink.seen c.close.new.out } in
    ends.answered state_of (byte_machine c.args.elf.now.file.now (run_given c.args.args.now).args) c.args.args.now.limit
    c.in-Ok.machine c.run-ran.new.self c.run-ran.result.steps before mid after
    c.in-Ok.ensures (λ input. refl) (λ pc cause result steps b a printed. printed)
    refl refl c.run-ran.ensures.writes c.close.ensures.never_falls
    (answered c.run-ran.result.end) c.close.result c.run-ran.ensures.answer
    (subst (λ (came : Status). Closed c.close.result c.run-ran.result.steps mid.output after.output came)
    c.status_of.ensures c.close.ensures.closed)

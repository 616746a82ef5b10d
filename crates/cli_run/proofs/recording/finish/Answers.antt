use Rattle.std.proofs.Common.{◌∙◌, refl, sym}
use Rattle.rv_machine.specs.StepResults.{answered}
use Rattle.cli_base.specs.World.{World, world}
use Rattle.cli_run.proofs.Outcomes.{finished, left}
use Rattle.cli_run.proofs.recording.finish.Goals as goal

pub returns-then-is_outcome-clause-finished : goal.returns-then-is_outcome-clause-finished
returns-then-is_outcome-clause-finished g c = λ input seen.
    let old : World = world (g.F.Files.seen c.args.files.now) input (g.O.Sink.seen c.args.out.now) in
    let new : World = world (g.F.Files.seen c.write_profile.new.files) seen (g.O.Sink.seen c.write_profile.new.out) in
    finished c.write_profile.result c.args.name.now c.args.recorded.now.text.items c.args.recorded.now.ran.steps old new
    (answered c.args.recorded.now.ran.end) c.status_of-came.result c.status_of-came.ensures
    (sym c.is_outcome.ensures ∙ c.if-is_outcome.true) (c.write_profile.ensures.written input seen)

pub returns-else-is_outcome-clause-finished : goal.returns-else-is_outcome-clause-finished
returns-else-is_outcome-clause-finished g c = λ input seen.
    let old : World = world (g.F.Files.seen c.args.files.now) input (g.O.Sink.seen c.args.out.now) in
    let new : World = world (g.F.Files.seen c.args.files.now) seen (g.O.Sink.seen c.args.out.now) in
    left c.status_of-came.result c.args.name.now c.args.recorded.now.text.items c.args.recorded.now.ran.steps old new
    (answered c.args.recorded.now.ran.end) c.status_of-came.ensures
    (sym c.is_outcome.ensures ∙ c.if-is_outcome.false) (record { each = λ name. refl }) refl

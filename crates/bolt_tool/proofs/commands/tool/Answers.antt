use Rattle.std.proofs.Common.{Option, subst}
use Rattle.bolt_tool.specs.CommandAnswers.{KeepsInput, Serves}
use Rattle.cli_args.specs.CommandLine.{Command}
use Rattle.cli_base.specs.World.{World, world}
use Rattle.bolt_tool.proofs.commands.tool.Goals as goal

pub returns-in-Some-clause-serves : goal.returns-in-Some-clause-serves
returns-in-Some-clause-serves g c =
    let old : World = world (g.F.Files.seen c.args.files.now) (g.I.Source.seen c.args.input.now) (g.O.Sink.seen c.args.out.now) in
    let new : World =
    world (g.F.Files.seen c.perform.new.files) (g.I.Source.seen c.perform.new.input) (g.O.Sink.seen c.perform.new.out) in
    subst (λ (o : Option Command). Serves o c.perform.result old new) c.in-Some.ensures.command c.perform.ensures.serves

pub returns-in-Some-clause-input_kept : goal.returns-in-Some-clause-input_kept
returns-in-Some-clause-input_kept g c =
    subst (λ (o : Option Command). KeepsInput o c.perform.result c.args.input.now c.perform.new.input) c.in-Some.ensures.command
    c.perform.ensures.input_kept

pub returns-in-None-clause-serves : goal.returns-in-None-clause-serves
returns-in-None-clause-serves g c =
    let old : World = world (g.F.Files.seen c.args.files.now) (g.I.Source.seen c.args.input.now) (g.O.Sink.seen c.args.out.now) in
    let new : World =
    world (g.F.Files.seen c.args.files.now) (g.I.Source.seen c.args.input.now) (g.O.Sink.seen c.usage.new.out) in
    subst (λ (o : Option Command). Serves o c.usage.result old new) c.in-None.ensures.command
    (c.usage.ensures (g.I.Source.seen c.args.input.now))

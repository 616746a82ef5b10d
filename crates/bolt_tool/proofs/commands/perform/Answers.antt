use Rattle.std.proofs.Common.{◌≡◌, Some, sym, subst}
use Rattle.rb_io.specs.Views.{FilesSeen, SourceSeen, SinkSeen}
use Rattle.cli_base.specs.World.{world}
use Rattle.cli_base.specs.declared.status.Status.{Status}
use Rattle.bolt_tool.specs.CommandAnswers.{Serves}
use Rattle.cli_args.specs.CommandLineViews.{command_read}
use Rattle.cli_args.specs.declared.command_line.Command.{Command}
use Rattle.bolt_tool.proofs.commands.perform.Goals as goal

-- a command that doesn't use standard input, for any input
untouched : (command done : Command) (answer : Status) (f g : FilesSeen) (input : SourceSeen) (o p : SinkSeen) → command ≡ done →
    ((any : SourceSeen) → Serves (Some (command_read done)) answer (world f any o) (world g any p)) →
    Serves (Some (command_read command)) answer (world f input o) (world g input p)
untouched command done answer f g input o p is serves =
    subst (λ (command : Command). Serves (Some (command_read command)) answer (world f input o) (world g input p)) (sym is) (serves input)

pub returns-in-Rewrite-clause-serves : goal.returns-in-Rewrite-clause-serves
returns-in-Rewrite-clause-serves g c = untouched _ _ _ _ _ _ _ _ c.in-Rewrite.is c.rewrite.ensures

pub returns-in-Map-clause-serves : goal.returns-in-Map-clause-serves
returns-in-Map-clause-serves g c = untouched _ _ _ _ _ _ _ _ c.in-Map.is c.print_map.ensures

pub returns-in-Repair-clause-serves : goal.returns-in-Repair-clause-serves
returns-in-Repair-clause-serves g c = untouched _ _ _ _ _ _ _ _ c.in-Repair.is c.repair.ensures

pub returns-in-Lookup-clause-serves : goal.returns-in-Lookup-clause-serves
returns-in-Lookup-clause-serves g c = untouched _ _ _ _ _ _ _ _ c.in-Lookup.is c.look_up.ensures

pub returns-in-Sample-clause-serves : goal.returns-in-Sample-clause-serves
returns-in-Sample-clause-serves g c = untouched _ _ _ _ _ _ _ _ c.in-Sample.is c.sample.ensures

pub returns-in-Verify-clause-serves : goal.returns-in-Verify-clause-serves
returns-in-Verify-clause-serves g c = untouched _ _ _ _ _ _ _ _ c.in-Verify.is c.verify.ensures

pub returns-in-Frames-clause-serves : goal.returns-in-Frames-clause-serves
returns-in-Frames-clause-serves g c = untouched _ _ _ _ _ _ _ _ c.in-Frames.is c.look_up-in-Frames.ensures

use Rattle.std.proofs.Common.{◌≤◌, arith, subst}
use Rattle.rb_io.specs.Views.{SinkSeen}
use Rattle.cli_base.specs.Printing.{Refuses}
use Rattle.cli_base.specs.World.{World, world}
use Rattle.cli_base.proofs.FaultCounts.{go_on_after}
use Rattle.cli_base.proofs.InputAnswering.{IsBetween, is_stopped, stops_too}
use Rattle.cli_check.specs.RepairAnswers.{IsRepairOfFiles, stopped}
use Rattle.cli_args.specs.Args.{RepairNames, repair_given}
use Rattle.cli_check.specs.RepairedFiles.{CannotRepair}
use Rattle.cli_check.proofs.RepairEnds.{ends, long_refused, serves}
use Rattle.cli_check.proofs.repairing.repair.Goals as goal

pub returns-in-Err : goal.returns-in-Err
returns-in-Err g c = λ input.
    let names : RepairNames = repair_given c.args.args.now in
    let old : World = world (g.F.Files.seen c.args.files.now) input (g.O.Sink.seen c.args.out.now) in
    let new : World = world (g.F.Files.seen c.read_inputs.new.files) input (g.O.Sink.seen c.read_inputs.new.out) in
    serves names c.in-Err.answer old new
    (stopped (stops_too CannotRepair long_refused names.inputs old new c.in-Err.answer (c.in-Err.ensures.stopped input)))
    c.in-Err.ensures.files_go_on (omega arith) c.in-Err.ensures.faults

pub returns : goal.returns
returns g c = λ input.
    let names : RepairNames = repair_given c.args.args.now in
    let old : World = world (g.F.Files.seen c.args.files.now) input (g.O.Sink.seen c.args.out.now) in
    let new : World = world (g.F.Files.seen c.read_inputs.new.files) input (g.O.Sink.seen c.refuse.new.out) in
    let first : old.output.faults ≤ (g.O.Sink.seen c.read_inputs.new.out).faults = c.in-Ok.ensures.faults in
    let next : (g.O.Sink.seen c.read_inputs.new.out).faults ≤ new.output.faults = c.refuse.ensures.never_falls in
    let says : Refuses c.in-Err-repaired.refusal c.refuse.result old.output new.output =
    subst (λ (s : SinkSeen). Refuses c.in-Err-repaired.refusal c.refuse.result s new.output) c.in-Ok.ensures.unprinted
    c.refuse.ensures.refused in
    serves names c.refuse.result old new
    (stopped (is_stopped CannotRepair c.refuse.result c.in-Err-repaired.refusal names.inputs old new c.in-Ok.inputs.file.items
    c.in-Ok.inputs.profile.items says c.in-Ok.ensures.kept c.in-Ok.ensures.read c.in-Err-repaired.ensures.fault))
    c.in-Ok.ensures.files_go_on (omega arith) (omega arith)

pub returns-in-Ok-repaired : goal.returns-in-Ok-repaired
returns-in-Ok-repaired g c = λ input.
    let names : RepairNames = repair_given c.args.args.now in
    let old : World = world (g.F.Files.seen c.args.files.now) input (g.O.Sink.seen c.args.out.now) in
    let mid : World = world (g.F.Files.seen c.read_inputs.new.files) input (g.O.Sink.seen c.read_inputs.new.out) in
    let new : World = world (g.F.Files.seen c.write_repaired.new.files) input (g.O.Sink.seen c.write_repaired.new.out) in
    let between : IsBetween old mid =
    record { contents = c.in-Ok.ensures.kept; go_on = c.in-Ok.ensures.files_go_on; output_is = c.in-Ok.ensures.unprinted } in
    let made : IsRepairOfFiles names.inputs old.files c.in-Ok-repaired.made.profile.items c.in-Ok-repaired.made.lines.items =
    record {
      file = c.in-Ok.inputs.file.items;
      profile = c.in-Ok.inputs.profile.items;
      are_read = c.in-Ok.ensures.read;
      repair = c.in-Ok-repaired.ensures.made;
    } in
    let first : old.output.faults ≤ mid.output.faults = c.in-Ok.ensures.faults in
    let next : mid.output.faults ≤ new.output.faults = c.write_repaired.ensures.never_falls in
    serves names c.write_repaired.result old new
    (ends names c.in-Ok-repaired.made.profile.items c.in-Ok-repaired.made.lines.items old mid new between made
    c.write_repaired.result (c.write_repaired.ensures.written input))
    (go_on_after _ _ _ c.in-Ok.ensures.files_go_on c.write_repaired.ensures.files_go_on) (omega arith) (omega arith)

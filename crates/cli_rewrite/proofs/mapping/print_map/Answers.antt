use Rattle.std.proofs.Common.{◌≤◌, arith, refl}
use Rattle.cli_args.specs.Args.{inputs_read}
use Rattle.cli_base.specs.World.{World, world}
use Rattle.cli_base.specs.declared.status.Status.TheVariants as status
use Rattle.cli_rewrite.specs.InputAnswers.{made_by}
use Rattle.cli_rewrite.specs.MapAnswers.{stopped}
use Rattle.cli_base.proofs.InputAnswering.{IsBetween}
use Rattle.cli_rewrite.proofs.Answering.{fails, prints}
use Rattle.cli_rewrite.proofs.Completing.{serves_map}
use Rattle.cli_rewrite.proofs.mapping.print_map.Goals as goal

pub returns-in-Err : goal.returns-in-Err
returns-in-Err g c = λ input.
    let old : World = world (g.F.Files.seen c.args.files.now) input (g.O.Sink.seen c.args.out.now) in
    let new : World = world (g.F.Files.seen c.rewrite_inputs.new.files) input (g.O.Sink.seen c.rewrite_inputs.new.out) in
    serves_map (inputs_read c.args.args.now) c.in-Err.answer old new (stopped (c.in-Err.ensures.stopped input))
    c.in-Err.ensures.files_go_on (omega arith) c.in-Err.ensures.faults

pub returns-in-Took : goal.returns-in-Took
returns-in-Took g c = λ input.
    let old : World = world (g.F.Files.seen c.args.files.now) input (g.O.Sink.seen c.args.out.now) in
    let mid : World = world (g.F.Files.seen c.rewrite_inputs.new.files) input (g.O.Sink.seen c.rewrite_inputs.new.out) in
    let new : World = world (g.F.Files.seen c.rewrite_inputs.new.files) input (g.O.Sink.seen c.print.new.out) in
    let between : IsBetween old mid =
    record { contents = c.in-Ok.ensures.kept; go_on = c.in-Ok.ensures.files_go_on; output_is = c.in-Ok.ensures.unprinted } in
    let first : old.output.faults ≤ mid.output.faults = c.in-Ok.ensures.faults in
    let next : mid.output.faults ≤ new.output.faults = c.print.ensures.never_falls in
    serves_map (inputs_read c.args.args.now) status.Ok old new
    (prints (inputs_read c.args.args.now)
    (made_by c.in-Ok.rewritten) old mid new between c.in-Ok.ensures.made c.in-Ok.ensures.kept c.in-Took.ensures.all)
    c.in-Ok.ensures.files_go_on (omega arith) (omega arith)

pub returns : goal.returns
returns g c = λ input.
    let old : World = world (g.F.Files.seen c.args.files.now) input (g.O.Sink.seen c.args.out.now) in
    let mid : World = world (g.F.Files.seen c.rewrite_inputs.new.files) input (g.O.Sink.seen c.rewrite_inputs.new.out) in
    let new : World = world (g.F.Files.seen c.rewrite_inputs.new.files) input (g.O.Sink.seen c.print.new.out) in
    let between : IsBetween old mid =
    record { contents = c.in-Ok.ensures.kept; go_on = c.in-Ok.ensures.files_go_on; output_is = c.in-Ok.ensures.unprinted } in
    let first : old.output.faults ≤ mid.output.faults = c.in-Ok.ensures.faults in
    let next : mid.output.faults ≤ new.output.faults = c.print.ensures.never_falls in
    serves_map (inputs_read c.args.args.now) status.WriteFault old new
    (fails (inputs_read c.args.args.now) (made_by c.in-Ok.rewritten) old mid new between c.in-Ok.ensures.made
    c.in-Ok.ensures.kept (c.in-Failed.ensures.failed refl) (c.in-Failed.ensures.front refl))
    c.in-Ok.ensures.files_go_on (omega arith) (omega arith)

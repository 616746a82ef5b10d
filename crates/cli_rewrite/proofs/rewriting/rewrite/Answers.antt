use Rattle.std.proofs.Common.{◌≤◌, arith}
use Rattle.cli_args.specs.Args.{names_read}
use Rattle.cli_base.specs.World.{World, world}
use Rattle.cli_rewrite.specs.InputAnswers.{made_by}
use Rattle.cli_rewrite.specs.RewriteAnswers.{stopped}
use Rattle.cli_base.proofs.InputAnswering.{IsBetween}
use Rattle.cli_rewrite.proofs.Answering.{writes}
use Rattle.cli_base.proofs.FaultCounts.{go_on_after}
use Rattle.cli_rewrite.proofs.Completing.{serves}
use Rattle.cli_rewrite.proofs.rewriting.rewrite.Goals as goal

pub returns-in-Err : goal.returns-in-Err
returns-in-Err g c = λ input.
    let old : World = world (g.F.Files.seen c.args.files.now) input (g.O.Sink.seen c.args.out.now) in
    let new : World = world (g.F.Files.seen c.rewrite_inputs.new.files) input (g.O.Sink.seen c.rewrite_inputs.new.out) in
    serves (names_read c.args.args.now) c.in-Err.answer old new (stopped (c.in-Err.ensures.stopped input))
    c.in-Err.ensures.files_go_on (omega arith) c.in-Err.ensures.faults

pub returns : goal.returns
returns g c = λ input.
    let old : World = world (g.F.Files.seen c.args.files.now) input (g.O.Sink.seen c.args.out.now) in
    let mid : World = world (g.F.Files.seen c.rewrite_inputs.new.files) input (g.O.Sink.seen c.rewrite_inputs.new.out) in
    let new : World = world (g.F.Files.seen c.write_outputs.new.files) input (g.O.Sink.seen c.write_outputs.new.out) in
    let between : IsBetween old mid =
    record { contents = c.in-Ok.ensures.kept; go_on = c.in-Ok.ensures.files_go_on; output_is = c.in-Ok.ensures.unprinted } in
    let first : old.output.faults ≤ mid.output.faults = c.in-Ok.ensures.faults in
    let next : mid.output.faults ≤ new.output.faults = c.write_outputs.ensures.faults in
    serves (names_read c.args.args.now) c.write_outputs.result old new
    (writes (names_read c.args.args.now) (made_by c.in-Ok.rewritten) old mid new between c.in-Ok.ensures.made
    c.in-Ok-texts_of.texts c.in-Ok-texts_of.ensures c.write_outputs.result (c.write_outputs.ensures.answer input))
    (go_on_after _ _ _ c.in-Ok.ensures.files_go_on c.write_outputs.ensures.files_go_on) (omega arith) (omega arith)

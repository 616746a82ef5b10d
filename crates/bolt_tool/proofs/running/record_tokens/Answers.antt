use Rattle.std.proofs.Common.{◌≡◌, ◌∙◌, ap}
use Rattle.std.specs.Prelude.{map, string_bytes}
use Rattle.cli_base.specs.World.{World, world}
use Rattle.cli_args.specs.Args.{RecordArgs}
use Rattle.cli_args.specs.CommandLineViews.{record_read}
use Rattle.bolt_tool.proofs.GivenRuns.{given_records}
use Rattle.bolt_tool.proofs.running.record_tokens.Goals as goal

pub returns-clause-serves : goal.returns-clause-serves
returns-clause-serves g c =
    let args : RecordArgs = record_read c.args.tokens.now in
    let old : World = world (g.F.Files.seen c.args.files.now) (g.I.Source.seen c.args.input.now) (g.O.Sink.seen c.args.out.now) in
    let new : World =
    world (g.F.Files.seen c.record.new.files) (g.I.Source.seen c.record.new.input) (g.O.Sink.seen c.record.new.out) in
    let same : map string_bytes c.deref.result.now ≡ args.run.args = ap (map string_bytes) c.deref.ensures.value ∙ c.in-Ok.ensures in
    given_records args.run.file args.run.limit (map string_bytes c.deref.result.now) args.run.args same args.out c.record.result
    old new c.record.ensures.serves

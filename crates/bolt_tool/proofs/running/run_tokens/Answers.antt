use Rattle.std.proofs.Common.{◌≡◌, ◌∙◌, ap, refl}
use Rattle.std.specs.Prelude.{map, string_bytes}
use Rattle.cli_base.specs.World.{World, world}
use Rattle.cli_base.specs.declared.status.Status.TheVariants as status
use Rattle.cli_args.specs.Args.{RunArgs}
use Rattle.cli_run.proofs.RunModes.{no_memory_serves}
use Rattle.cli_args.specs.CommandLineViews.{run_read}
use Rattle.bolt_tool.proofs.GivenRuns.{given_serves, run_keeps, run_serves}
use Rattle.bolt_tool.proofs.running.run_tokens.Goals as goal

pub returns-in_default-clause-serves : goal.returns-in_default-clause-serves
returns-in_default-clause-serves g c =
    let args : RunArgs = run_read c.args.tokens.now in
    let w : World = world (g.F.Files.seen c.args.files.now) (g.I.Source.seen c.args.input.now) (g.O.Sink.seen c.args.out.now) in
    run_serves c.args.mode args status.NoMemory w w (no_memory_serves c.args.mode args w)

pub returns-in_default-clause-input_kept : goal.returns-in_default-clause-input_kept
returns-in_default-clause-input_kept g c =
    run_keeps c.args.mode (run_read c.args.tokens.now) status.NoMemory c.args.input.now c.args.input.now
    (record { refused = λ fault same. refl; untouched = λ touched. refl })

pub returns-clause-serves : goal.returns-clause-serves
returns-clause-serves g c =
    let args : RunArgs = run_read c.args.tokens.now in
    let old : World = world (g.F.Files.seen c.args.files.now) (g.I.Source.seen c.args.input.now) (g.O.Sink.seen c.args.out.now) in
    let new : World =
    world (g.F.Files.seen c.run.new.files) (g.I.Source.seen c.run.new.input) (g.O.Sink.seen c.run.new.out) in
    let same : map string_bytes c.deref.result.now ≡ args.args = ap (map string_bytes) c.deref.ensures.value ∙ c.in-Ok.ensures in
    given_serves args.file args.limit (map string_bytes c.deref.result.now) args.args same c.args.mode c.run.result old new
    c.run.ensures.serves

pub returns-clause-input_kept : goal.returns-clause-input_kept
returns-clause-input_kept g c =
    run_keeps c.args.mode (run_read c.args.tokens.now) c.run.result c.args.input.now c.run.new.input c.run.ensures.input_kept

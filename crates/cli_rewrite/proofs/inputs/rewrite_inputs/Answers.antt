use Rattle.std.proofs.Common.{subst}
use Rattle.std.proofs.lemmas.Result.{err_from_is_err_and}
use Rattle.rb_io.specs.Views.{SinkSeen}
use Rattle.bolt_core.specs.Refusals.{IsRefused}
use Rattle.cli_args.specs.Args.{inputs_read}
use Rattle.cli_base.specs.Printing.{Refuses}
use Rattle.cli_base.specs.World.{World, world}
use Rattle.cli_base.proofs.InputAnswering.{are_read, is_stopped, stops_too}
use Rattle.cli_rewrite.proofs.Answering.{long_refused}
use Rattle.cli_rewrite.proofs.inputs.rewrite_inputs.Goals as goal

pub returns-in_err-inputs-clause-stopped : goal.returns-in_err-inputs-clause-stopped
returns-in_err-inputs-clause-stopped g c = λ input.
    let p = err_from_is_err_and c.from_residual.result c.from_residual.ensures.1 in
    let old : World = world (g.F.Files.seen c.args.files.now) input (g.O.Sink.seen c.args.out.now) in
    let new : World = world (g.F.Files.seen c.read_inputs.new.files) input (g.O.Sink.seen c.read_inputs.new.out) in
    rw (p.1, p.2) (stops_too IsRefused long_refused (inputs_read c.args.args.now) old new c.in_err-inputs.field-0.0
    (c.in_err-inputs.ensures.stopped input))

pub returns-clause-stopped : goal.returns-clause-stopped
returns-clause-stopped g c = λ input.
    let old : World = world (g.F.Files.seen c.args.files.now) input (g.O.Sink.seen c.args.out.now) in
    let new : World = world (g.F.Files.seen c.read_inputs.new.files) input (g.O.Sink.seen c.refuse.new.out) in
    let says : Refuses c.in-Err.refusal c.refuse.result old.output new.output =
    subst (λ (s : SinkSeen). Refuses c.in-Err.refusal c.refuse.result s new.output) c.in_ok-inputs.ensures.unprinted
    c.refuse.ensures.refused in
    is_stopped IsRefused c.refuse.result c.in-Err.refusal (inputs_read c.args.args.now) old new c.deref.result.now
    c.deref-2.result.now says c.in_ok-inputs.ensures.kept
    (λ told. are_read _ _ _ _ _ _ c.deref.ensures.value c.deref-2.ensures.value (c.in_ok-inputs.ensures.read told))
    c.in-Err.ensures.refused

pub returns-in-Ok-clause-made : goal.returns-in-Ok-clause-made
returns-in-Ok-clause-made g c = record {
  file = c.deref.result.now;
  profile = c.deref-2.result.now;
  are_read = λ told. are_read _ _ _ _ _ _ c.deref.ensures.value c.deref-2.ensures.value (c.in_ok-inputs.ensures.read told);
  rewritten = c.in-Ok.ensures.rewritten;
}

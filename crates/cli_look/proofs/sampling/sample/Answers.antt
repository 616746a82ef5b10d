use Rattle.std.proofs.Common.{◌∙◌, arith, subst, ℕ, List}
use Rattle.cli_base.specs.World.{World, world}
use Rattle.cli_look.specs.Lines.{sample_line}
use Rattle.cli_look.specs.SampleAnswers.{SampleWritten, made}
use Rattle.cli_args.specs.Args.{SampleArgs, sample_given}
use Rattle.cli_look.proofs.SampleAnswering.{serves}
use Rattle.cli_look.proofs.sampling.sample.Goals as goal

pub returns : goal.returns
returns g c = λ input.
    let args : SampleArgs = sample_given c.args.args.now in
    let old : World = world (g.F.Files.seen c.args.files.now) input (g.O.Sink.seen c.args.out.now) in
    let new : World = world (g.F.Files.seen c.write_sample.new.files) input (g.O.Sink.seen c.write_sample.new.out) in
    let file : List ℕ = c.in-Ok.file.items in
    let profile : List ℕ = c.in-Ok.profile.items in
    let of_file : SampleWritten args file c.deref-2.result.now old new c.deref-3.result.now c.write_sample.result =
    subst (λ (f : List ℕ). SampleWritten args f c.deref-2.result.now old new c.deref-3.result.now c.write_sample.result)
    c.deref.ensures.value (c.write_sample.ensures.written input) in
    let of_both : SampleWritten args file profile old new c.deref-3.result.now c.write_sample.result =
    subst (λ (p : List ℕ). SampleWritten args file p old new c.deref-3.result.now c.write_sample.result) c.deref-2.ensures.value
    of_file in
    let written : SampleWritten args file profile old new (sample_line args.number) c.write_sample.result =
    subst (λ (l : List ℕ). SampleWritten args file profile old new l c.write_sample.result)
    (c.deref-3.ensures.value ∙ c.in-Ok-sampled.ensures) of_both in
    serves args old new c.write_sample.result (made file profile c.in-Ok.ensures written) c.write_sample.ensures.files_go_on
    (omega arith) c.write_sample.ensures.never_falls

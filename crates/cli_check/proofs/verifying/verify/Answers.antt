use Rattle.std.proofs.Common.{arith, refl}
use Rattle.cli_base.specs.World.{World, world}
use Rattle.cli_base.specs.declared.status.Status.TheVariants as status
use Rattle.cli_check.specs.Judged.{IsJudged}
use Rattle.cli_args.specs.Args.{VerifyNames, verify_given}
use Rattle.cli_check.proofs.VerifyEnds.{announced, of_told, out_of_memory, serves, ungiven}
use Rattle.cli_check.proofs.verifying.verify.Goals as goal

pub returns-in-Err : goal.returns-in-Err
returns-in-Err g c = λ input.
    let names : VerifyNames = verify_given c.args.args.now in
    let old : World = world (g.F.Files.seen c.args.files.now) input (g.O.Sink.seen c.args.out.now) in
    let new : World = world (g.F.Files.seen c.read_given.new.files) input (g.O.Sink.seen c.args.out.now) in
    serves names c.in-Err.answer old new (ungiven names old new c.in-Err.ensures.kept c.in-Err.answer c.in-Err.ensures.unread refl)
    c.in-Err.ensures.files_go_on (omega arith) (omega arith)

pub returns-in-Ok-judge : goal.returns-in-Ok-judge
returns-in-Ok-judge g c = λ input.
    let names : VerifyNames = verify_given c.args.args.now in
    let old : World = world (g.F.Files.seen c.args.files.now) input (g.O.Sink.seen c.args.out.now) in
    let new : World = world (g.F.Files.seen c.read_given.new.files) input (g.O.Sink.seen c.announce.new.out) in
    let are = of_told names old new c.in-Ok.ensures.kept c.in-Ok.given (λ i o m. IsJudged i o m c.in-Ok-judge.judged)
    c.in-Ok.ensures.given c.in-Ok-judge.ensures in
    serves names c.announce.result old new
    (announced names old new c.in-Ok.ensures.kept c.announce.result c.in-Ok-judge.judged c.announce.ensures.announced are)
    c.in-Ok.ensures.files_go_on (omega arith) c.announce.ensures.never_falls

pub returns : goal.returns
returns g c = λ input.
    let names : VerifyNames = verify_given c.args.args.now in
    let old : World = world (g.F.Files.seen c.args.files.now) input (g.O.Sink.seen c.args.out.now) in
    let new : World = world (g.F.Files.seen c.read_given.new.files) input (g.O.Sink.seen c.args.out.now) in
    serves names status.NoMemory old new (out_of_memory names old new c.in-Ok.ensures.kept status.NoMemory refl refl)
    c.in-Ok.ensures.files_go_on (omega arith) (omega arith)

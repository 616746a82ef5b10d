use Rattle.std.proofs.Common.{◌∙◌, ◌≤◌, ap, refl, subst, sym, arith, List, ℕ, Some}
use Rattle.rb_io.specs.Views.{SinkSeen, SourceSeen}
use Rattle.cli_base.specs.Printing.{Refuses}
use Rattle.cli_base.specs.World.{World, world}
use Rattle.cli_base.specs.declared.status.Status.{Status}
use Rattle.cli_base.specs.declared.status.Status.TheVariants as status
use Rattle.cli_look.specs.LookAnswers.{IsSaidOf, LookAnswers, LookServes, Looking}
use Rattle.cli_look.specs.LookingUp.{looking_up, too_long}
use Rattle.cli_look.proofs.LookAnswering.{fails, prints, read_refused, serves, unread}
use Rattle.cli_look.proofs.looking_up.look_up.Given.{Over}
use Rattle.cli_look.proofs.looking_up.look_up.Goals.{After-print_all}
use Rattle.cli_look.proofs.looking_up.look_up.Goals as goal

pub returns-in-Err : goal.returns-in-Err
returns-in-Err g c = λ input.
    let look : Looking = looking_up c.args.question c.args.args.now.address in
    let name : List ℕ = c.args.args.now.file.now in
    let old : World = world (g.F.Files.seen c.args.files.now) input (g.O.Sink.seen c.args.out.now) in
    let new : World = world (g.F.Files.seen c.read_file.new.files) input (g.O.Sink.seen c.read_file.new.out) in
    serves look name old new c.in-Err.answer
    (unread look name old new c.in-Err.answer c.in-Err.ensures.kept (λ file fault over is. too_long over is)
    c.in-Err.ensures.unread) c.in-Err.ensures.files_go_on (omega arith) c.in-Err.ensures.never_falls

pub returns-in-Err-answer_in : goal.returns-in-Err-answer_in
returns-in-Err-answer_in g c = λ input.
    let look : Looking = looking_up c.args.question c.args.args.now.address in
    let name : List ℕ = c.args.args.now.file.now in
    let old : World = world (g.F.Files.seen c.args.files.now) input (g.O.Sink.seen c.args.out.now) in
    let new : World = world (g.F.Files.seen c.read_file.new.files) input (g.O.Sink.seen c.refuse.new.out) in
    let first : old.output.faults ≤ (g.O.Sink.seen c.read_file.new.out).faults = c.in-Ok.ensures.never_falls in
    let next : (g.O.Sink.seen c.read_file.new.out).faults ≤ new.output.faults = c.refuse.ensures.never_falls in
    let says : Refuses c.in-Err-answer_in.refusal c.refuse.result old.output new.output =
    subst (λ (s : SinkSeen). Refuses c.in-Err-answer_in.refusal c.refuse.result s new.output) c.in-Ok.ensures.unprinted
    c.refuse.ensures.refused in
    serves look name old new c.refuse.result
    (read_refused look name old new c.refuse.result c.in-Ok.ensures.kept c.deref.result.now c.in-Err-answer_in.refusal
    (λ told. c.in-Ok.ensures.read told ∙ ap (λ (f : List ℕ). Some f) (sym c.deref.ensures.value))
    c.in-Err-answer_in.ensures.fault says) c.in-Ok.ensures.files_go_on (omega arith) (omega arith)

-- Facts after there was a text to print.
module _ (g : Over) (c : After-print_all g) (input : SourceSeen) where
  abbrev look : Looking
  look = looking_up c.args.question c.args.args.now.address

  abbrev old : World
  old = world (g.F.Files.seen c.args.files.now) input (g.O.Sink.seen c.args.out.now)

  abbrev new : World
  new = world (g.F.Files.seen c.read_file.new.files) input (g.O.Sink.seen c.print_all.new.out)

  said : IsSaidOf look c.args.args.now.file.now old c.in-Ok-answer_in.text.items
  said = record {
    file = c.deref.result.now;
    file_is = λ told. c.in-Ok.ensures.read told ∙ ap (λ (f : List ℕ). Some f) (sym c.deref.ensures.value);
    says = c.in-Ok-answer_in.ensures.answer;
  }

  ends : (answer : Status) → LookAnswers look c.args.args.now.file.now old new answer →
      LookServes look c.args.args.now.file.now answer old new
  ends answer answers =
      let first : old.output.faults ≤ (g.O.Sink.seen c.read_file.new.out).faults = c.in-Ok.ensures.never_falls in
      let next : (g.O.Sink.seen c.read_file.new.out).faults ≤ new.output.faults = c.print_all.ensures.never_falls in
      serves look c.args.args.now.file.now old new answer answers c.in-Ok.ensures.files_go_on (omega arith) (omega arith)

pub returns-in-Took : goal.returns-in-Took
returns-in-Took g c = λ input.
    let p = (goal.at.returns-in-Took g c).After-print_all in
    ends g p input status.Ok
    (prints (look g p input) c.args.args.now.file.now (old g p input) (new g p input) (g.O.Sink.seen c.read_file.new.out)
    c.in-Ok.ensures.unprinted c.in-Ok-answer_in.text.items c.deref-2.result.now c.deref-2.ensures.value (said g p input)
    c.in-Ok.ensures.kept c.in-Took.ensures.all)

pub returns : goal.returns
returns g c = λ input.
    let p = (goal.at.returns g c).After-print_all in
    ends g p input status.WriteFault
    (fails (look g p input) c.args.args.now.file.now (old g p input) (new g p input) (g.O.Sink.seen c.read_file.new.out)
    c.in-Ok.ensures.unprinted c.in-Ok-answer_in.text.items c.deref-2.result.now c.deref-2.ensures.value (said g p input)
    c.in-Ok.ensures.kept (c.in-Failed.ensures.failed refl) (c.in-Failed.ensures.front refl))

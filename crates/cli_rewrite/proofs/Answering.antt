-- From the results of the steps of `rewrite` and `map` to their answers.
use Rattle.std.proofs.Common.{◌≡◌, ◌∙◌, refl, ap, subst, ℕ, List, IsTrue}
use Rattle.rb_io.specs.FaultCounts.{Rose}
use Rattle.rb_io.specs.Names.{Unchanged}
use Rattle.rb_io.specs.TakenText.{TakesAll, TakesPrefix}
use Rattle.rb_io.specs.Views.{SinkSeen}
use Rattle.rb_bytes.specs.declared.fault.Fault.{Fault}
use Rattle.addr_map.specs.MapText.{map_text}
use Rattle.bolt_core.specs.Refusals.{IsRefused, long_file, long_profile}
use Rattle.cli_rewrite.specs.declared.rewriting.Texts.{Texts}
use Rattle.cli_base.specs.declared.status.Status.{Status}
use Rattle.cli_base.specs.declared.status.Status.TheVariants as status
use Rattle.cli_rewrite.specs.Lines.{summary_line}
use Rattle.cli_rewrite.specs.InputAnswers.{IsMadeOf, MadeRewrite}
use Rattle.cli_base.specs.Inputs.{IsTooLong}
use Rattle.cli_args.specs.Args.{InputNames, RewriteNames}
use Rattle.cli_base.specs.Inputs as inputs
use Rattle.cli_base.proofs.InputAnswering.{IsBetween}
use Rattle.cli_rewrite.specs.MapAnswers.{MapAnswers, at_text, printed}
use Rattle.cli_rewrite.specs.Phases.{AreTextsOf, OutputsWritten}
use Rattle.cli_rewrite.specs.RewriteAnswers.{HoldBoth, HoldsOut, OthersKept, RewriteAnswers, StopsWriting, at_map, at_out}
use Rattle.cli_rewrite.specs.RewriteAnswers.{at_summary, at_write, done}
use Rattle.cli_base.proofs.FaultCounts.{rose_after}
use Rattle.cli_base.specs.World.{World}

-- files that are too long are refused
pub long_refused : (file profile : List ℕ) (fault : Fault) → IsTooLong file profile fault → IsRefused file profile fault
long_refused file profile fault (inputs.long_file long is) = long_file long is
long_refused file profile fault (inputs.long_profile fits long is) = long_profile fits long is

module _ (names : RewriteNames) (written map summary : List ℕ) (old mid new : World) (between : IsBetween old mid) where
  still_told : IsTrue old.files.told → IsTrue mid.files.told
  still_told told = between.go_on.told_kept ∙ told

  others_kept : OthersKept names mid new → OthersKept names old new
  others_kept others = λ name a b. others name a b ∙ between.contents.each name

  out_holds : HoldsOut names written mid new → HoldsOut names written old new
  out_holds holds = λ told. holds (still_told told)

  both_hold : HoldBoth names written map mid new → HoldBoth names written map old new
  both_hold both =
      record { out = out_holds both.out; map_is = λ told. both.map_is (still_told told); others = others_kept both.others }

  unprinted : new.output.taken ≡ mid.output.taken → new.output.taken ≡ old.output.taken
  unprinted quiet = quiet ∙ ap (λ (s : SinkSeen). s.taken) between.output_is

  stops : StopsWriting names written map summary mid new → StopsWriting names written map summary old new
  stops (at_out rose quiet others) =
      at_out (rose_after _ _ _ (between.go_on.writes.each names.out) rose) (unprinted quiet)
      (record { others = λ name apart. others.others name apart ∙ between.contents.each name })
  stops (at_map rose quiet out others) =
      at_map (rose_after _ _ _ (between.go_on.writes.each names.map) rose) (unprinted quiet) (out_holds out) (others_kept others)
  stops (at_summary both print) =
      at_summary (both_hold both) (record {
        cause = subst (λ (s : SinkSeen). Rose s.faults new.output.faults) between.output_is print.cause;
        front = subst (λ (s : SinkSeen). TakesPrefix s.taken new.output.taken summary) between.output_is print.front;
      })

  line_taken : TakesAll mid.output.taken new.output.taken summary → TakesAll old.output.taken new.output.taken summary
  line_taken = subst (λ (s : SinkSeen). TakesAll s.taken new.output.taken summary) between.output_is

-- the texts that were written are the texts about the rewrite
texts_are : (answer : Status) (names : RewriteNames) (made : MadeRewrite) (texts : Texts) (mid new : World) →
    AreTextsOf made texts
    → OutputsWritten answer names made.written texts.map.items texts.summary.items mid new
    → OutputsWritten answer names made.written (map_text made.spans) (summary_line made.counts) mid new
texts_are answer names made texts mid new is written =
    subst (λ (map : List ℕ). OutputsWritten answer names made.written map (summary_line made.counts) mid new) is.map_is
    (subst (λ (summary : List ℕ). OutputsWritten answer names made.written texts.map.items summary mid new) is.summary_is written)

module _ (names : RewriteNames) (made : MadeRewrite) (old mid new : World) (between : IsBetween old mid)
    (of : IsMadeOf names.inputs old.files made) where
  ends : (answer : Status) → OutputsWritten answer names made.written (map_text made.spans) (summary_line made.counts) mid new →
      RewriteAnswers names old new answer
  ends status.Ok all =
      done refl made of
      (both_hold names made.written (map_text made.spans) (summary_line made.counts) old mid new between all.both)
      (line_taken names made.written (map_text made.spans) (summary_line made.counts) old mid new between all.line)
  ends status.WriteFault all =
      at_write refl made of (stops names made.written (map_text made.spans) (summary_line made.counts) old mid new between all)
  ends _ all = absurd all

  pub writes : (texts : Texts) → AreTextsOf made texts → (answer : Status)
      → OutputsWritten answer names made.written texts.map.items texts.summary.items mid new → RewriteAnswers names old new answer
  writes texts is answer written = ends answer (texts_are answer names made texts mid new is written)

-- the map of the rewrite was printed, completely or in part
module _ (names : InputNames) (made : MadeRewrite) (old mid new : World) (between : IsBetween old mid)
    (of : IsMadeOf names old.files made)
    (same : Unchanged old.files.content new.files.content) where
  pub prints : TakesAll mid.output.taken new.output.taken (map_text made.spans) → MapAnswers names old new status.Ok
  prints taken =
      printed refl made of (record {
        line_taken = subst (λ (s : SinkSeen). TakesAll s.taken new.output.taken (map_text made.spans)) between.output_is taken;
        unwritten = same;
      })

  pub fails : Rose mid.output.faults new.output.faults → TakesPrefix mid.output.taken new.output.taken (map_text made.spans) →
      MapAnswers names old new status.WriteFault
  fails rose taken =
      at_text refl made of (record {
        print = record {
          cause = subst (λ (s : SinkSeen). Rose s.faults new.output.faults) between.output_is rose;
          front = subst (λ (s : SinkSeen). TakesPrefix s.taken new.output.taken (map_text made.spans)) between.output_is taken;
        };
        unwritten = same;
      })

-- What is printed and written after a run, by whether it was interrupted.
use Rattle.std.proofs.Common.{◌≡◌, ◌∙◌, ap, subst, sym, true, false, ℕ, List}
use Rattle.rb_io.specs.Names.{Unchanged}
use Rattle.rb_io.specs.Views.{SinkSeen}
use Rattle.rv_code.specs.declared.cause.Cause.{Cause}
use Rattle.run_core.specs.Answers.{Answer, Going, Ended, Halted, ReadFault, WriteFault, Memory}
use Rattle.cli_run.specs.recording.Phases.{Finished, ProfileWritten}
use Rattle.cli_base.specs.Printing.{LinePrinted}
use Rattle.cli_run.specs.run.RunOutcomes.{closing_line}
use Rattle.cli_run.specs.run.Phases.{Closed, status_of}
use Rattle.cli_base.specs.Status.{is_outcome}
use Rattle.cli_base.specs.World.{World}
use Rattle.cli_base.specs.declared.status.Status.{Status}
use Rattle.cli_base.specs.declared.status.Status.TheVariants as status

module _ (result : Status) (steps : ℕ) (before after : SinkSeen) where
  pub line_closes : (came : Status) → is_outcome came ≡ true → LinePrinted result came (closing_line came steps) before after →
      Closed result steps before after came
  line_closes (status.Ended value) is printed = printed
  line_closes (status.Trapped pc cause) is printed = printed
  line_closes (status.Stuck pc reason) is printed = printed
  line_closes status.OutOfSteps is printed = printed
  line_closes status.Ok is printed = absurd (cc)
  line_closes status.Usage is printed = absurd (cc)
  line_closes (status.Refused fault) is printed = absurd (cc)
  line_closes status.ReadFault is printed = absurd (cc)
  line_closes status.WriteFault is printed = absurd (cc)
  line_closes status.NoMemory is printed = absurd (cc)
  line_closes (status.Unfaithful clause place) is printed = absurd (cc)

  pub nothing_closes : (came : Status) → is_outcome came ≡ false → result ≡ came → after.taken ≡ before.taken →
      Closed result steps before after came
  nothing_closes (status.Ended value) is same kept = absurd (cc)
  nothing_closes (status.Trapped pc cause) is same kept = absurd (cc)
  nothing_closes (status.Stuck pc reason) is same kept = absurd (cc)
  nothing_closes status.OutOfSteps is same kept = absurd (cc)
  nothing_closes status.Ok is same kept = (same, kept)
  nothing_closes status.Usage is same kept = (same, kept)
  nothing_closes (status.Refused fault) is same kept = (same, kept)
  nothing_closes status.ReadFault is same kept = (same, kept)
  nothing_closes status.WriteFault is same kept = (same, kept)
  nothing_closes status.NoMemory is same kept = (same, kept)
  nothing_closes (status.Unfaithful clause place) is same kept = (same, kept)

module _ (result : Status) (out text : List ℕ) (steps : ℕ) (old new : World) where
  -- the run wasn't interrupted, and the profile was written
  finished_by : (end : Answer Cause) → is_outcome (status_of status.Trapped end) ≡ true →
      ProfileWritten result (status_of status.Trapped end) out text (closing_line (status_of status.Trapped end) steps) old new →
      Finished result out text steps old new end
  finished_by Going is text_written = text_written
  finished_by (Ended value) is text_written = text_written
  finished_by (Halted pc cause) is text_written = text_written
  finished_by ReadFault is text_written = absurd (cc)
  finished_by WriteFault is text_written = absurd (cc)
  finished_by Memory is text_written = absurd (cc)

  pub finished : (end : Answer Cause) (came : Status) → came ≡ status_of status.Trapped end → is_outcome came ≡ true →
      ProfileWritten result came out text (closing_line came steps) old new → Finished result out text steps old new end
  finished end came same is text_written =
      finished_by end (ap is_outcome (sym same) ∙ is)
      (subst (λ (s : Status). ProfileWritten result s out text (closing_line s steps) old new) same text_written)

  -- the run was interrupted, and nothing was written
  left_by : (end : Answer Cause) → is_outcome (status_of status.Trapped end) ≡ false → result ≡ status_of status.Trapped end →
      Unchanged old.files.content new.files.content → new.output.taken ≡ old.output.taken →
      Finished result out text steps old new end
  left_by Going is same unwritten kept = absurd (cc)
  left_by (Ended value) is same unwritten kept = absurd (cc)
  left_by (Halted pc cause) is same unwritten kept = absurd (cc)
  left_by ReadFault is same unwritten kept = record { result_is = same; unwritten = unwritten; unprinted = kept }
  left_by WriteFault is same unwritten kept = record { result_is = same; unwritten = unwritten; unprinted = kept }
  left_by Memory is same unwritten kept = record { result_is = same; unwritten = unwritten; unprinted = kept }

  pub left : (end : Answer Cause) → result ≡ status_of status.Trapped end → is_outcome result ≡ false →
      Unchanged old.files.content new.files.content → new.output.taken ≡ old.output.taken →
      Finished result out text steps old new end
  left end same is unwritten kept = left_by end (ap is_outcome (sym same) ∙ is) same unwritten kept

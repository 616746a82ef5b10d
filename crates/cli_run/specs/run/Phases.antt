-- The results of the last steps of a run.
use Rattle.std.specs.Prelude.{◌≡◌, ℕ}
use Rattle.rb_io.specs.Views.{SinkSeen}
use Rattle.run_core.specs.Answers.{Answer}
use Rattle.run_core.specs.Answers as answer
use Rattle.cli_base.specs.Printing.{LinePrinted}
use Rattle.cli_run.specs.run.RunOutcomes.{closing_line}
use Rattle.cli_base.specs.declared.status.Status.{Status}
use Rattle.cli_base.specs.declared.status.Status.TheVariants as status

-- the command's result for the result of a machine's run; `halted` gives it if the machine halts
abbrev pub status_of : {C : Type 0} → (ℕ → C → Status) → Answer C → Status
status_of halted answer.Going = status.OutOfSteps
status_of halted (answer.Ended value) = status.Ended value
status_of halted (answer.Halted pc cause) = halted pc cause
status_of halted answer.ReadFault = status.ReadFault
status_of halted answer.WriteFault = status.WriteFault
status_of halted answer.Memory = status.NoMemory

-- After a run that wasn't interrupted the closing line was printed, or a prefix of it, or none of it. After an I/O
-- error, or if memory ran out, nothing is printed.
module _ (result : Status) (steps : ℕ) (before after : SinkSeen) where
  abbrev pub SaysEnding : Status → Type 0
  SaysEnding came = LinePrinted result came (closing_line came steps) before after

  abbrev pub Closed : Status → Type 0
  Closed (status.Ended value) = SaysEnding (status.Ended value)
  Closed (status.Trapped pc cause) = SaysEnding (status.Trapped pc cause)
  Closed (status.Stuck pc reason) = SaysEnding (status.Stuck pc reason)
  Closed status.OutOfSteps = SaysEnding status.OutOfSteps
  Closed came = (result ≡ came) × (after.taken ≡ before.taken)

-- The exit status of each answer, and the answers that are results of a run.
use Rattle.std.specs.Prelude.{ℕ, Bool, true, false}
use Rattle.cli_base.specs.declared.status.Status.{Status}
use Rattle.cli_base.specs.declared.status.Status.TheVariants as status

abbrev pub exit_number : Status → ℕ
exit_number status.Ok = 0
exit_number (status.Ended value) = value
exit_number status.Usage = 220
exit_number (status.Refused fault) = 221
exit_number status.ReadFault = 222
exit_number status.WriteFault = 223
exit_number status.NoMemory = 224
exit_number (status.Trapped pc cause) = 225
exit_number status.OutOfSteps = 226
exit_number (status.Stuck pc reason) = 227
exit_number (status.Unfaithful clause place) = 228

-- an answer is the result of a run
abbrev pub is_outcome : Status → Bool
is_outcome (status.Ended value) = true
is_outcome (status.Trapped pc cause) = true
is_outcome (status.Stuck pc reason) = true
is_outcome status.OutOfSteps = true
is_outcome _ = false

-- The result of a run whose moves are watched.
use Rattle.std.specs.Prelude.{◌≡◌, ◌≤◌, ℕ, Bool, List, length}
use Rattle.rv_code.specs.declared.cause.Cause.{Cause}
use Rattle.rv_code.specs.machine.Step.{ByteState, Steps}
use Rattle.run_core.specs.Answers.{Answer}
use Rattle.run_core.specs.Answers as answer
use Rattle.run_core.specs.Inputs.{Outside}
use Rattle.run_core.specs.Runs.{RunsSomeInput}
use Rattle.rv_machine.specs.State.{state_of}
use Rattle.rv_machine.specs.declared.machine.Machine.{Machine}
use Rattle.edge_profile.specs.PairCounts.{Counted, count_among}
use Rattle.edge_record.specs.Moves.{Move}
use Rattle.edge_record.specs.RecordedRuns.{ByteMoves, RecordStops, steps_gone}
use Rattle.edge_record.specs.MoveCounts.{taken_by}

module _ (counts : Move → Bool) (old now : Machine) (limit n : ℕ) (before after : Outside) (said : List Counted) where
  -- The run has this answer, and its counted moves are in `said`.
  pub record IsWatched (answer : Answer Cause) : Type 0 where
    pub runs : RunsSomeInput state_of Steps answer limit n old now before after
    pub moves : List Move
    pub few : length moves ≤ limit
    pub state : ByteState
    pub gone : ByteMoves (state_of old runs.input) (steps_gone answer n) moves state
    pub counts_are : (from to : ℕ) → count_among from to said ≡ taken_by counts moves from to

  -- `said` is irrelevant if memory ran out, or after a read or write error
  abbrev pub WatchesRun : Answer Cause → Type 0
  WatchesRun answer.Going = IsWatched answer.Going
  WatchesRun (answer.Ended status) = IsWatched (answer.Ended status)
  WatchesRun (answer.Halted pc cause) = IsWatched (answer.Halted pc cause)
  WatchesRun answer.ReadFault = RunsSomeInput state_of Steps answer.ReadFault limit n old now before after
  WatchesRun answer.WriteFault = RunsSomeInput state_of Steps answer.WriteFault limit n old now before after
  WatchesRun answer.Memory = RecordStops (state_of old) limit before after

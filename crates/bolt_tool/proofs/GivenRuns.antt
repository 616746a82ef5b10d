-- Runs whose arguments were read from the command line.
use Rattle.std.proofs.Common.{◌≡◌, subst, ℕ, List, Some}
use Rattle.cli_base.specs.Served.{IsInputKept}
use Rattle.cli_base.specs.World.{World}
use Rattle.cli_base.specs.declared.status.Status.{Status}
use Rattle.cli_args.specs.Args.{RunArgs}
use Rattle.cli_run.specs.declared.running.RunMode.{RunMode}
use Rattle.cli_run.specs.declared.running.RunMode.TheVariants.{Bytes, Symbols}
use Rattle.cli_run.specs.recording.RecordAnswers.{RecordServes}
use Rattle.cli_run.specs.run.Serving.{ServesRun}
use Rattle.bolt_tool.specs.CommandAnswers.{KeepsInput, Serves}
use Rattle.cli_args.specs.CommandLine.{Record}
use Rattle.bolt_tool.specs.RunCommands.{run_on}

pub run_serves : (mode : RunMode) (args : RunArgs) (answer : Status) (old new : World) →
    ServesRun mode args answer old new → Serves (Some (run_on mode args)) answer old new
run_serves Bytes args answer old new served = served
run_serves Symbols args answer old new served = served

pub run_keeps : {Input : Type 0} (mode : RunMode) (args : RunArgs) (answer : Status) (old new : Input) →
    IsInputKept ⊥ answer old new → KeepsInput (Some (run_on mode args)) answer old new
run_keeps Bytes args answer old new kept = kept
run_keeps Symbols args answer old new kept = kept

-- a run of a file with the arguments that were read
module _ (file : List ℕ) (limit : ℕ) (given args : List (List ℕ)) (same : given ≡ args) where
  pub given_serves : (mode : RunMode) (answer : Status) (old new : World) →
      ServesRun mode (record { file = file; args = given; limit = limit }) answer old new →
      Serves (Some (run_on mode (record { file = file; args = args; limit = limit }))) answer old new
  given_serves mode answer old new served =
      subst (λ xs. Serves (Some (run_on mode (record { file = file; args = xs; limit = limit }))) answer old new) same
      (run_serves mode (record { file = file; args = given; limit = limit }) answer old new served)

  pub given_records : (out : List ℕ) (answer : Status) (old new : World) →
      RecordServes (record { run = record { file = file; args = given; limit = limit }; out = out }) answer old new →
      Serves (Some (Record (record { run = record { file = file; args = args; limit = limit }; out = out }))) answer old new
  given_records out answer old new served =
      subst (λ xs. Serves (Some (Record (record { run = record { file = file; args = xs; limit = limit }; out = out })))
      answer old new) same served

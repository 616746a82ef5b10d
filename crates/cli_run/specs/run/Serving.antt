-- What the command `run` does, by the machine on which the file runs.
use Rattle.cli_base.specs.World.{World}
use Rattle.cli_base.specs.declared.status.Status.{Status}
use Rattle.cli_args.specs.Args.{RunArgs}
use Rattle.cli_run.specs.declared.running.RunMode.{RunMode}
use Rattle.cli_run.specs.declared.running.RunMode.TheVariants as mode
use Rattle.cli_run.specs.run.ByteRuns.{byte_mode}
use Rattle.cli_run.specs.run.RunAnswers.{RunServes}
use Rattle.cli_run.specs.run.SymbolRuns.{symbol_mode}

abbrev pub ServesRun : RunMode → RunArgs → Status → World → World → Type 0
ServesRun mode.Bytes args answer old new = RunServes byte_mode args answer old new
ServesRun mode.Symbols args answer old new = RunServes symbol_mode args answer old new

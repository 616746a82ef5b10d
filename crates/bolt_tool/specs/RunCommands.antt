-- The two commands that run a file.
use Rattle.cli_args.specs.Args.{RunArgs}
use Rattle.cli_args.specs.CommandLine.{Command, Run, RunSymbols}
use Rattle.cli_run.specs.declared.running.RunMode.{RunMode}
use Rattle.cli_run.specs.declared.running.RunMode.TheVariants as mode

-- the command that runs a file on a machine
abbrev pub run_on : RunMode → RunArgs → Command
run_on mode.Bytes args = Run args
run_on mode.Symbols args = RunSymbols args

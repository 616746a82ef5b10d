-- What holds at the end of the program, by its answer.
use Rattle.std.specs.Prelude.{◌≡◌, Option, Some, None}
use Rattle.std.specs.Process.{exit_status}
use Rattle.std.specs.declared.process.ExitCode.{ExitCode}
use Rattle.cli_base.specs.declared.status.Status.{Status}
use Rattle.cli_base.specs.declared.status.Status.TheVariants as status
use Rattle.cli_base.specs.Status.{exit_number}
use Rattle.cli_base.specs.Served.{IsInputKept, IsServed}
use Rattle.cli_base.specs.World.{World}
use Rattle.cli_args.specs.CommandLine.{Command, Rewrite, Map, Run, RunSymbols, Record, Repair, Lookup, Sample, Verify}
use Rattle.cli_args.specs.CommandLine.{Frames}
use Rattle.bolt_tool.specs.Lines.{usage_line}
use Rattle.cli_base.specs.PrintedLines.{PrintsOnly, FailsAtLine}
use Rattle.cli_run.specs.recording.RecordAnswers.{RecordAnswers, RecordCompletes}
use Rattle.cli_check.specs.RepairAnswers.{RepairAnswers, RepairCompletes}
use Rattle.cli_check.specs.VerifyAnswers.{VerifyAnswers, VerifyCompletes}
use Rattle.cli_look.specs.LookAnswers.{LookAnswers, LookCompletes}
use Rattle.cli_look.specs.LookingUp.{looking_up}
use Rattle.cli_look.specs.declared.question.Question.TheVariants as question
use Rattle.cli_look.specs.SampleAnswers.{SampleAnswers, SampleCompletes}
use Rattle.cli_rewrite.specs.MapAnswers.{MapAnswers, MapCompletes}
use Rattle.cli_rewrite.specs.RewriteAnswers.{RewriteAnswers, RewriteCompletes}
use Rattle.cli_run.specs.run.ByteRuns.{byte_mode}
use Rattle.cli_run.specs.run.RunAnswers.{CompletesRun, RunAnswers}
use Rattle.cli_run.specs.run.SymbolRuns.{symbol_mode}

-- the answers to arguments that aren't a command
abbrev pub UsageAnswers : Status → World → World → Type 0
UsageAnswers status.Usage old new = PrintsOnly usage_line old new
UsageAnswers status.WriteFault old new = FailsAtLine usage_line old new
UsageAnswers _ old new = ⊥

abbrev pub CommandAnswers : Option Command → Status → World → World → Type 0
CommandAnswers (Some (Rewrite names)) answer old new = RewriteAnswers names old new answer
CommandAnswers (Some (Map names)) answer old new = MapAnswers names old new answer
CommandAnswers (Some (Run args)) answer old new = RunAnswers byte_mode args old new answer
CommandAnswers (Some (RunSymbols args)) answer old new = RunAnswers symbol_mode args old new answer
CommandAnswers (Some (Record args)) answer old new = RecordAnswers args old new answer
CommandAnswers (Some (Repair names)) answer old new = RepairAnswers names old new answer
CommandAnswers (Some (Lookup args)) answer old new = LookAnswers (looking_up question.Report args.address) args.file old
    new answer
CommandAnswers (Some (Sample args)) answer old new = SampleAnswers args old new answer
CommandAnswers (Some (Verify names)) answer old new = VerifyAnswers names old new answer
CommandAnswers (Some (Frames args)) answer old new = LookAnswers (looking_up question.Frames args.address) args.file old
    new answer
CommandAnswers None answer old new = UsageAnswers answer old new

-- If there is no fault and no count rose, the command is done, or memory runs out: a rewrite, a map, a repair, a
-- look-up, a sample or a verdict. A run of a file that can be run has the run's result as its answer.
abbrev pub Completes : Option Command → Status → World → World → Type 0
Completes (Some (Rewrite names)) answer old new = RewriteCompletes names answer old new
Completes (Some (Map names)) answer old new = MapCompletes names answer old new
Completes (Some (Run args)) answer old new = CompletesRun byte_mode args answer old new
Completes (Some (RunSymbols args)) answer old new = CompletesRun symbol_mode args answer old new
Completes (Some (Record args)) answer old new = RecordCompletes args answer old new
Completes (Some (Repair names)) answer old new = RepairCompletes names answer old new
Completes (Some (Lookup args)) answer old new = LookCompletes (looking_up question.Report args.address) args.file answer
    old new
Completes (Some (Sample args)) answer old new = SampleCompletes args answer old new
Completes (Some (Verify names)) answer old new = VerifyCompletes names answer old new
Completes (Some (Frames args)) answer old new = LookCompletes (looking_up question.Frames args.address) args.file answer
    old new
Completes None answer old new = Unit {0}

-- the command doesn't use standard input
abbrev pub LeavesInput : Option Command → Type 0
LeavesInput (Some (Run args)) = ⊥
LeavesInput (Some (RunSymbols args)) = ⊥
LeavesInput (Some (Record args)) = ⊥
LeavesInput _ = Unit {0}

-- A command, or arguments that aren't a command: the answer, and the world after it.
abbrev pub Serves : Option Command → Status → World → World → Type 0
Serves command answer old new = IsServed (CommandAnswers command answer old new) (Completes command answer old new) old
    new

-- standard input is unchanged after a refusal, and by a command that doesn't use it
abbrev pub KeepsInput : {Input : Type 0} → Option Command → Status → Input → Input → Type 0
KeepsInput command answer old new = IsInputKept (LeavesInput command) answer old new

-- A process does a command, and exits with the number of its answer.
pub record Exits {Input : Type 0} (command : Option Command) (code : ExitCode) (old new : World)
    (before after : Input) :
    Type 0 where
  pub answer : Status
  pub code_is : exit_status code ≡ exit_number answer
  pub serves : Serves command answer old new
  pub input_kept : KeepsInput command answer before after

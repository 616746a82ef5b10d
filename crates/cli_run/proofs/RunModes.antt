-- The command `run` serves on either machine.
use Rattle.std.proofs.Common.{◌≡◌, ◌≤◌, refl, subst, sym, arith}
use Rattle.rb_io.specs.Names.{Unchanged}
use Rattle.rb_io.specs.Views.{FilesGoOn, SourceSeen}
use Rattle.rb_bytes.specs.declared.fault.Fault.{Fault}
use Rattle.program.specs.Limits.{file_limit}
use Rattle.cli_base.specs.Reading.{IsUnread, no_memory}
use Rattle.cli_base.specs.Served.{IsInputKept}
use Rattle.cli_base.specs.World.{World}
use Rattle.cli_base.specs.declared.status.Status.{Status}
use Rattle.cli_base.specs.declared.status.Status.TheVariants as status
use Rattle.cli_args.specs.Args.{RunArgs}
use Rattle.cli_run.specs.declared.running.RunMode.{RunMode}
use Rattle.cli_run.specs.declared.running.RunMode.TheVariants.{Bytes, Symbols}
use Rattle.cli_run.specs.run.ByteRuns.{byte_mode}
use Rattle.cli_run.specs.run.Serving.{ServesRun}
use Rattle.cli_run.specs.run.SymbolRuns.{symbol_mode}
use Rattle.cli_run.proofs.ByteRunAnswering as by_bytes
use Rattle.cli_run.proofs.RunAnswering.{file_unread, serves}
use Rattle.cli_run.proofs.SymbolRunAnswering as by_symbols

-- a run that started may have read its input, since it isn't refused
pub run_keeps_input : {Input : Type 0} (answer : Status) (old new : Input) →
    ((fault : Fault) → answer ≡ status.Refused fault → ⊥) → IsInputKept ⊥ answer old new
run_keeps_input answer old new not_refused =
    record { refused = λ fault same. absurd (not_refused fault same); untouched = λ touched. absurd touched }

-- the file wasn't read
module _ (args : RunArgs) (old new : World) (answer : Status) (same : Unchanged old.files.content new.files.content)
    (unread : new.input ≡ old.input) (is : IsUnread args.file file_limit old.files new.files old.output new.output answer)
    (go_on : FilesGoOn old.files new.files) (output : old.output.faults ≤ new.output.faults) where
  input_faults : old.input.faults ≤ new.input.faults
  input_faults = let P : SourceSeen → Type 0 = λ input. old.input.faults ≤ input.faults in subst P (sym unread) (omega arith)

  pub unread_serves : (mode : RunMode) → ServesRun mode args answer old new
  unread_serves Bytes = serves byte_mode args old new answer
      (file_unread byte_mode args old new by_bytes.lawful (λ quiet. quiet) answer same unread is) go_on input_faults output
  unread_serves Symbols = serves symbol_mode args old new answer
      (file_unread symbol_mode args old new by_symbols.lawful (λ quiet. quiet) answer same unread is) go_on input_faults output

-- memory ran out before anything was done
pub no_memory_serves : (mode : RunMode) (args : RunArgs) (w : World) → ServesRun mode args status.NoMemory w w
no_memory_serves mode args w =
    unread_serves args w w status.NoMemory (record { each = λ name. refl }) refl (no_memory refl refl)
    (record {
      told_kept = refl;
      reads = record { each = λ name. omega arith };
      writes = record { each = λ name. omega arith };
    })
    (omega arith) mode

-- An input and its profile, and the results of a command that makes no output of them.
use Rattle.std.specs.Prelude.{◌≡◌, ◌⊎◌, ◌<◌, ◌≤◌, ℕ, List, Option, Some, IsTrue, IsSomeAnd, length}
use Rattle.rb_bytes.specs.Fault.{fault_at}
use Rattle.rb_bytes.specs.declared.fault.Fault.{Fault}
use Rattle.rb_bytes.specs.declared.fault.FaultKind.TheVariants.{TooLarge}
use Rattle.rb_bytes.specs.declared.limit.TheConstants.{FILE_BYTES, PROFILE_BYTES}
use Rattle.rb_io.specs.FaultCounts.{Rose}
use Rattle.program.specs.Limits.{file_limit}
use Rattle.cli_args.specs.Args.{InputNames}
use Rattle.cli_base.specs.Lines.{refused_line}
use Rattle.cli_base.specs.PrintedLines.{PrintsOnly, IsSilent, FailsAtLine}
use Rattle.cli_base.specs.World.{World, ReadRose}
use Rattle.cli_base.specs.declared.status.Status.{Status}
use Rattle.cli_base.specs.declared.status.Status.TheVariants as status

-- the input and the profile exist, and their contents satisfy P
abbrev pub OfInputs : World → InputNames → (List ℕ → List ℕ → Type 0) → Type 0
OfInputs w names P =
    IsSomeAnd (w.files.content names.file) (λ file. IsSomeAnd (w.files.content names.profile)
    (λ profile. P file profile))

-- both files were read completely, and have these bytes
pub record AreRead (content : List ℕ → Option (List ℕ)) (names : InputNames) (file profile : List ℕ) : Type 0 where
  pub file_is : content names.file ≡ Some file
  pub profile_is : content names.profile ≡ Some profile

-- The lengths are checked first, of the file and then of the profile.
pub data IsTooLong (file profile : List ℕ) (fault : Fault) : Type 0 where
  long_file : file_limit < length file → fault ≡ fault_at TooLarge FILE_BYTES → IsTooLong file profile fault
  long_profile : length file ≤ file_limit → file_limit < length profile → fault ≡ fault_at TooLarge PROFILE_BYTES →
      IsTooLong file profile fault

-- `Refused` says for which faults an input and its profile are refused.
module _ (Refused : List ℕ → List ℕ → Fault → Type 0) where
  -- there is no such fault
  abbrev pub IsAccepted : List ℕ → List ℕ → Type 0
  IsAccepted file profile = (fault : Fault) → Refused file profile fault → ⊥

  -- there is such a fault, if files are transparent
  abbrev pub HasInputFault : InputNames → World → Fault → Type 0
  HasInputFault names w fault = IsTrue w.files.told → OfInputs w names (λ file profile. Refused file profile fault)

  -- A command stopped before it made any output, and wrote no file.
  pub data IsStopped (names : InputNames) (old new : World) (answer : Status) : Type 0 where
    refused : (fault : Fault) → answer ≡ status.Refused fault → HasInputFault names old fault
        → PrintsOnly (refused_line fault) old new → IsStopped names old new answer
    at_refusal : (fault : Fault) → answer ≡ status.WriteFault → HasInputFault names old fault
        → FailsAtLine (refused_line fault) old new → IsStopped names old new answer
    at_file : answer ≡ status.ReadFault → ReadRose old new names.file ⊎ ReadRose old new names.profile →
        IsSilent old new
        → IsStopped names old new answer
    no_memory : answer ≡ status.NoMemory → IsSilent old new → IsStopped names old new answer

-- No count of faults rose: of the files that are read, and of standard output.
pub record NoInputErrors (names : InputNames) (old new : World) : Type 0 where
  pub file : ReadRose old new names.file → ⊥
  pub profile : ReadRose old new names.profile → ⊥
  pub line : Rose old.output.faults new.output.faults → ⊥

abbrev pub IsOkOrNoMemory : Status → Type 0
IsOkOrNoMemory status.Ok = Unit {0}
IsOkOrNoMemory status.NoMemory = Unit {0}
IsOkOrNoMemory _ = ⊥

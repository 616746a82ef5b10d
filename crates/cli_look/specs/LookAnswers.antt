-- What holds at the end of a command that reads one file and prints a text about it, by its answer. The command writes
-- no file.
use Rattle.std.specs.Prelude.{◌≡◌, ℕ, List, Some, IsTrue, IsSomeAnd}
use Rattle.rb_bytes.specs.declared.fault.Fault.{Fault}
use Rattle.rb_io.specs.FaultCounts.{Rose}
use Rattle.cli_base.specs.Inputs.{IsOkOrNoMemory}
use Rattle.cli_base.specs.Lines.{refused_line}
use Rattle.cli_base.specs.PrintedLines.{PrintsOnly, IsSilent, FailsAtLine}
use Rattle.cli_base.specs.Served.{IsServed}
use Rattle.cli_base.specs.World.{World, ReadRose}
use Rattle.cli_base.specs.declared.status.Status.{Status}
use Rattle.cli_base.specs.declared.status.Status.TheVariants as status

-- The texts that may be printed about a file, and the faults for which it is refused.
pub record Looking : Type 1 where
  pub Says : List ℕ → List ℕ → Type 0
  pub Refuses : List ℕ → Fault → Type 0

module _ (look : Looking) (name : List ℕ) where
  -- the file was read, and this is a text about it
  pub record IsSaidOf (w : World) (text : List ℕ) : Type 0 where
    pub file : List ℕ
    pub file_is : IsTrue w.files.told → w.files.content name ≡ Some file
    pub says : look.Says file text

  -- the file has a fault, if files are transparent
  abbrev pub HasLookFault : World → Fault → Type 0
  HasLookFault w fault = IsTrue w.files.told → IsSomeAnd (w.files.content name) (λ file. look.Refuses file fault)

  pub data LookAnswers (old new : World) (answer : Status) : Type 0 where
    printed : answer ≡ status.Ok → (text : List ℕ) → IsSaidOf old text → PrintsOnly text old new →
        LookAnswers old new answer
    at_text : answer ≡ status.WriteFault → (text : List ℕ) → IsSaidOf old text → FailsAtLine text old new
        → LookAnswers old new answer
    refused : (fault : Fault) → answer ≡ status.Refused fault → HasLookFault old fault →
        PrintsOnly (refused_line fault) old new
        → LookAnswers old new answer
    at_refusal : (fault : Fault) → answer ≡ status.WriteFault → HasLookFault old fault →
        FailsAtLine (refused_line fault) old new
        → LookAnswers old new answer
    at_file : answer ≡ status.ReadFault → ReadRose old new name → IsSilent old new → LookAnswers old new answer
    no_memory : answer ≡ status.NoMemory → IsSilent old new → LookAnswers old new answer

  -- no count of faults rose
  pub record NoneRoseLooking (old new : World) : Type 0 where
    pub file : ReadRose old new name → ⊥
    pub line : Rose old.output.faults new.output.faults → ⊥

  -- The command is done, or memory runs out, if there is no fault and no count rose.
  abbrev pub LookCompletes : Status → World → World → Type 0
  LookCompletes answer old new =
      IsTrue old.files.told → (file : List ℕ) → old.files.content name ≡ Some file →
      ((fault : Fault) → look.Refuses file fault → ⊥) → NoneRoseLooking old new → IsOkOrNoMemory answer

  abbrev pub LookServes : Status → World → World → Type 0
  LookServes answer old new = IsServed (LookAnswers old new answer) (LookCompletes answer old new) old new

-- What holds at the end of a verification, by its answer.
use Rattle.std.specs.Prelude.{◌≡◌, ◌⊎◌, ℕ, List, IsSomeAnd, IsTrue}
use Rattle.rb_bytes.specs.declared.fault.Fault.{Fault}
use Rattle.rb_io.specs.FaultCounts.{Rose}
use Rattle.cli_base.specs.PrintedLines.{FailsAtLine, IsSilent, PrintsOnly}
use Rattle.cli_base.specs.Served.{IsServed}
use Rattle.cli_base.specs.World.{ReadRose, World}
use Rattle.cli_base.specs.declared.status.Status.{Status}
use Rattle.cli_base.specs.declared.status.Status.TheVariants as status
use Rattle.map_check.specs.declared.clause.Verdict.{Verdict}
use Rattle.cli_check.specs.VerdictLines.{IsRefusalLine, status_of, verdict_line}
use Rattle.cli_check.specs.VerifiedFiles.{IsRefusedBy, IsVerdictOn}
use Rattle.cli_args.specs.Args.{VerifyNames}

-- all three files exist, and their contents satisfy P
abbrev pub OfFiles : World → VerifyNames → (List ℕ → List ℕ → List ℕ → Type 0) → Type 0
OfFiles w names P =
    IsSomeAnd (w.files.content names.input) (λ input.
    IsSomeAnd (w.files.content names.output) (λ output.
    IsSomeAnd (w.files.content names.map) (λ map. P input output map)))

-- the contents of the three files satisfy P, if files are transparent
abbrev pub OfTold : World → VerifyNames → (List ℕ → List ℕ → List ℕ → Type 0) → Type 0
OfTold w names P = IsTrue w.files.told → OfFiles w names P

-- No file was written. A verdict is printed, or a refusal; or printing its line fails; or a file can't be read, or
-- memory ran out, and nothing was printed. A refusal's line is one of the lines of its fault, even if files are opaque.
pub data VerifyAnswers (names : VerifyNames) (old new : World) (answer : Status) : Type 0 where
  judged : (v : Verdict) → answer ≡ status_of v → OfTold old names (λ i o m. IsVerdictOn i o m v) →
      PrintsOnly (verdict_line v) old new → VerifyAnswers names old new answer
  at_verdict : (v : Verdict) → answer ≡ status.WriteFault → OfTold old names (λ i o m. IsVerdictOn i o m v) →
      FailsAtLine (verdict_line v) old new → VerifyAnswers names old new answer
  refused : (fault : Fault) (line : List ℕ) → answer ≡ status.Refused fault → IsRefusalLine fault line →
      OfTold old names (λ i o m. IsRefusedBy i o m fault line) → PrintsOnly line old new →
      VerifyAnswers names old new answer
  at_refusal : (fault : Fault) (line : List ℕ) → answer ≡ status.WriteFault → IsRefusalLine fault line →
      OfTold old names (λ i o m. IsRefusedBy i o m fault line) → FailsAtLine line old new →
      VerifyAnswers names old new answer
  at_file : answer ≡ status.ReadFault →
      ReadRose old new names.input ⊎ (ReadRose old new names.output ⊎ ReadRose old new names.map) → IsSilent old new →
      VerifyAnswers names old new answer
  no_memory : answer ≡ status.NoMemory → IsSilent old new → VerifyAnswers names old new answer

-- there is no fault
abbrev pub AreAccepted : List ℕ → List ℕ → List ℕ → Type 0
AreAccepted input output map = (fault : Fault) (line : List ℕ) → IsRefusedBy input output map fault line → ⊥

-- no count of faults rose: of the files that are read, and of standard output
pub record NoneRoseVerifying (names : VerifyNames) (old new : World) : Type 0 where
  pub input : ReadRose old new names.input → ⊥
  pub output : ReadRose old new names.output → ⊥
  pub map : ReadRose old new names.map → ⊥
  pub line : Rose old.output.faults new.output.faults → ⊥

-- the answer is a verdict, or that memory ran out
abbrev pub IsJudgedOrNoMemory : Status → Type 0
IsJudgedOrNoMemory status.Ok = Unit {0}
IsJudgedOrNoMemory (status.Unfaithful clause place) = Unit {0}
IsJudgedOrNoMemory status.NoMemory = Unit {0}
IsJudgedOrNoMemory _ = ⊥

-- there is a verdict, or memory runs out, if there is no fault and no count rose
abbrev pub VerifyCompletes : VerifyNames → Status → World → World → Type 0
VerifyCompletes names answer old new =
    IsTrue old.files.told → OfFiles old names AreAccepted → NoneRoseVerifying names old new → IsJudgedOrNoMemory answer

-- the command `verify`
abbrev pub VerifyServes : VerifyNames → Status → World → World → Type 0
VerifyServes names answer old new =
    IsServed (VerifyAnswers names old new answer) (VerifyCompletes names answer old new) old new

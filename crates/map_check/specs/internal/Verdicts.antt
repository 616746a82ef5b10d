-- Intermediate results of a check.
use Rattle.std.specs.Prelude.{◌≡◌, ◌≤◌, ℕ, All, Bool, List}
use Rattle.rv_code.specs.declared.cell.CodeCell.{CodeCell}
use Rattle.rv_code.specs.layout.Flow.{insts_of}
use Rattle.rv_code.specs.layout.ProgramCode.{ProgramCode}
use Rattle.elf_image.specs.declared.elf.Elf.{Elf}
use Rattle.elf_image.specs.file.ParsedFile.{IsElfOf}
use Rattle.elf_image.specs.memory.Executables.{AreCodeBytes}
use Rattle.code_starts.specs.LoadedMemory.{IsLow}
use Rattle.move_law.specs.FaithfulRewrite.{GoesOn, IsFaithful, IsMapOf, KeepsInst}
use Rattle.move_law.specs.Rewrite.{Goes, Rewrite, out}
use Rattle.map_check.specs.declared.clause.Clause.{Clause}
use Rattle.map_check.specs.declared.clause.Verdict.{Verdict}
use Rattle.map_check.specs.declared.clause.Verdict.TheVariants as verdict
use Rattle.map_check.specs.FirstFalse.{IsFalseIn, IsFirstFalse, number_of}
use Rattle.map_check.specs.internal.Cells.{AreApart, HasWidth}

-- what holds for the two files and for the code cells of the input
pub record AreReady (input : Elf) (cells : List CodeCell) (output : Elf) : Type 0 where
  pub input_low : IsLow input
  pub input_read : IsElfOf input.file.now input
  pub output_low : IsLow output
  pub output_read : IsElfOf output.file.now output
  pub apart : AreApart cells
  pub widths : All HasWidth cells

pub record AreInputsOf (r : Rewrite) (input : Elf) (code : ProgramCode) (tight : Bool) : Type 0 where
  pub input_is : r.input ≡ input
  pub code_is : r.code ≡ code
  pub tight_is : r.tight ≡ tight

-- the clauses with numbers up to n are false nowhere
abbrev pub HoldUpTo : Rewrite → ℕ → Type 0
HoldUpTo r n = (which : Clause) (place : ℕ) → number_of which ≤ n → IsFalseIn r which place → ⊥

-- the clauses on code hold
pub record KeepsAllCode (r : Rewrite) : Type 0 where
  pub map : IsMapOf r
  pub span_bytes : All (λ s. AreCodeBytes r.output s.out s.len) r.spans
  pub insts : All (KeepsInst r (Goes r.output)) (insts_of r.code.funcs)
  pub goes_on : All (GoesOn r (Goes r.output)) (insts_of r.code.funcs)
  pub entry : r.output.entry ≡ out r r.input.entry

-- the verdict on a rewrite whose map was read
abbrev pub IsVerdictIn : Rewrite → Verdict → Type 0
IsVerdictIn r verdict.Faithful = IsFaithful r
IsVerdictIn r (verdict.Unfaithful which place) = IsFirstFalse (IsFalseIn r) which place

-- The clauses of a faithful rewrite: the places at which each is false, and which false clause a check reports.
use Rattle.std.specs.Prelude.{◌≡◌, ◌≢◌, ℕ, ◌<◌, ◌≤◌, Bool, List, Some, All, IfSome}
use Rattle.rv_code.specs.layout.ProgramCode.{ProgramCode}
use Rattle.rv_code.specs.layout.Flow.{insts_of}
use Rattle.elf_image.specs.declared.elf.Elf.{Elf}
use Rattle.elf_code.specs.FileCode.{IsCodeOf}
use Rattle.rv_code.specs.machine.MemoryNumbers.{number_in}
use Rattle.elf_image.specs.memory.LoadedBytes.{address_of, byte_at}
use Rattle.addr_map.specs.declared.span.Span.{Span}
use Rattle.elf_image.specs.memory.HiddenFields.{e_entry_field}
use Rattle.move_law.specs.Rewrite.{Rewrite, out, Goes}
use Rattle.elf_image.specs.memory.Executables.{memory_of, AreCodeBytes, executable_read}
use Rattle.move_law.specs.FaithfulRewrite.{IsFaithful, KeepsInst, GoesOn, KeepsByte, KeepsCell, KeepsLayout}
use Rattle.map_check.specs.declared.clause.Clause.{Clause}
use Rattle.map_check.specs.declared.clause.Clause.TheVariants as clause
use Rattle.map_check.specs.declared.clause.Verdict.{Verdict}
use Rattle.map_check.specs.declared.clause.Verdict.TheVariants as verdict
use Rattle.map_check.specs.BadSpans.{IsBadSpan}
use Rattle.map_check.specs.Lacking.{LacksAt}
use Rattle.map_check.specs.MapReading.{IsMapOfLines, IsFirstBadLine}

-- the code of a file in which some ranges have exception tables
abbrev pub HasCode : Elf → ProgramCode → Type 0
HasCode elf code = (tabled : List (ℕ × ℕ)) × IsCodeOf elf tabled code

-- What is checked: an input with its code, an output, and the text of a map. `tight` says that there is no room for new
-- code after the input's executable segment.
pub record Claim : Type 0 where
  pub input : Elf
  pub code : ProgramCode
  pub tight : Bool
  pub output : Elf
  pub text : List ℕ

abbrev pub rewrite_with : Claim → List Span → Rewrite
rewrite_with c spans =
    record { input = c.input; code = c.code; tight = c.tight; output = executable_read c.output; spans = spans }

-- the byte at an address is kept, if the input loads one
abbrev pub IsKept : Rewrite → ℕ → Type 0
IsKept r a = (byte : ℕ) → byte_at r.input a ≡ Some byte → KeepsByte r a byte

-- the cells at an address, and the field of the entry point if it is loaded there, hold their new values
pub record KeepsCellsAt (r : Rewrite) (a : ℕ) : Type 0 where
  pub each : All (λ c. c.addr ≡ a → KeepsCell r c) r.code.cells
  pub entry : IfSome (address_of r.input e_entry_field)
      (λ b. b ≡ a → number_in (memory_of r.output) b 8 ≡ Some r.output.entry)

-- The places at which a clause is false, for a rewrite whose map was read.
abbrev pub IsFalseIn : Rewrite → Clause → ℕ → Type 0
IsFalseIn r clause.MapText place = ⊥
IsFalseIn r clause.MapSpan a = IsBadSpan r.code r.spans a
IsFalseIn r clause.SpanBytes a = LacksAt (λ s. AreCodeBytes r.output s.out s.len) (λ s. s.input) r.spans a
IsFalseIn r clause.Instruction a = LacksAt (KeepsInst r (Goes r.output)) (λ p. p.addr) (insts_of r.code.funcs) a
IsFalseIn r clause.Next a = LacksAt (GoesOn r (Goes r.output)) (λ p. p.addr) (insts_of r.code.funcs) a
IsFalseIn r clause.Entry place = (r.output.entry ≢ out r r.input.entry) × (place ≡ r.output.entry)
IsFalseIn r clause.Byte a = IsKept r a → ⊥
IsFalseIn r clause.Cell a = KeepsCellsAt r a → ⊥
IsFalseIn r clause.Table place = (KeepsLayout r → ⊥) × (place ≡ 0)

pub data IsFalseAt (c : Claim) : Clause → ℕ → Type 0 where
  bad_line : (number : ℕ) → IsFirstBadLine c.text number → IsFalseAt c clause.MapText number
  in_rewrite : (spans : List Span) (which : Clause) (place : ℕ) → IsMapOfLines c.text spans →
      IsFalseIn (rewrite_with c spans) which place → IsFalseAt c which place

abbrev pub number_of : Clause → ℕ
number_of clause.MapText = 1
number_of clause.MapSpan = 2
number_of clause.SpanBytes = 3
number_of clause.Instruction = 4
number_of clause.Next = 5
number_of clause.Entry = 6
number_of clause.Byte = 7
number_of clause.Cell = 8
number_of clause.Table = 9

-- the first false clause, at its lowest place; `IsFalse` says at which places each clause is false
pub record IsFirstFalse (IsFalse : Clause → ℕ → Type 0) (which : Clause) (place : ℕ) : Type 0 where
  pub present : IsFalse which place
  pub first : (other : Clause) (p : ℕ) → number_of other < number_of which → IsFalse other p → ⊥
  pub lowest : (p : ℕ) → IsFalse which p → place ≤ p

-- the map is read, and the rewrite with it is faithful
abbrev pub IsFaithfulClaim : Claim → Type 0
IsFaithfulClaim c = (spans : List Span) × IsMapOfLines c.text spans × IsFaithful (rewrite_with c spans)

abbrev pub IsVerdict : Claim → Verdict → Type 0
IsVerdict c verdict.Faithful = IsFaithfulClaim c
IsVerdict c (verdict.Unfaithful which place) = IsFirstFalse (IsFalseAt c) which place

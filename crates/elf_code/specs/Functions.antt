-- Functions: parts of executable sections that are kept, with their instructions. Padding is dropped: parts of zeros
-- (Parts.antt), and parts of nops that nothing leads to.
use Rattle.std.specs.Prelude.{◌≡◌, ◌⊎◌, ◌↔◌, ℕ, ◌+◌, ◌≤◌, ◌<◌, true, List, [], ◌∷◌, Some, Contains, AllPairs}
use Rattle.rv_code.specs.declared.inst.Inst.{Inst}
use Rattle.rv_code.specs.declared.placed.Placed.{Placed}
use Rattle.rv_code.specs.declared.placed.Func.{Func}
use Rattle.rv_code.specs.declared.placed.Role.{Role}
use Rattle.rv_code.specs.declared.cell.CodeCell.{CodeCell}
use Rattle.rv_code.specs.isa.Action.{action_of}
use Rattle.rv_code.specs.layout.Flow.{target, falls}
use Rattle.rv_code.specs.layout.ProgramCode.{RoleNames, CellNames}
use Rattle.elf_image.specs.declared.elf.Elf.{Elf}
use Rattle.elf_code.specs.Parts.{IsPart, IsCovered, IsCodePart, IsWholePart, StartsIn, HasValidInst, IsInstAt}
use Rattle.elf_code.specs.Parts.{halfword_at, length_at}
use Rattle.elf_code.specs.Roles.{HasRole, RoleIs}
use Rattle.elf_code.specs.Cells.{IsCell}

-- C.NOP, or ADDI x0,x0,0. ISA manual, section 2.4 and the chapter on C, "NOP Instruction".
abbrev pub IsNopAt : Elf → ℕ → Type 0
IsNopAt elf a = (halfword_at elf a ≡ 0x0001) ⊎ ((halfword_at elf a ≡ 0x0013) × (halfword_at elf (a + 2) ≡ 0))

-- An uncovered part that consists of nops. The last nop ends at the end of the part.
pub record IsNopPart (elf : Elf) (start end : ℕ) : Type 0 where
  pub part : IsPart elf start end
  pub uncovered : IsCovered elf start end → ⊥
  pub nops : (a : ℕ) → StartsIn elf start end a → IsNopAt elf a × (a + length_at elf a ≤ end)

-- A branch or jump, a role, a cell or the entry point refers to the address.
pub data IsReferred (elf : Elf) (tabled : List (ℕ × ℕ)) (a : ℕ) : Type 0 where
  jump : (start end from : ℕ) (inst : Inst) (bytes : ℕ) → HasValidInst elf start end from inst bytes →
      target from (action_of inst) ≡ Some a → IsReferred elf tabled a
  role : (at : ℕ) (role : Role) → HasRole elf at role → RoleNames role a → IsReferred elf tabled a
  cell : (cell : CodeCell) → IsCell elf tabled cell → CellNames cell a → IsReferred elf tabled a
  entry : elf.entry ≡ a → IsReferred elf tabled a

-- The parts that are functions: parts with code other than nops, and parts of nops if a reference goes to one of the
-- nops, or if the last instruction of the function before the part falls through to it.
pub data IsFunctionPart (elf : Elf) (tabled : List (ℕ × ℕ)) : ℕ → ℕ → Type 0 where
  code : (start end : ℕ) → IsCodePart elf start end → (IsNopPart elf start end → ⊥) →
      IsFunctionPart elf tabled start end
  referred : (start end a : ℕ) → IsNopPart elf start end → StartsIn elf start end a → IsReferred elf tabled a →
      IsFunctionPart elf tabled start end
  fallen_into : (start end before a : ℕ) (inst : Inst) (bytes : ℕ) → IsNopPart elf start end →
      IsFunctionPart elf tabled before start →
      HasValidInst elf before start a inst bytes → a + bytes ≡ start → falls (action_of inst) true ≡ true →
      IsFunctionPart elf tabled start end

-- A code address is the start of an instruction of a function. Every other address is a number, even in code.
pub record IsCodeAddress (elf : Elf) (tabled : List (ℕ × ℕ)) (a : ℕ) : Type 0 where
  pub start : ℕ
  pub end : ℕ
  pub function : IsFunctionPart elf tabled start end
  pub starts : StartsIn elf start end a

-- Functions as later crates get them.

-- These instructions with their roles follow one another, from address `a` to `end`.
abbrev pub AreInsts : Elf → ℕ → List Placed → ℕ → Type 0
AreInsts elf a [] end = a ≡ end
AreInsts elf a (p ∷ ps) end = (p.addr ≡ a) × IsInstAt elf a p.inst p.len × RoleIs elf a p.role
    × AreInsts elf (a + p.len) ps end

pub record IsFunction (elf : Elf) (tabled : List (ℕ × ℕ)) (func : Func) : Type 0 where
  pub part : IsFunctionPart elf tabled func.start func.end
  pub whole : (func.whole ≡ true) ↔ IsWholePart elf tabled func.start func.end
  pub insts : AreInsts elf func.start func.insts.items func.end

-- All functions, by address.
pub record AreFunctions (elf : Elf) (tabled : List (ℕ × ℕ)) (funcs : List Func) : Type 0 where
  pub only : (func : Func) → Contains funcs func → IsFunction elf tabled func
  pub each : (start end : ℕ) → IsFunctionPart elf tabled start end →
      (func : Func) × Contains funcs func × (func.start ≡ start) × (func.end ≡ end)
  pub ordered : AllPairs (λ f g. f.start < g.start) funcs

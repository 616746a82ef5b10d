-- Faults of a file's functions, and their places.
use Rattle.std.specs.Prelude.{◌≡◌, ℕ, ◌<◌, ◌≤◌, ℤ, List, Some}
use Rattle.rb_bytes.specs.declared.fault.FaultKind.{FaultKind}
use Rattle.rb_bytes.specs.declared.fault.FaultKind.TheVariants.{BadEntry, BadInstruction, BareAuipc, BadTarget}
use Rattle.rv_code.specs.declared.inst.Inst.{Inst}
use Rattle.rv_code.specs.declared.inst.Inst.TheVariants.{Auipc}
use Rattle.rv_code.specs.declared.placed.Role.TheVariants.{CallHi}
use Rattle.rv_code.specs.isa.Action.{action_of}
use Rattle.rv_code.specs.layout.Flow.{target}
use Rattle.elf_image.specs.declared.elf.Elf.{Elf}
use Rattle.elf_code.specs.Parts.{StartsIn, IsInstAt, HasValidInst}
use Rattle.elf_code.specs.Roles.{HasRole, HasNoRole}
use Rattle.elf_code.specs.Functions.{IsFunctionPart, IsCodeAddress}

-- The entry point isn't the start of an instruction of a function.
pub record IsBadEntry (elf : Elf) (tabled : List (ℕ × ℕ)) (place : ℕ) : Type 0 where
  pub is_entry : place ≡ elf.entry
  pub no_code : IsCodeAddress elf tabled place → ⊥

-- The bytes at the start of an instruction of a function aren't a valid instruction: they encode none, it goes past the
-- function's end, its address is odd, or it has two bytes and the flag for such instructions isn't in the file header.
pub record IsBadInstruction (elf : Elf) (tabled : List (ℕ × ℕ)) (place : ℕ) : Type 0 where
  pub start : ℕ
  pub end : ℕ
  pub function : IsFunctionPart elf tabled start end
  pub starts : StartsIn elf start end place
  pub invalid : (inst : Inst) (bytes : ℕ) → HasValidInst elf start end place inst bytes → ⊥

-- An AUIPC without a relocation that says what it refers to. Both kinds are searched for together. An AUIPC that isn't
-- valid at its address is only a bad instruction.
pub record IsBareAuipc (elf : Elf) (tabled : List (ℕ × ℕ)) (place : ℕ) : Type 0 where
  pub start : ℕ
  pub end : ℕ
  pub function : IsFunctionPart elf tabled start end
  pub rd : ℕ
  pub imm : ℤ
  pub auipc : HasValidInst elf start end place (Auipc rd imm) 4
  pub no_role : HasNoRole elf place

-- The address is in a function, but isn't the start of one of its instructions.
pub record IsInsideInstruction (elf : Elf) (tabled : List (ℕ × ℕ)) (a : ℕ) : Type 0 where
  pub start : ℕ
  pub end : ℕ
  pub function : IsFunctionPart elf tabled start end
  pub above : start ≤ a
  pub below : a < end
  pub no_code : IsCodeAddress elf tabled a → ⊥

-- A jump or branch to an address that isn't an instruction of a function, or the AUIPC of a call pair whose target is
-- inside an instruction of a function. The target of a call pair may be outside all functions: it is a number then.
pub data IsBadTarget (elf : Elf) (tabled : List (ℕ × ℕ)) (place : ℕ) : Type 0 where
  direct : IsCodeAddress elf tabled place → (inst : Inst) (bytes : ℕ) → IsInstAt elf place inst bytes → (to : ℕ) →
      target place (action_of inst) ≡ Some to →
      (IsCodeAddress elf tabled to → ⊥) → IsBadTarget elf tabled place
  pair : IsCodeAddress elf tabled place → (to : ℕ) → HasRole elf place (CallHi to) → IsInsideInstruction elf tabled to →
      IsBadTarget elf tabled place

-- The file has the fault at this place. Other kinds belong to other crates.
abbrev pub HasFunctionFault : Elf → List (ℕ × ℕ) → FaultKind → ℕ → Type 0
HasFunctionFault elf tabled BadEntry place = IsBadEntry elf tabled place
HasFunctionFault elf tabled BadInstruction place = IsBadInstruction elf tabled place
HasFunctionFault elf tabled BareAuipc place = IsBareAuipc elf tabled place
HasFunctionFault elf tabled BadTarget place = IsBadTarget elf tabled place
HasFunctionFault elf tabled _ place = ⊥

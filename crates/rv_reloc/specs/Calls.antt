-- Calls by their two instructions.
use Rattle.std.specs.Prelude.{◌≡◌, ◌≢◌, ◌⊎◌, ℕ, ◌+◌, pos}
use Rattle.rv_code.specs.declared.inst.Inst.TheVariants.{Auipc, Jalr}
use Rattle.elf_image.specs.declared.elf.Elf.{Elf}
use Rattle.elf_code.specs.Parts.{HasInst}
use Rattle.elf_code.specs.Roles.{pair_target}
use Rattle.elf_code.specs.ReferenceFaults.{IsAddress}
use Rattle.rv_reloc.specs.declared.calls.CallInsts.{CallInsts}
use Rattle.rv_reloc.specs.declared.instructions.Jump.{Jump}

-- An AUIPC at address `a` is followed by a JALR in the same part.
pub record IsCallAt (elf : Elf) (a : ℕ) (c : CallInsts) : Type 0 where
  pub start : ℕ
  pub end : ℕ
  pub auipc : HasInst elf start end a (Auipc c.auipc.rd c.auipc.imm) 4
  pub link : ℕ
  pub jalr : HasInst elf start end (a + 4) (Jalr link c.jalr.base c.jalr.imm) 4

-- `c` is the only call at address `a`.
abbrev pub IsTheCallAt : Elf → ℕ → CallInsts → Type 0
IsTheCallAt elf a c = IsCallAt elf a c × ((d : CallInsts) → IsCallAt elf a d → c ≡ d)

-- A part has this JALR after the instruction at address `a`.
pub record IsJumpAfter (elf : Elf) (start end a : ℕ) (j : Jump) : Type 0 where
  pub link : ℕ
  pub jalr : HasInst elf start end (a + 4) (Jalr link j.base j.imm) 4

-- The JALR jumps through the register that the AUIPC writes.
abbrev pub IsThrough : CallInsts → Type 0
IsThrough c = (c.jalr.base ≡ c.auipc.rd) × (c.jalr.base ≢ 0)

-- A call of an undefined weak symbol.
abbrev pub IsWeak : CallInsts → Type 0
IsWeak c = (c.jalr.base ≡ 0) × (c.auipc.imm ≡ pos 0) × ((c.auipc.rd ≡ 0) ⊎ (c.jalr.imm ≡ pos 0))

-- A call at address `a` has an address as its target, or is a call of an undefined weak symbol.
abbrev pub FitsCall : ℕ → CallInsts → Type 0
FitsCall a c = (IsThrough c × IsAddress (pair_target a c.auipc.imm c.jalr.imm)) ⊎ IsWeak c

-- A call at address `a` has the target `target`.
abbrev pub GoesTo : ℕ → CallInsts → ℕ → Type 0
GoesTo a c target = IsThrough c × (pos target ≡ pair_target a c.auipc.imm c.jalr.imm)

-- The target in the role of the AUIPC of a call at address `a`: the call's target, or `a` itself if the JALR jumps
-- through x0.
abbrev pub Names : ℕ → CallInsts → ℕ → Type 0
Names a c target = GoesTo a c target ⊎ ((c.jalr.base ≡ 0) × (target ≡ a))

-- Roles: the part of an address that the immediate of an instruction has, from the relocations that apply to it. psABI,
-- "Relocations": "Procedure Calls", "PC-Relative Symbol Addresses", "Absolute Addresses". Only four-byte instructions
-- have roles.
use Rattle.std.specs.Prelude.{◌≡◌, ◌≢◌, ◌⊎◌, ℕ, ◌+◌, ◌<◌, ◌≤◌, ℤ, pos, ◌+ℤ◌, ◌*ℤ◌, ◌==◌, ◌||◌, if◌then◌else◌, IsTrue}
use Rattle.std.specs.Prelude.{IsSome, Option, Some, None, Contains}
use Rattle.rv_code.specs.declared.inst.Inst.{Inst}
use Rattle.rv_code.specs.declared.inst.Inst.TheVariants.{Auipc, Jalr, Lui}
use Rattle.rv_code.specs.declared.op.Op.TheVariants as op
use Rattle.rv_code.specs.declared.action.Operand.TheVariants.{Immediate}
use Rattle.rv_code.specs.declared.action.Action.{Action}
use Rattle.rv_code.specs.declared.action.Action.TheVariants.{Compute, JumpTo, Load, Store}
use Rattle.rv_code.specs.declared.placed.Role.{Role}
use Rattle.rv_code.specs.declared.placed.Role.TheVariants.{Plain, CallHi, CallLo, Hi, Lo, AbsHi, AbsLo}
use Rattle.rv_code.specs.isa.Action.{action_of}
use Rattle.elf_image.specs.declared.elf.Elf.{Elf}
use Rattle.elf_image.specs.declared.relocation.TheConstants.{R_RISCV_PCREL_LO12_I, R_RISCV_HI20, R_RISCV_LO12_I}
use Rattle.elf_image.specs.declared.relocation.TheConstants.{R_RISCV_LO12_S}
use Rattle.elf_code.specs.Parts.{HasInst, IsStart}
use Rattle.elf_code.specs.Relocations.{Relocation, relocations, symbol_value, label, is_call_pair, is_pcrel_hi}
use Rattle.elf_code.specs.Relocations.{is_pcrel_lo}

-- A four-byte instruction of a code part starts at an address.
pub record IsFullAt (elf : Elf) (a : ℕ) (inst : Inst) : Type 0 where
  pub start : ℕ
  pub end : ℕ
  pub has : HasInst elf start end a inst 4

-- Immediates that can have the lower part of an address: in format I those of ADDI, loads and JALR, and in format S
-- those of stores.

abbrev pub immediate_i : Action → Option ℤ
immediate_i (Compute op.Add rd left (Immediate imm)) = Some imm
immediate_i (JumpTo rd rs1 imm) = Some imm
immediate_i (Load e rd rs1 imm) = Some imm
immediate_i _ = None

abbrev pub immediate_s : Action → Option ℤ
immediate_s (Store n rs1 rs2 imm) = Some imm
immediate_s _ = None

-- The immediate for a relocation of type `kind`.
abbrev pub lower_immediate : ℕ → Inst → Option ℤ
lower_immediate kind inst =
    if kind == R_RISCV_PCREL_LO12_I || kind == R_RISCV_LO12_I then immediate_i (action_of inst) else immediate_s
    (action_of inst)

abbrev pub IsAbsoluteLow : ℕ → Type 0
IsAbsoluteLow kind = (kind ≡ R_RISCV_LO12_I) ⊎ (kind ≡ R_RISCV_LO12_S)

-- The target of an AUIPC and a lower part, not truncated to 64 bits.
abbrev pub pair_target : ℕ → ℤ → ℤ → ℤ
pair_target hi upper lower = pos hi +ℤ (pos 4096 *ℤ upper +ℤ lower)

-- A call relocation on an AUIPC that is followed by a JALR in the same part.
pub record CallPair (elf : Elf) (r : Relocation) : Type 0 where
  pub counts : Contains (relocations elf) r
  pub is_call : IsTrue (is_call_pair r.kind)
  pub start : ℕ
  pub end : ℕ
  pub rd : ℕ
  pub upper : ℤ
  pub auipc : HasInst elf start end r.place (Auipc rd upper) 4
  pub link : ℕ
  pub base : ℕ
  pub lower : ℤ
  pub jalr : HasInst elf start end (r.place + 4) (Jalr link base lower) 4

-- A call through the AUIPC's register, which isn't x0, to a target.
pub record CallTo (elf : Elf) (r : Relocation) (target : ℤ) : Type 0 where
  pub pair : CallPair elf r
  pub through : pair.base ≡ pair.rd
  pub not_zero : pair.base ≢ 0
  pub target_is : target ≡ pair_target r.place pair.upper pair.lower

-- A relocation for the lower part of the AUIPC at `hi`: the value of its symbol is that address, and the addend is
-- ignored.
pub record PcrelLo (elf : Elf) (r : Relocation) (hi : ℕ) (imm : ℤ) : Type 0 where
  pub counts : Contains (relocations elf) r
  pub is_low : IsTrue (is_pcrel_lo r.kind)
  pub names : symbol_value elf r ≡ hi
  pub inst : Inst
  pub there : IsFullAt elf r.place inst
  pub immediate : lower_immediate r.kind inst ≡ Some imm

-- A relocation for the upper part on an AUIPC, whose target is given by some lower part for this AUIPC.
pub record PcrelHiTo (elf : Elf) (r : Relocation) (target : ℤ) : Type 0 where
  pub counts : Contains (relocations elf) r
  pub is_hi : IsTrue (is_pcrel_hi r.kind)
  pub rd : ℕ
  pub upper : ℤ
  pub auipc : IsFullAt elf r.place (Auipc rd upper)
  pub low : Relocation
  pub lower : ℤ
  pub part : PcrelLo elf low r.place lower
  pub target_is : target ≡ pair_target r.place upper lower

-- A relocation for a lower part, with the target that the AUIPC it refers to gives.
pub record PcrelLoTo (elf : Elf) (r : Relocation) (hi : ℕ) (target : ℤ) : Type 0 where
  pub lower : ℤ
  pub part : PcrelLo elf r hi lower
  pub rd : ℕ
  pub upper : ℤ
  pub auipc : IsFullAt elf hi (Auipc rd upper)
  pub target_is : target ≡ pair_target hi upper lower

-- The address of a relocation is a code address. Parts of data addresses give no role, and don't change.
pub record AbsoluteTo (elf : Elf) (r : Relocation) (target : ℕ) : Type 0 where
  pub counts : Contains (relocations elf) r
  pub target_is : label elf r ≡ pos target
  pub is_code : IsStart elf target

-- The relocation claims a role for the instruction at `a`. The key is the address of the AUIPC, or the target of an
-- absolute address. It orders claims of the same type.
pub data Claims (elf : Elf) (r : Relocation) (a key : ℕ) (role : Role) : Type 0 where
  call_hi : (target : ℕ) → CallTo elf r (pos target) → a ≡ r.place → key ≡ r.place → role ≡ CallHi target →
      Claims elf r a key role
  call_lo : (target : ℕ) → CallTo elf r (pos target) → a ≡ r.place + 4 → key ≡ r.place → role ≡ CallLo r.place target →
      Claims elf r a key role
  -- The linker made a call of an undefined weak symbol a call of address 0, through x0. Both instructions stay the
  -- same. The AUIPC gets a role with itself as the target, and the JALR has no role.
  weak_call : (pair : CallPair elf r) → pair.base ≡ 0 → a ≡ r.place → key ≡ r.place → role ≡ CallHi r.place →
      Claims elf r a key role
  hi : (target : ℕ) → PcrelHiTo elf r (pos target) → a ≡ r.place → key ≡ r.place → role ≡ Hi target →
      Claims elf r a key role
  lo : (hi target : ℕ) → PcrelLoTo elf r hi (pos target) → a ≡ r.place → key ≡ hi → role ≡ Lo hi target →
      Claims elf r a key role
  abs_hi : (target : ℕ) → AbsoluteTo elf r target → r.kind ≡ R_RISCV_HI20 → (rd : ℕ) (imm : ℤ) →
      IsFullAt elf r.place (Lui rd imm) → a ≡ r.place → key ≡ target → role ≡ AbsHi target → Claims elf r a key role
  abs_lo : (target : ℕ) → AbsoluteTo elf r target → IsAbsoluteLow r.kind → (inst : Inst) → IsFullAt elf r.place inst →
      IsSome (lower_immediate r.kind inst) → a ≡ r.place → key ≡ target → role ≡ AbsLo target → Claims elf r a key role

-- The role of the instruction at `a`. Of several claims the lowest type of relocation wins, and of one type the lowest
-- key.
pub record HasRole (elf : Elf) (a : ℕ) (role : Role) : Type 0 where
  pub relocation : Relocation
  pub key : ℕ
  pub claims : Claims elf relocation a key role
  pub first : (r : Relocation) (key' : ℕ) (role' : Role) → Claims elf r a key' role' →
      (relocation.kind < r.kind) ⊎ ((relocation.kind ≡ r.kind) × (key ≤ key'))

-- No relocation gives the instruction at `a` a role.
abbrev pub HasNoRole : Elf → ℕ → Type 0
HasNoRole elf a = (r : Relocation) (key : ℕ) (role : Role) → Claims elf r a key role → ⊥

-- The role of the instruction at `a`, or Plain if it has none.
abbrev pub RoleIs : Elf → ℕ → Role → Type 0
RoleIs elf a role = HasRole elf a role ⊎ (HasNoRole elf a × (role ≡ Plain))

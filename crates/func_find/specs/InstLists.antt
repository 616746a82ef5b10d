-- The instructions of functions, as the code lists them.
use Rattle.std.specs.Prelude.{⊤, ◌≡◌, ◌↔◌, ℕ, ◌<◌, ◌≤◌, ℤ, true, List, Contains, AllPairs}
use Rattle.rb_bytes.specs.Fault.{fault_at}
use Rattle.rb_bytes.specs.declared.fault.Fault.{Fault}
use Rattle.rb_bytes.specs.declared.fault.FaultKind.TheVariants as kind
use Rattle.rb_bytes.specs.declared.fault.Refusal.{Refusal}
use Rattle.rb_bytes.specs.declared.fault.Refusal.TheVariants as refusal
use Rattle.rv_code.specs.declared.inst.Inst.{Inst}
use Rattle.rv_code.specs.declared.inst.Inst.TheVariants.{Auipc}
use Rattle.rv_code.specs.declared.placed.Placed.{Placed}
use Rattle.rv_code.specs.declared.placed.Func.{Func}
use Rattle.elf_image.specs.declared.elf.Elf.{Elf}
use Rattle.elf_code.specs.Parts.{StartsIn, IsInstAt}
use Rattle.elf_code.specs.Roles.{HasNoRole, RoleIs}
use Rattle.elf_code.specs.Functions.{AreInsts}
use Rattle.code_starts.specs.declared.parts.Part.{Part}
use Rattle.func_find.specs.ValidInsts.{IsValidBefore}

-- An AUIPC without a role.
pub record IsBareBefore (elf : Elf) (end a : ℕ) : Type 0 where
  pub rd : ℕ
  pub imm : ℤ
  pub auipc : IsValidBefore elf end a (Auipc rd imm) 4
  pub no_role : HasNoRole elf a

-- There is no valid instruction at address `a`.
abbrev pub IsInvalidBefore : Elf → ℕ → ℕ → Type 0
IsInvalidBefore elf end a = (inst : Inst) (bytes : ℕ) → IsValidBefore elf end a inst bytes → ⊥

-- There is a valid instruction at address `a`, and it isn't an AUIPC without a role.
pub record IsGoodBefore (elf : Elf) (end a : ℕ) : Type 0 where
  pub inst : Inst
  pub bytes : ℕ
  pub valid : IsValidBefore elf end a inst bytes
  pub not_bare : IsBareBefore elf end a → ⊥

-- The fault of the bytes at address `a`.
pub data IsFaultBefore (elf : Elf) (end a : ℕ) (fault : Fault) : Type 0 where
  invalid : fault ≡ fault_at kind.BadInstruction a → IsInvalidBefore elf end a → IsFaultBefore elf end a fault
  bare : fault ≡ fault_at kind.BareAuipc a → IsBareBefore elf end a → IsFaultBefore elf end a fault

-- An instruction with its address and its role. It is the only one that the bytes there encode.
pub record IsPlacedAt (elf : Elf) (end a : ℕ) (p : Placed) : Type 0 where
  pub addr : p.addr ≡ a
  pub valid : IsValidBefore elf end a p.inst p.len
  pub role : RoleIs elf a p.role
  pub only : (inst : Inst) (bytes : ℕ) → IsInstAt elf a inst bytes → inst ≡ p.inst
  pub not_bare : IsBareBefore elf end a → ⊥

-- The first fault of the parts, by address.
pub record IsFirstIn (elf : Elf) (parts : List Part) (fault : Fault) : Type 0 where
  pub part : Part
  pub listed : Contains parts part
  pub place : ℕ
  pub starts : StartsIn elf part.start part.end place
  pub is : IsFaultBefore elf part.end place fault
  pub earlier : (p : Part) (a : ℕ) → Contains parts p → StartsIn elf p.start p.end a → a < place →
      IsGoodBefore elf p.end a

abbrev pub IsFirstRefusal : Elf → List Part → Refusal → Type 0
IsFirstRefusal elf parts (refusal.Fault fault) = IsFirstIn elf parts fault
IsFirstRefusal elf parts refusal.Memory = ⊤

-- The instructions from `start` to `end`, each with its address and role.
pub record AreInstsOf (elf : Elf) (start end : ℕ) (insts : List Placed) : Type 0 where
  pub follow : AreInsts elf start insts end
  pub each : (p : Placed) → Contains insts p → StartsIn elf start end p.addr × IsPlacedAt elf end p.addr p
  pub all : (a : ℕ) → StartsIn elf start end a → (p : Placed) × Contains insts p × (p.addr ≡ a)

-- The function that a part is. It is whole if the part is one of the whole parts.
pub record IsFunctionOf (elf : Elf) (wholes : List Part) (part : Part) (func : Func) : Type 0 where
  pub start : func.start ≡ part.start
  pub end : func.end ≡ part.end
  pub whole : (func.whole ≡ true) ↔ Contains wholes part
  pub insts : AreInstsOf elf part.start part.end func.insts.items

-- Parts and their functions, one for one.
pub record AreFunctionsOf (elf : Elf) (wholes parts : List Part) (funcs : List Func) : Type 0 where
  pub only : (func : Func) → Contains funcs func → (part : Part) × Contains parts part
      × IsFunctionOf elf wholes part func
  pub each : (part : Part) → Contains parts part → (func : Func) × Contains funcs func
      × IsFunctionOf elf wholes part func
  pub ordered : AllPairs (λ f g. f.end ≤ g.start) funcs

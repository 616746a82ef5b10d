-- The result of a decoder: the only instruction with a property, or None if no instruction has it.
use Rattle.std.specs.Prelude.{◌≡◌, Option, Some, None}
use Rattle.rv_code.specs.declared.inst.Inst.{Inst}

-- The instruction has the property, and no other instruction has it.
pub record IsOnlyInst (Is : Inst → Type 0) (inst : Inst) : Type 0 where
  pub found : Is inst
  pub only : (other : Inst) → Is other → other ≡ inst

abbrev pub FindsOnly : (Inst → Type 0) → Option Inst → Type 0
FindsOnly Is (Some inst) = IsOnlyInst Is inst
FindsOnly Is None = (inst : Inst) → Is inst → ⊥

-- Bad targets of instructions, from the starts of instructions and the parts that are functions.
use Rattle.std.specs.Prelude.{◌≡◌, ◌⊎◌, ℕ, List, Some, Any, Contains}
use Rattle.rv_code.specs.declared.placed.Placed.{Placed}
use Rattle.rv_code.specs.declared.placed.Func.{Func}
use Rattle.rv_code.specs.declared.placed.Role.TheVariants.{CallHi}
use Rattle.rv_code.specs.layout.Flow.{target_of}
use Rattle.code_starts.specs.declared.parts.Part.{Part}
use Rattle.code_starts.specs.Parts.{HoldsAddress}
use Rattle.rv_reloc.specs.Places.{IsPlaceOf}

-- One of the parts contains the address.
abbrev pub InSomePart : List Part → ℕ → Type 0
InSomePart parts a = (p : Part) × HoldsAddress parts a p

-- The address is in one of the parts and is the start of an instruction.
pub record IsCodeIn (starts : List ℕ) (parts : List Part) (a : ℕ) : Type 0 where
  pub start : Contains starts a
  pub held : InSomePart parts a

-- The address is in one of the parts and isn't the start of an instruction.
pub record IsInsideIn (starts : List ℕ) (parts : List Part) (a : ℕ) : Type 0 where
  pub held : InSomePart parts a
  pub no_start : Contains starts a → ⊥

-- The target of a branch or jump isn't the start of an instruction of these parts.
pub record JumpsNowhere (starts : List ℕ) (parts : List Part) (p : Placed) : Type 0 where
  pub to : ℕ
  pub target_is : target_of p ≡ Some to
  pub no_code : IsCodeIn starts parts to → ⊥

-- The target of a call pair's AUIPC is inside an instruction.
pub record CallsInside (starts : List ℕ) (parts : List Part) (p : Placed) : Type 0 where
  pub to : ℕ
  pub role_is : p.role ≡ CallHi to
  pub inside : IsInsideIn starts parts to

abbrev pub IsMisled : List ℕ → List Part → Placed → Type 0
IsMisled starts parts p = JumpsNowhere starts parts p ⊎ CallsInside starts parts p

-- The address of an instruction of a function whose target is bad.
abbrev pub HasMisled : List ℕ → List Part → List Func → ℕ → Type 0
HasMisled starts parts funcs place =
    Any (λ f. IsPlaceOf (λ p. p.addr) (IsMisled starts parts) f.insts.items place) funcs

-- No instruction of these parts starts at address `a`, which is the place of the fault.
abbrev pub IsBadStart : List ℕ → List Part → ℕ → ℕ → Type 0
IsBadStart starts parts a place = (IsCodeIn starts parts a → ⊥) × (place ≡ a)

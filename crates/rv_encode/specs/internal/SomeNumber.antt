-- The result of a search: a number with a property, or None if no number has it.
use Rattle.std.specs.Prelude.{ℕ, Option, Some, None}
use Rattle.rv_code.specs.isa.FullRows.{IsFull}
use Rattle.rv_code.specs.isa.HalfRows.{Row}
use Rattle.rv_code.specs.declared.inst.Inst.{Inst}
use Rattle.rv_encode.specs.internal.HalfForms.{IsRowOf, HasForm}

abbrev pub Finds : (ℕ → Type 0) → Option ℕ → Type 0
Finds Is (Some n) = Is n
Finds Is None = (n : ℕ) → Is n → ⊥

-- A word that encodes the instruction.
abbrev pub FindsFull : Inst → Option ℕ → Type 0
FindsFull inst answer = Finds (λ word. IsFull word inst) answer

-- A halfword that encodes the instruction.
abbrev pub FindsHalf : Inst → Option ℕ → Type 0
FindsHalf inst answer = Finds (λ half. HasForm half inst) answer

-- A halfword of one row that encodes the instruction.
abbrev pub FindsRow : Row → Inst → Option ℕ → Type 0
FindsRow row inst answer = Finds (λ half. IsRowOf row half inst) answer

-- Items of a list that lack a property, by their addresses.
use Rattle.std.specs.Prelude.{◌≡◌, ℕ, List, All}

-- not all items at an address have the property
abbrev pub LacksAt : {X : Type 0} → (X → Type 0) → (X → ℕ) → List X → ℕ → Type 0
LacksAt Has address items a = All (λ x. address x ≡ a → Has x) items → ⊥

-- The lowest place in a set of places, if there is one.
use Rattle.std.specs.Prelude.{◌≤◌, ◌<◌, ℕ, Option, Some, None, min, IfSome, IsSomeAnd}

-- The lowest place is in the set, and no place in the set is lower. If there is none, the set is empty.
pub record IsLowest (IsPlace : ℕ → Type 0) (lowest : Option ℕ) : Type 0 where
  pub present : IfSome lowest IsPlace
  pub least : (place : ℕ) → IsPlace place → IsSomeAnd lowest (λ l. l ≤ place)

-- The lower of two places, either of which may be missing.
abbrev pub lower : Option ℕ → Option ℕ → Option ℕ
lower None b = b
lower (Some a) None = Some a
lower (Some a) (Some b) = Some (min a b)

-- A place of one of the structures with an index below n.
abbrev pub SomeBelow : ℕ → (ℕ → ℕ → Type 0) → ℕ → Type 0
SomeBelow n IsPlaceOf place = (i : ℕ) × (i < n) × IsPlaceOf i place

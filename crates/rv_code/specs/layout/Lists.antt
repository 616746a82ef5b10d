-- Lists of all members of a set, in an order.
use Rattle.std.specs.Prelude.{◌≡◌, ◌⊎◌, ◌<◌, ℕ, List, Contains, AllPairs}

-- The list has exactly the members of the set, each once, ordered by the strict order `IsBefore`.
pub record ListsAll {A : Type 0} (Is : A → Type 0) (IsBefore : A → A → Type 0) (items : List A) : Type 0 where
  pub only : (x : A) → Contains items x → Is x
  pub each : (x : A) → Is x → Contains items x
  pub ordered : AllPairs IsBefore items

-- Numbers, ascending.
abbrev pub ListsNumbers : (ℕ → Type 0) → List ℕ → Type 0
ListsNumbers Is numbers = ListsAll Is (λ a b. a < b) numbers

-- Pairs, ordered by the first number and then by the second.
abbrev pub IsPairBefore : ℕ × ℕ → ℕ × ℕ → Type 0
IsPairBefore p q = (p.0 < q.0) ⊎ ((p.0 ≡ q.0) × (p.1 < q.1))

abbrev pub ListsPairs : (ℕ × ℕ → Type 0) → List (ℕ × ℕ) → Type 0
ListsPairs Is pairs = ListsAll Is IsPairBefore pairs

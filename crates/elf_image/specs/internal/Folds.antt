-- The lowest result of a function for the indices below a count.
use Rattle.std.specs.Prelude.{◌≡◌, ◌≤◌, ◌<◌, ℕ, Option, Some, IfSome, IsSomeAnd}

-- `Gives i r` says that the function can return `r` for `i`.
pub record IsLowestOf (Gives : ℕ → Option ℕ → Type 0) (count : ℕ) (lowest : Option ℕ) : Type 0 where
  pub given : IfSome lowest (λ p. (i : ℕ) × (i < count) × Gives i (Some p))
  pub least : (i : ℕ) → i < count → (r : Option ℕ) × Gives i r × ((p : ℕ) → r ≡ Some p → IsSomeAnd lowest (λ l. l ≤ p))

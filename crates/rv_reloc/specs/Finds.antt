-- Results for the items of a list, at most one for each item.
use Rattle.std.specs.Prelude.{List, Contains}

-- The list has exactly the results for the items.
pub record AreFound {A B : Type 0} (Has : A → B → Type 0) (items : List A) (found : List B) : Type 0 where
  pub only : (b : B) → Contains found b → (a : A) × Contains items a × Has a b
  pub each : (a : A) (b : B) → Contains items a → Has a b → Contains found b

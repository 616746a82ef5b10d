-- The first element with a property, by index.
use Rattle.std.proofs.Common.{◌≡◌, ◌∙◌, ap, cond, ℕ, ◌≤◌, Bool, Some, None, List, length, arith}
use Rattle.std.specs.Prelude.{nat_lt, slice_get, find, position}
use Rattle.std.specs.List.{position_or_len}
use Rattle.std.proofs.lemmas.Grind.{common_steps}
use Rattle.std.proofs.lemmas.List.Folds.{find_at}
use Rattle.std.proofs.lemmas.Option.{slice_get_past}

pub find-from_position : {X : Type 0} (p : X → Bool) (xs : List X) (i : ℕ) → position p xs ≡ Some i → find p xs ≡ slice_get xs i
find-from_position p xs i found = find_at p xs ∙ ap (slice_get xs) (some_is (position_or_len p xs) (length xs) i found)
  where
    some_is : (n l i : ℕ) → cond (nat_lt n l) (Some n) None ≡ Some i → n ≡ i
    some_is n l i found = grind (arith, common_steps)

pub find-no_position : {X : Type 0} (p : X → Bool) (xs : List X) → position p xs ≡ None → find p xs ≡ None
find-no_position p xs none = find_at p xs
    ∙ slice_get_past xs (position_or_len p xs) (none_is (position_or_len p xs) (length xs) none)
  where
    none_is : (n l : ℕ) → cond (nat_lt n l) (Some n) None ≡ None → l ≤ n
    none_is n l none = grind (arith, common_steps)

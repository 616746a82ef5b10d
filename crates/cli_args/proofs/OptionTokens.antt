-- Options with a value in their own argument.
use Rattle.std.proofs.Common.{◌≡◌, ℕ, ◌<◌, Bool, true, false, List, [], ◌∷◌, length, refl, arith, Some, None}
use Rattle.std.specs.List.{list_any, position_or_len, before_first, after_first}
use Rattle.std.proofs.lemmas.Grind.{common_steps}
use Rattle.cli_args.specs.CommandLine.{Named, option_of, is_equals}

-- the first index that passes is the length of the list if no item passes, and below it if one does
list_any-past_end : {X : Type 0} (p : X → Bool) (xs : List X) → position_or_len p xs ≡ length xs → list_any p xs ≡ false
list_any-past_end p [] h = refl
list_any-past_end p (x ∷ xs) h = grind (arith, common_steps, list_any-past_end p xs)

list_any-within : {X : Type 0} (p : X → Bool) (xs : List X) → position_or_len p xs < length xs → list_any p xs ≡ true
list_any-within p [] h = absurd (omega arith)
list_any-within p (x ∷ xs) h = grind (arith, common_steps, list_any-within p xs)

pub option_of-split : (arg name value : List ℕ) → name ≡ before_first is_equals arg → value ≡ after_first is_equals arg
    → position_or_len is_equals arg < length arg → Named name (Some value) ≡ option_of arg
option_of-split arg name value n v h = rw (list_any-within is_equals arg h, n, v) refl

pub option_of-alone : (arg : List ℕ) → position_or_len is_equals arg ≡ length arg → Named arg None ≡ option_of arg
option_of-alone arg h = rw (list_any-past_end is_equals arg h) refl

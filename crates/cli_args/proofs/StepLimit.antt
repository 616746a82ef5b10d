-- The limit that `--steps` sets, one value after another.
use Rattle.std.proofs.Common.{◌≡◌, ℕ, List, [], ◌∷◌, refl, Option, Some, None}
use Rattle.rb_bytes.specs.Text.{decimal_number}
use Rattle.cli_args.specs.CommandLine.{limit_of}

-- the limit that the values of `--steps` give after the value that was read, if there was one
abbrev pub limit_after : Option ℕ → List (Option (List ℕ)) → Option ℕ
limit_after None values = limit_of values
limit_after (Some limit) [] = Some limit
limit_after (Some limit) (value ∷ values) = None

pub of_none : (values : List (Option (List ℕ))) → limit_of (None ∷ values) ≡ None
of_none values = refl

pub of_bad : (digits : List ℕ) (values : List (Option (List ℕ))) → decimal_number digits ≡ None →
    limit_of (Some digits ∷ values) ≡ None
of_bad digits [] bad = bad
of_bad digits (value ∷ values) bad = refl

pub of_number : (digits : List ℕ) (values : List (Option (List ℕ))) (limit : ℕ) → decimal_number digits ≡ Some limit →
    limit_of (Some digits ∷ values) ≡ limit_after (Some limit) values
of_number digits [] limit good = good
of_number digits (value ∷ values) limit good = refl

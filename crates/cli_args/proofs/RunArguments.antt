-- The arguments of `run`, one after the other.
use Rattle.std.proofs.Common.{◌≡◌, ℕ, ◌&&◌, nat_le, not, Bool, true, false, List, [], ◌∷◌, length, refl, arith, Option, Some, None, sum_by}
use Rattle.std.specs.List.{list_all}
use Rattle.std.proofs.lemmas.Bool.Decides.{nat_tests}
use Rattle.rv_memory.specs.Limits.{IsWithinLimits}
use Rattle.cli_args.specs.CommandLine.{symbols_of, holds_zero, are_program_args}

-- whether `--symbols` occurs, given whether it occurred before
abbrev pub symbols_after : Bool → List (Option (List ℕ)) → Option Bool
symbols_after false values = symbols_of values
symbols_after true [] = Some true
symbols_after true (value ∷ values) = None

pub symbols_of_more : (value : Option (List ℕ)) (values : List (Option (List ℕ))) →
    symbols_of (value ∷ values) ≡ symbols_after true values
symbols_of_more value [] = refl
symbols_of_more value (next ∷ values) = refl

-- at most `most_args` arguments, of at most `most_bytes` bytes in all, and no byte of them is zero
abbrev pub fits : ℕ → ℕ → List (List ℕ) → Bool
fits most_args most_bytes args =
    nat_le (length args) most_args && nat_le (sum_by (λ arg. length arg) args) most_bytes
    && list_all (λ arg. not (holds_zero arg)) args

pub within_limits : (args : List (List ℕ)) → are_program_args args ≡ true → IsWithinLimits args
within_limits args h = record { few = grind (arith, nat_tests); short = grind (arith, nat_tests) }

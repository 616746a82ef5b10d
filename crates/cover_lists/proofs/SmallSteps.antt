-- Small steps over booleans and options.
use Rattle.std.proofs.Common.{◌≡◌, ◌||◌, ◌&&◌, ℕ, Bool, true, false, Option, Some, None, refl}
use Rattle.answer_runs.specs.Choices.{lower}

pub or_false : (b : Bool) → (b || false) ≡ b
or_false true = refl
or_false false = refl

pub or_true : (b : Bool) → (b || true) ≡ true
or_true true = refl
or_true false = refl

pub and_true : (b : Bool) → (b && true) ≡ b
and_true true = refl
and_true false = refl

pub and_false : (b : Bool) → (b && false) ≡ false
and_false true = refl
and_false false = refl

pub lower_none : (o : Option ℕ) → lower o None ≡ o
lower_none None = refl
lower_none (Some n) = refl

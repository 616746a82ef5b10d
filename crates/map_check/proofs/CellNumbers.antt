-- The numbers that cells hold.
use Rattle.std.proofs.Common.{◌≡◌, ◌∙◌, ◌+◌, ◌-◌, ◌%◌, ◌^◌, ◌<◌, ◌≤◌, ℕ, suc, ⊎_elim, ap, arith, sym}
use Rattle.std.specs.Prelude.{◌-ℤ◌, negsuc, pos}
use Rattle.std.proofs.lemmas.Bool.{cases_lt}
use Rattle.std.proofs.lemmas.Int.{ints}
use Rattle.rv_code.specs.isa.TwosComplement.{unsigned64}
use Rattle.move_law.specs.RelocatedValues.{distance}

pub difference_is : (a b : ℕ) → a < 2 ^ 64 → b < 2 ^ 64 → (a + (2 ^ 64 - b)) % 2 ^ 64 ≡ unsigned64 (distance a b)
difference_is a b small fits = ⊎_elim
    (λ (less : a < b).
    let is : pos a -ℤ pos b ≡ negsuc (b - a - 1) = omega (arith, ints) in
    let number : (a + (2 ^ 64 - b)) % 2 ^ 64 ≡ 2 ^ 64 - suc (b - a - 1) = omega arith in
    number ∙ ap (λ z. unsigned64 z) (sym is))
    (λ (more : b ≤ a).
    let is : pos a -ℤ pos b ≡ pos (a - b) = omega (arith, ints) in
    let number : (a + (2 ^ 64 - b)) % 2 ^ 64 ≡ a - b = omega arith in
    number ∙ ap (λ z. unsigned64 z) (sym is))
    (cases_lt a b)

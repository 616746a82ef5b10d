-- A branch or jump that reaches has an encoding: distances and parts of addresses fit.
use Rattle.std.proofs.Common.{◌≡◌, ℕ, suc, ◌+◌, ◌-◌, ◌%◌, ◌^◌, ◌<◌, ◌≤◌, true, refl, ap, arith, inl, inr, ℤ, pos, negsuc, ◌+ℤ◌}
use Rattle.std.proofs.Common.{◌-ℤ◌, ◌*ℤ◌, ◌≤ℤ◌}
use Rattle.std.specs.Prelude.{nat_lt, nat_le}
use Rattle.std.specs.Int.{int_shr}
use Rattle.std.specs.Int.RustNames.{int_rem}
use Rattle.std.proofs.lemmas.Int.{ints}
use Rattle.std.proofs.lemmas.Bool.{and_parts, leb-true, ltb-true, cases_lt}
use Rattle.rv_code.specs.isa.Reach.{IsWithin, Reaches}
use Rattle.rv_code.specs.isa.HiLo.{hi20, lo12}
use Rattle.move_law.specs.RelocatedValues.{distance}
use Rattle.branch_fixup.specs.Distances.{reaches}

ahead : (a t : ℕ) → a ≤ t → distance t a ≡ pos (t - a)
ahead a t h = omega (arith, ints, h)

behind : (a t : ℕ) → t < a → distance t a ≡ negsuc (a - t - 1)
behind a t h = omega (arith, ints, h)

even_pos : (n : ℕ) → n % 2 ≡ 0 → int_rem (pos n) (pos 2) ≡ pos 0
even_pos n h = ap pos h

even_neg : (n : ℕ) → suc n % 2 ≡ 0 → int_rem (negsuc n) (pos 2) ≡ pos 0
even_neg n h = rw h refl

even_distance : (a t : ℕ) → a % 2 ≡ 0 → t % 2 ≡ 0 → int_rem (distance t a) (pos 2) ≡ pos 0
even_distance a t h k = elim (cases_lt t a) [
  | inl below ↦ rw (behind a t below) (even_neg (a - t - 1) (omega (arith, h, k, below)))
  | inr above ↦ rw (ahead a t above) (even_pos (t - a) (omega (arith, h, k, above)))
]

pub reaches_is : (half a t : ℕ) → reaches half a t ≡ true → a % 2 ≡ 0 → t % 2 ≡ 0 → Reaches half (distance t a)
reaches_is half a t r h k =
    let p = and_parts (nat_lt t (a + half)) (nat_le a (t + half)) r in
    let far = ltb-true t (a + half) p.0 in
    let back = leb-true a (t + half) p.1 in
    record { low = omega (arith, ints, far, back); high = omega (arith, ints, far, back); even = even_distance a t h k }

record IsShifted (w z : ℤ) : Type 0 where
  low : pos 0 ≤ℤ (w -ℤ (pos 4096 *ℤ z))
  high : (w -ℤ (pos 4096 *ℤ z)) ≤ℤ pos 4095

shifted : (w : ℤ) → IsShifted w (int_shr w 12)
shifted (pos n) = record { low = omega (arith, ints); high = omega (arith, ints) }
shifted (negsuc n) = record { low = omega (arith, ints); high = omega (arith, ints) }

lower_by : (v z : ℤ) → IsShifted (v +ℤ pos 0x800) z → IsWithin (2 ^ 11) (v -ℤ (pos 4096 *ℤ z))
lower_by v z s =
    let low = s.low in let high = s.high in record { low = omega (arith, ints, low, high); high = omega (arith, ints, low, high) }

pub lower_within : (v : ℤ) → IsWithin (2 ^ 11) (lo12 v)
lower_within v = lower_by v (hi20 v) (shifted (v +ℤ pos 0x800))

upper_by : (v z : ℤ) → (pos 0 -ℤ pos 0x7fff_0800) ≤ℤ v → v ≤ℤ pos 0x7fff_0800 → IsShifted (v +ℤ pos 0x800) z → IsWithin (2 ^ 19) z
upper_by v z a b s = let low = s.low in let high = s.high in
    record { low = omega (arith, ints, low, high, a, b); high = omega (arith, ints, low, high, a, b) }

pub upper_within : (t a : ℕ) → t ≤ 0x7fff_0000 → a ≤ 0x7fff_0000 → IsWithin (2 ^ 19) (hi20 (distance t a))
upper_within t a h k =
    upper_by (distance t a) (hi20 (distance t a)) (omega (arith, ints, h, k)) (omega (arith, ints, h, k))
    (shifted (distance t a +ℤ pos 0x800))

pub upper_of_number_within : (t : ℕ) → t ≤ 0x7fff_0000 → IsWithin (2 ^ 19) (hi20 (pos t))
upper_of_number_within t h =
    upper_by (pos t) (hi20 (pos t)) (omega (arith, ints, h)) (omega (arith, ints, h)) (shifted (pos t +ℤ pos 0x800))

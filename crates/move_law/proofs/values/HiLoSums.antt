-- The upper and the lower part of a number together give the number.
use Rattle.std.proofs.Common.{◌≡◌, ℕ, ◌*◌, ◌%◌, ◌^◌, ◌<◌, arith, ℤ, pos, negsuc, ◌-ℤ◌, ◌*ℤ◌, ◌≤ℤ◌}
use Rattle.std.specs.Int.{int_shr}
use Rattle.std.proofs.lemmas.Int.{ints}
use Rattle.std.proofs.lemmas.Grind.{common_steps}
use Rattle.rv_code.specs.isa.HiLo.{hi20, lo12}
use Rattle.rv_code.specs.machine.Machine.{plus}
use Rattle.rv_code.specs.isa.TwosComplement.{unsigned64}
use Rattle.move_law.specs.RelocatedValues.{distance, hi20_value}

pub record Within (n : ℕ) (z : ℤ) : Type 0 where
  pub low : (pos 0 -ℤ pos n) ≤ℤ z
  pub high : z ≤ℤ pos n

shr_within : (w : ℤ) → Within (2 ^ 33) w → Within (2 ^ 21) (int_shr w 12)
shr_within (pos a) h = let high = h.high in record { low = omega (arith, ints, high); high = omega (arith, ints, high) }
shr_within (negsuc a) h = let low = h.low in record { low = omega (arith, ints, low); high = omega (arith, ints, low) }

pub upper_within : (v : ℤ) → Within (2 ^ 32) v → Within (2 ^ 21) (hi20 v)
upper_within v h = grind (arith, common_steps, shr_within, ints)

pub distance_within : (t o : ℕ) → t < 2 ^ 31 → o < 2 ^ 31 → Within (2 ^ 32) (distance t o)
distance_within t o h k = record { low = omega (arith, ints, h, k); high = omega (arith, ints, h, k) }

number_within : (t : ℕ) → t < 2 ^ 31 → Within (2 ^ 32) (pos t)
number_within t h = record { low = omega (arith, ints, h); high = omega (arith, ints, h) }

-- what an instruction makes of an upper part
shifted : (z : ℤ) → Within (2 ^ 21) z → unsigned64 z * 4096 % 2 ^ 64 ≡ unsigned64 (pos 4096 *ℤ z)
shifted (pos a) h = let high = h.high in omega (arith, ints, high)
shifted (negsuc a) h = let low = h.low in omega (arith, ints, low)

pub upper_of_distance_is : (t o : ℕ) → t < 2 ^ 31 → o < 2 ^ 31 →
    unsigned64 (hi20 (distance t o)) * 4096 % 2 ^ 64 ≡ hi20_value (distance t o)
upper_of_distance_is t o h k = shifted (hi20 (distance t o)) (upper_within (distance t o) (distance_within t o h k))

pub upper_of_number_is : (t : ℕ) → t < 2 ^ 31 → unsigned64 (hi20 (pos t)) * 4096 % 2 ^ 64 ≡ hi20_value (pos t)
upper_of_number_is t h = shifted (hi20 (pos t)) (upper_within (pos t) (number_within t h))

sum_of : (o t : ℕ) (z : ℤ) → t < 2 ^ 31 → o < 2 ^ 31 → Within (2 ^ 21) z →
    plus (plus o (unsigned64 (pos 4096 *ℤ z))) (unsigned64 (distance t o -ℤ pos 4096 *ℤ z)) ≡ t
sum_of o t z h k w = let low = w.low in let high = w.high in omega (arith, ints, h, k, low, high)

pub distance_sum : (t o : ℕ) → t < 2 ^ 31 → o < 2 ^ 31 →
    plus (plus o (hi20_value (distance t o))) (unsigned64 (lo12 (distance t o))) ≡ t
distance_sum t o h k = sum_of o t (hi20 (distance t o)) h k (upper_within (distance t o) (distance_within t o h k))

number_sum_of : (t : ℕ) (z : ℤ) → t < 2 ^ 31 → Within (2 ^ 21) z →
    plus (unsigned64 (pos 4096 *ℤ z)) (unsigned64 (pos t -ℤ pos 4096 *ℤ z)) ≡ t
number_sum_of t z h w = let low = w.low in let high = w.high in omega (arith, ints, h, low, high)

pub number_sum : (t : ℕ) → t < 2 ^ 31 → plus (hi20_value (pos t)) (unsigned64 (lo12 (pos t))) ≡ t
number_sum t h = grind (arith, common_steps, upper_within, number_within, number_sum_of)

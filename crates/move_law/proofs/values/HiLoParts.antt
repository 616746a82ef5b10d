-- A number that a pair of instructions adds is split into their immediates.
use Rattle.std.proofs.Common.{◌≡◌, ℕ, ◌+◌, ◌*◌, ◌^◌, ◌<◌, ap, arith, ℤ, pos, negsuc, ◌+ℤ◌, ◌-ℤ◌, ◌*ℤ◌, ◌≤ℤ◌}
use Rattle.std.specs.Int.{int_shr}
use Rattle.std.proofs.lemmas.Int.{ints}
use Rattle.std.proofs.lemmas.Bool.{ltb-true, ltb-false}
use Rattle.std.proofs.lemmas.Grind.{common_steps}
use Rattle.rv_code.specs.isa.Bits.{field, signed_by, imm_i, imm_s}
use Rattle.rv_code.specs.isa.HiLo.{hi20, lo12}
use Rattle.elf_code.specs.Roles.{pair_target}
use Rattle.move_law.specs.RelocatedValues.{distance}
use Rattle.rb_bytes.proofs.Tests.{antisym}

pub record IsLower (z : ℤ) : Type 0 where
  pub low : (pos 0 -ℤ pos 2048) ≤ℤ z
  pub high : z ≤ℤ pos 2047

signed_lower : (n : ℕ) → n < 4096 → IsLower (signed_by 2048 n)
signed_lower n h = grind (arith, common_steps, ltb-true, ints, ltb-false)

pub imm_i_lower : (w : ℕ) → IsLower (imm_i w)
imm_i_lower w = signed_lower (field w 20 12) (omega arith)

pub imm_s_lower : (w : ℕ) → IsLower (imm_s w)
imm_s_lower w = signed_lower (field w 25 7 * 2 ^ 5 + field w 7 5) (omega arith)

-- a number whose distance from a multiple of 4096 is 0 to 4095
shr_of : (w z : ℤ) → pos 0 ≤ℤ (w -ℤ pos 4096 *ℤ z) → (w -ℤ pos 4096 *ℤ z) ≤ℤ pos 4095 → int_shr w 12 ≡ z
shr_of (pos a) (pos b) low high = ap pos (omega (arith, ints, low, high))
shr_of (negsuc a) (negsuc b) low high = ap negsuc (omega (arith, ints, low, high))
shr_of (pos a) (negsuc b) low high = absurd (omega (arith, ints, low, high))
shr_of (negsuc a) (pos b) low high = absurd (omega (arith, ints, low, high))

split : (t a : ℕ) (u l : ℤ) → IsLower l → pos t ≡ pair_target a u l →
    (pos 0 ≤ℤ (distance t a +ℤ pos 0x800 -ℤ pos 4096 *ℤ u)) × ((distance t a +ℤ pos 0x800 -ℤ pos 4096 *ℤ u) ≤ℤ pos 4095)
split t a u l is e = grind (arith, common_steps, ints)

pub upper_is : (t a : ℕ) (u l : ℤ) → IsLower l → pos t ≡ pair_target a u l → hi20 (distance t a) ≡ u
upper_is t a u l is e = let s = split t a u l is e in shr_of (distance t a +ℤ pos 0x800) u s.0 s.1

pub lower_is : (t a : ℕ) (u l : ℤ) → IsLower l → pos t ≡ pair_target a u l → lo12 (distance t a) ≡ l
lower_is t a u l is e = grind (arith, common_steps, upper_is, antisym, ints)

-- The distances that the immediate of a jump or a branch can hold. ISA manual, sections 2.5 and 26.4.
use Rattle.std.specs.Prelude.{◌≡◌, ℕ, ℤ, pos, ◌≤ℤ◌, ◌<ℤ◌, ◌-ℤ◌}
use Rattle.std.specs.Int.RustNames.{int_rem}

-- A signed number that fits, if the sign bit has the value `weight`.
pub record IsWithin (weight : ℕ) (imm : ℤ) : Type 0 where
  pub low : (pos 0 -ℤ pos weight) ≤ℤ imm
  pub high : imm <ℤ pos weight

-- An even distance in bytes that fits an immediate whose sign bit has the value `weight`.
pub record Reaches (weight : ℕ) (imm : ℤ) : Type 0 where
  pub low : (pos 0 -ℤ pos weight) ≤ℤ imm
  pub high : imm <ℤ pos weight
  pub even : int_rem imm (pos 2) ≡ pos 0

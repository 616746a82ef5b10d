-- The bytes of a number.
use Rattle.std.proofs.Common.{◌≡◌, refl, ℕ, zero, suc, ◌/◌, ◌%◌, ◌^◌, arith}
use Rattle.std.specs.Int.{byte_at}

-- Byte i of a number.
pub byte_at-power : (i v : ℕ) → byte_at i v ≡ v / 256 ^ i % 256
byte_at-power zero v = omega arith
byte_at-power (suc i) v = refl

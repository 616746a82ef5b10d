-- 64-bit numbers and their values in two's complement.
use Rattle.std.specs.Prelude.{ℕ, ◌%◌, ◌^◌, ℤ}
use Rattle.std.specs.Int.{w32, w64, cast_signed, cast_unsigned}

abbrev pub signed64 : ℕ → ℤ
signed64 n = cast_signed w64 n

-- A number from -2^63 to 2^64 - 1 in 64 bits.
abbrev pub unsigned64 : ℤ → ℕ
unsigned64 z = cast_unsigned w64 z

-- The low 32 bits, and their value in two's complement.
abbrev pub low32 : ℕ → ℕ
low32 n = n % 2 ^ 32

abbrev pub signed32 : ℕ → ℤ
signed32 n = cast_signed w32 (low32 n)

-- The low 32 bits, sign-extended to 64.
abbrev pub sign_extended32 : ℕ → ℕ
sign_extended32 n = unsigned64 (signed32 n)

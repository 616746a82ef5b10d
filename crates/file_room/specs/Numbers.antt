-- 64-bit numbers.
use Rattle.std.specs.Prelude.{ℕ, ◌-◌, ◌^◌, min}

-- The number, saturated at 2^64 - 1.
abbrev pub capped : ℕ → ℕ
capped n = min n (2 ^ 64 - 1)

-- Fields of an instruction word, and the immediates of the formats.
-- ISA manual, sections 2.2 and 2.3.
use Rattle.std.specs.Prelude.{ℕ, ◌+◌, ◌*◌, ◌/◌, ◌%◌, ◌^◌, ℤ, pos, ◌-ℤ◌, nat_lt, if◌then◌else◌}

-- The `width` bits of a word from bit `low` on.
abbrev pub field : ℕ → ℕ → ℕ → ℕ
field word low width = word / 2 ^ low % 2 ^ width

-- A number whose top bit has the value `weight`, as a signed number.
abbrev pub signed_by : ℕ → ℕ → ℤ
signed_by weight n = if nat_lt n weight then pos n else pos n -ℤ pos (2 * weight)

-- A number of `top` + 1 bits, read in two's complement.
abbrev pub signed : ℕ → ℕ → ℤ
signed top n = signed_by (2 ^ top) n

-- Format I: imm[11:0].
abbrev pub imm_i : ℕ → ℤ
imm_i word = signed 11 (field word 20 12)

-- Format S: imm[11:5], imm[4:0].
abbrev pub imm_s : ℕ → ℤ
imm_s word = signed 11 (field word 25 7 * 2 ^ 5 + field word 7 5)

-- Format B: imm[12], imm[11], imm[10:5], imm[4:1].
abbrev pub imm_b : ℕ → ℤ
imm_b word = signed 12 (field word 31 1 * 2 ^ 12 + field word 7 1 * 2 ^ 11 + field word 25 6 * 2 ^ 5 + field word 8 4 *
    2)

-- Format U: imm[31:12], without the 12 zero bits below.
abbrev pub imm_u : ℕ → ℤ
imm_u word = signed 19 (field word 12 20)

-- Format J: imm[20], imm[19:12], imm[11], imm[10:1].
abbrev pub imm_j : ℕ → ℤ
imm_j word = signed 20 (field word 31 1 * 2 ^ 20 + field word 12 8 * 2 ^ 12 + field word 20 1 * 2 ^ 11 + field word 21
    10 * 2)

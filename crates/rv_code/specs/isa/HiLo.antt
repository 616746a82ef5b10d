-- The two parts of an address or distance that a pair of instructions adds. LUI or AUIPC has the upper part, and a
-- later instruction has the lower part, which is sign-extended. ISA manual, sections 2.4 and 2.6; psABI, "Relocations".
use Rattle.std.specs.Prelude.{ℤ, pos, ◌+ℤ◌, ◌-ℤ◌, ◌*ℤ◌}
use Rattle.std.specs.Int.{int_shr}

-- The upper part: rounded to nearest, since the lower part can be negative.
abbrev pub hi20 : ℤ → ℤ
hi20 v = int_shr (v +ℤ pos 0x800) 12

-- The lower part, from -2048 to 2047.
abbrev pub lo12 : ℤ → ℤ
lo12 v = v -ℤ (pos 4096 *ℤ hi20 v)

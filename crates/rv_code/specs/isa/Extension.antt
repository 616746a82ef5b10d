-- How a loaded number fills a register (ISA manual, sections 2.6 and 4.3).
use Rattle.std.specs.Prelude.{ℕ}
use Rattle.std.specs.Int.{w8, w16, w32, cast_signed}
use Rattle.rv_code.specs.isa.TwosComplement.{unsigned64}
use Rattle.rv_code.specs.declared.action.Extension.{Extension}
use Rattle.rv_code.specs.declared.action.Extension.TheVariants.{Signed8, Signed16, Signed32, Whole64, Zero8, Zero16}
use Rattle.rv_code.specs.declared.action.Extension.TheVariants.{Zero32}

-- The number of bytes loaded.
abbrev pub bytes_of : Extension → ℕ
bytes_of Signed8 = 1
bytes_of Signed16 = 2
bytes_of Signed32 = 4
bytes_of Whole64 = 8
bytes_of Zero8 = 1
bytes_of Zero16 = 2
bytes_of Zero32 = 4

-- The loaded number in 64 bits, sign-extended or zero-extended.
abbrev pub extended : Extension → ℕ → ℕ
extended Signed8 n = unsigned64 (cast_signed w8 n)
extended Signed16 n = unsigned64 (cast_signed w16 n)
extended Signed32 n = unsigned64 (cast_signed w32 n)
extended Whole64 n = n
extended Zero8 n = n
extended Zero16 n = n
extended Zero32 n = n

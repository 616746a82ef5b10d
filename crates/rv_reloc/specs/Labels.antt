-- Labels and widths of fields, as the code represents them.
use Rattle.std.specs.Prelude.{ℤ, pos, ◌<ℤ◌, ◌≤ℤ◌, ◌+ℤ◌, ◌^◌}
use Rattle.elf_code.specs.Relocations as relocations
use Rattle.rv_reloc.specs.declared.labels.FieldWidth.{FieldWidth}
use Rattle.rv_reloc.specs.declared.labels.FieldWidth.TheVariants.{Bits6, Bits8, Bits16, Bits32, Bits64, Uleb128}

abbrev pub width_of : FieldWidth → relocations.Width
width_of Bits6 = relocations.Bits 6
width_of Bits8 = relocations.Bits 8
width_of Bits16 = relocations.Bits 16
width_of Bits32 = relocations.Bits 32
width_of Bits64 = relocations.Bits 64
width_of Uleb128 = relocations.Uleb128

-- The number can be the sum of a 64-bit address and a 64-bit addend.
pub record IsLabelSize (z : ℤ) : Type 0 where
  pub least : pos 0 ≤ℤ (z +ℤ pos (2 ^ 63))
  pub below : z <ℤ pos (2 ^ 65)

-- Fields that can be cells, as the code finds them: from one relocation or one lower part after another.
use Rattle.std.specs.Prelude.{◌≡◌, ℕ, ◌+◌, ◌/◌, ◌<◌, ℤ, IsTrue, IsSome, IsSomeAnd, IfSome, List, Option, Some, None}
use Rattle.elf_image.specs.declared.elf.Elf.{Elf}
use Rattle.elf_code.specs.Cells.{Field, Address, Difference, address_width, IsDifference, can_be_cell, HasCodeLabel}
use Rattle.elf_code.specs.Cells.{IsInOneWhole}
use Rattle.elf_image.specs.memory.LoadedBytes.{file_offset, IsInHeaders}
use Rattle.elf_code.specs.LoadedNumbers.{loaded_number}
use Rattle.elf_code.specs.Parts.{IsStart}
use Rattle.elf_code.specs.Relocations.{Relocation, Bits, is_address}
use Rattle.rv_reloc.specs.declared.differences.Difference.{Difference as LabelDifference}
use Rattle.rv_reloc.specs.declared.labels.FieldWidth.{FieldWidth}
use Rattle.rv_reloc.specs.declared.labels.FieldWidth.TheVariants.{Bits6, Bits8, Bits16, Bits32, Bits64, Uleb128}

-- All bytes of a field come from the file, and none is in the file's headers.
pub record AreFree (elf : Elf) (place width : ℕ) : Type 0 where
  pub from_file : (i : ℕ) → i < width → IsSome (file_offset elf.segments.items (place + i))
  pub no_header : (i : ℕ) → i < width →
      IfSome (file_offset elf.segments.items (place + i)) (λ offset. IsInHeaders elf offset → ⊥)

-- A byte comes from the file, and isn't in the file's headers.
abbrev pub IsFreeByte : Elf → ℕ → Type 0
IsFreeByte elf a = IsSomeAnd (file_offset elf.segments.items a) (λ offset. IsInHeaders elf offset → ⊥)

-- A field of `width` bytes at `place` contains a code address.
pub record IsCodeField (elf : Elf) (place width : ℕ) (f : Field) : Type 0 where
  pub place_is : f.place ≡ place
  pub width_is : f.width ≡ width
  pub to : ℕ
  pub loaded : loaded_number elf place width ≡ Some to
  pub is_start : IsStart elf to
  pub content_is : f.content ≡ Address to
  pub free : AreFree elf place width

-- A field contains the difference of two labels that aren't both in the same whole function.
pub record IsDifferenceField (elf : Elf) (tabled : List (ℕ × ℕ)) (r : Relocation) (f : Field) : Type 0 where
  pub bits : ℕ
  pub to : ℤ
  pub from : ℤ
  pub is : IsDifference elf r (Bits bits) to from
  pub can_be : IsTrue (can_be_cell r)
  pub has_code : HasCodeLabel elf to from
  pub across : IsInOneWhole elf tabled to from → ⊥
  pub place_is : f.place ≡ r.place
  pub width_is : f.width ≡ bits / 8
  pub content_is : f.content ≡ Difference to from
  pub free : AreFree elf r.place (bits / 8)

-- The number of bytes of a difference that can be a cell.
abbrev pub cell_bytes : FieldWidth → Option ℕ
cell_bytes Bits32 = Some 4
cell_bytes Bits64 = Some 8
cell_bytes Bits6 = None
cell_bytes Bits8 = None
cell_bytes Bits16 = None
cell_bytes Uleb128 = None

-- A field contains a difference of this width, of two labels that aren't both in the same whole function.
pub record IsCellField (elf : Elf) (tabled : List (ℕ × ℕ)) (place : ℕ) (d : LabelDifference) (f : Field) : Type 0 where
  pub has_code : HasCodeLabel elf d.to d.from
  pub across : IsInOneWhole elf tabled d.to d.from → ⊥
  pub width_is : cell_bytes d.width ≡ Some f.width
  pub place_is : f.place ≡ place
  pub content_is : f.content ≡ Difference d.to d.from
  pub free : AreFree elf place f.width

-- A relocation's field can be a cell.
pub data IsFieldOf (elf : Elf) (tabled : List (ℕ × ℕ)) (r : Relocation) (f : Field) : Type 0 where
  pointer : IsTrue (is_address r.kind) → IsCodeField elf r.place (address_width r.kind) f → IsFieldOf elf tabled r f
  difference : IsDifferenceField elf tabled r f → IsFieldOf elf tabled r f

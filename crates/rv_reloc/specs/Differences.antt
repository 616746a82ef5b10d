-- Differences of labels, as the code finds them, relocation by relocation.
use Rattle.std.specs.Prelude.{◌≡◌, ◌⊎◌, ℤ, Some}
use Rattle.elf_image.specs.declared.elf.Elf.{Elf}
use Rattle.elf_code.specs.Cells.{IsDifference, IsCodeLabel}
use Rattle.elf_code.specs.Fields.{HoldsDifference}
use Rattle.elf_code.specs.ReferenceFaults.{IsPaired}
use Rattle.elf_code.specs.Relocations as relocations
use Rattle.elf_code.specs.Relocations.{Relocation}
use Rattle.rv_reloc.specs.declared.differences.Difference.{Difference}
use Rattle.rv_reloc.specs.Labels.{width_of, IsLabelSize}

-- A relocation's field contains this difference.
pub record IsDifferenceOf (elf : Elf) (r : Relocation) (d : Difference) : Type 0 where
  pub is : IsDifference elf r (width_of d.width) d.to d.from
  pub to_size : IsLabelSize d.to
  pub from_size : IsLabelSize d.from

-- `d` is the difference with this width and these labels.
pub record IsTheDifference (width : relocations.Width) (to from : ℤ) (d : Difference) : Type 0 where
  pub width_is : width_of d.width ≡ width
  pub to_is : d.to ≡ to
  pub from_is : d.from ≡ from

-- The field of a difference contains another number.
pub record HoldsOther (elf : Elf) (r : Relocation) : Type 0 where
  pub width : relocations.Width
  pub to : ℤ
  pub from : ℤ
  pub is : IsDifference elf r width to from
  pub other : HoldsDifference elf r width to from → ⊥

-- A code address is added, set or subtracted, but isn't part of a difference of two labels.
pub record IsUnpaired (elf : Elf) (r : Relocation) : Type 0 where
  pub width : relocations.Width
  pub width_is : (relocations.plus_width r.kind ≡ Some width) ⊎ (relocations.minus_width r.kind ≡ Some width)
  pub is_code : IsCodeLabel elf (relocations.label elf r)
  pub alone : IsPaired elf r.place width → ⊥

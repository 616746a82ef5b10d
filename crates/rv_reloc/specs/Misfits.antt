-- Relocations that don't fit the instructions that they apply to.
use Rattle.std.specs.Prelude.{◌≢◌, ◌⊎◌, ◌≤◌, length}
use Rattle.elf_image.specs.declared.elf.Elf.{Elf}
use Rattle.elf_code.specs.Relocations.{Relocation}
use Rattle.elf_code.specs.ReferenceFaults.{IsBadField, IsBadCall, IsBadUpper, IsBadLower, IsBadAbsolute}
use Rattle.elf_code.specs.ReferenceFaults.{IsBadDifference}
use Rattle.rv_reloc.specs.Pairs.{MakesNoAddress}

-- The file has no symbol with the relocation's index.
abbrev pub HasBadSymbol : Elf → Relocation → Type 0
HasBadSymbol elf r = (r.symbol ≢ 0) × (length elf.symbols.items ≤ r.symbol)

-- A relocation isn't on the instructions that it is for, or their immediates are wrong.
abbrev pub IsMisplaced : Elf → Relocation → Type 0
IsMisplaced elf r = (IsBadCall elf r ⊎ IsBadUpper elf r) ⊎ (IsBadLower elf r ⊎ IsBadAbsolute elf r)

-- A relocation doesn't fit, regardless of the contents of the global offset table.
abbrev pub IsUnfit : Elf → Relocation → Type 0
IsUnfit elf r = (IsBadField elf r ⊎ IsMisplaced elf r) ⊎ (MakesNoAddress elf r ⊎ IsBadDifference elf r)

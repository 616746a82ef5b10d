-- Whole parts as a list, and labels in one of them.
use Rattle.std.specs.Prelude.{ℕ, ℤ, pos, ◌≤ℤ◌, List}
use Rattle.rv_code.specs.layout.Lists.{ListsAll}
use Rattle.elf_image.specs.declared.elf.Elf.{Elf}
use Rattle.elf_code.specs.Parts.{IsWholePart}
use Rattle.code_starts.specs.declared.parts.Part.{Part}
use Rattle.code_starts.specs.Parts.{Precedes}

-- All whole parts, by address.
abbrev pub AreWholeParts : Elf → List (ℕ × ℕ) → List Part → Type 0
AreWholeParts elf tabled wholes = ListsAll (λ p. IsWholePart elf tabled p.start p.end) Precedes wholes

-- Both labels are in the part or at its end.
pub record HoldsBoth (to from : ℤ) (p : Part) : Type 0 where
  pub to_in : (pos p.start ≤ℤ to) × (to ≤ℤ pos p.end)
  pub from_in : (pos p.start ≤ℤ from) × (from ≤ℤ pos p.end)

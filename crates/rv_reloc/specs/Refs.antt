-- The references of a file as lists.
use Rattle.std.specs.Prelude.{ℕ, List, map}
use Rattle.elf_image.specs.declared.elf.Elf.{Elf}
use Rattle.elf_code.specs.FileCode.{AreRoles, AreCells}
use Rattle.elf_image.specs.faults.FileFaults.{IsSound}
use Rattle.elf_image.specs.file.ParsedFile.{IsElfOf}
use Rattle.code_starts.specs.declared.parts.Part.{Part}
use Rattle.rv_reloc.specs.declared.refs.Refs.{Refs}
use Rattle.rv_reloc.specs.declared.sweep.Candidate.{Candidate}
use Rattle.rv_reloc.specs.CountedFields.{as_field, AreCounted}
use Rattle.code_starts.specs.WholeParts.{AreWholeParts}

-- A file in which the reader found no fault.
pub record IsRead (elf : Elf) : Type 0 where
  pub file : List ℕ
  pub fields : IsElfOf file elf
  pub sound : IsSound file

pub record AreRefs (elf : Elf) (tabled : List (ℕ × ℕ)) (refs : Refs) : Type 0 where
  pub roles : AreRoles elf refs.roles.items
  pub cells : AreCells elf tabled refs.cells.items

-- Inputs of the search for faults: the whole parts of a file, and its fields that count. `tabled` are the ranges with
-- exception tables.
pub record AreAsked (elf : Elf) (tabled : List (ℕ × ℕ)) (wholes : List Part) (counted : List Candidate) : Type 0 where
  pub wholes_are : AreWholeParts elf tabled wholes
  pub counted_are : AreCounted elf tabled (map as_field counted)

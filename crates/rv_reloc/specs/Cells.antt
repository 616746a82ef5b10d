-- Cells, as made from the fields that count.
use Rattle.std.specs.Int.RustNames.{unsigned_abs}
use Rattle.rv_code.specs.declared.cell.CodeCell.{CodeCell}
use Rattle.rv_code.specs.declared.cell.CellKind.{CellKind}
use Rattle.rv_code.specs.declared.cell.CellKind.TheVariants.{Abs, Diff}
use Rattle.elf_code.specs.ReferenceFaults.{IsAddress}
use Rattle.rv_reloc.specs.declared.sweep.Candidate.{Candidate}
use Rattle.rv_reloc.specs.declared.sweep.Content.{Content}
use Rattle.rv_reloc.specs.declared.sweep.Content.TheVariants.{Address, Difference}

-- All labels in the content are addresses.
abbrev pub AreAddresses : Content → Type 0
AreAddresses (Address to) = Unit {0}
AreAddresses (Difference to from) = IsAddress to × IsAddress from

pub record HasAddresses (f : Candidate) : Type 0 where
  pub labels : AreAddresses f.content

abbrev pub IsBadContent : Content → Type 0
IsBadContent (Address to) = ⊥
IsBadContent (Difference to from) = IsAddress to × IsAddress from → ⊥

pub record HasBadContent (f : Candidate) : Type 0 where
  pub bad : IsBadContent f.content

abbrev pub kind_of : Content → CellKind
kind_of (Address to) = Abs to
kind_of (Difference to from) = Diff (unsigned_abs to) (unsigned_abs from)

abbrev pub cell_of : Candidate → CodeCell
cell_of f = record { addr = f.place; width = f.width; kind = kind_of f.content }

-- Entries as `units` returns them: only the tag of their declarations is kept.
use Rattle.std.specs.Prelude.{ℕ, List, map}
use Rattle.dw_unit.specs.declared.entry.Attr.{Attr}
use Rattle.dw_unit.specs.CompUnits.{Entry, Sections, entries}

-- An entry with its tag in place of its declaration.
pub record ListedEntry : Type 0 where
  pub place : ℕ
  pub unit : ℕ
  pub depth : ℕ
  pub tag : ℕ
  pub attrs : List Attr

-- The listed form of an entry.
abbrev pub listed : Entry → ListedEntry
listed e = record { place = e.place; unit = e.unit; depth = e.depth; tag = e.declaration.tag; attrs = e.attrs }

-- All entries of a file, in order.
abbrev pub listed_entries : Sections → List ListedEntry
listed_entries s = map listed (entries s)

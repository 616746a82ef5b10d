-- Units of listed entries.
use Rattle.std.specs.Prelude.{ℕ, List, [], ◌++◌, map, false, Result, Ok, Err}
use Rattle.dw_unit.specs.declared.trouble.Trouble.{Trouble}
use Rattle.dw_unit.specs.CompUnits.{Entry, Sections, Unit}
use Rattle.dw_unit.specs.ListedEntries.{ListedEntry, listed}

-- Listed entries, and after them entries that were read.
abbrev pub with_listed : List ListedEntry → Result (List Entry) Trouble → Result (List ListedEntry) Trouble
with_listed ls (Ok es) = Ok (ls ++ map listed es)
with_listed ls (Err e) = Err e

-- The listed form of entries, if they were read.
abbrev pub listed_result : Result (List Entry) Trouble → Result (List ListedEntry) Trouble
listed_result (Ok es) = Ok (map listed es)
listed_result (Err e) = Err e

-- The listed form of a unit's entries, if the unit was read.
abbrev pub listed_unit : Result Unit Trouble → Result (List ListedEntry) Trouble
listed_unit (Ok u) = Ok (map listed u.entries)
listed_unit (Err e) = Err e

-- An entry with the fields of a listed entry. Its declaration has nothing except the tag.
abbrev pub plain : ListedEntry → Entry
plain e = record {
  place = e.place;
  unit = e.unit;
  depth = e.depth;
  declaration = record { place = 0; code = 0; tag = e.tag; children = false; specs = [] };
  attrs = e.attrs;
}

-- A unit with such entries.
abbrev pub plain_unit : List ListedEntry → Unit
plain_unit es = record { place = 0; abbrev_offset = 0; entries = map plain es }

abbrev pub sections : (info abbrevs addr : List ℕ) → Sections
sections info abbrevs addr = record { info = info; abbrevs = abbrevs; addr = addr }

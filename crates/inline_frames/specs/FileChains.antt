-- The chain of a file, unit by unit.
use Rattle.std.specs.Prelude.{◌≡◌, ◌<◌, ◌≤◌, ℕ, false, List, [], ◌∷◌, map, slice_get, Some}
use Rattle.std.specs.BTreeSet.{BTreeSet, contains}
use Rattle.std.specs.Ordering.{nat_cmp}
use Rattle.table_core.specs.DebugUnits.{Walked}
use Rattle.table_core.specs.ReadSteps.{oks}
use Rattle.dw_unit.specs.CompUnits.{Unit, end_of, unit_of}
use Rattle.dw_unit.specs.Faults.{fails, is_sound_unit}
use Rattle.dw_unit.specs.ListedEntries.{ListedEntry, listed}
use Rattle.inline_frames.specs.UnitChains.{link_in, unit_chain}
use Rattle.inline_frames.specs.declared.link.Link.{Link}

-- Each unit can be read, and is sound.
abbrev pub AreReadable : (abbrevs addr : List ℕ) → List Walked → Type 0
AreReadable abbrevs addr ws = (n : ℕ) (w : Walked) → slice_get ws n ≡ Some w →
    fails (is_sound_unit addr) (unit_of abbrevs w) ≡ false

-- No offset in `places` is in the unit `w`.
abbrev pub LacksPlaces : BTreeSet ℕ → Walked → Type 0
LacksPlaces places w = (q : ℕ) → w.place ≤ q → q < end_of w → contains nat_cmp places q ≡ false

-- The entries of each unit.
abbrev pub listed_units : List ℕ → List Walked → List (List ListedEntry)
listed_units abbrevs ws = map (λ (u : Unit). map listed u.entries) (oks (map (unit_of abbrevs) ws))

-- The links of the chain in a unit.
abbrev pub unit_links : List ℕ → BTreeSet ℕ → List ListedEntry → List Link
unit_links str_offsets covering es = map (link_in str_offsets es) (unit_chain covering es)

-- The links, or those from before if there are none.
abbrev pub or_before : List Link → List Link → List Link
or_before [] before = before
or_before (l ∷ ls) before = l ∷ ls

-- The links of the last unit that has any.
abbrev pub file_links : List ℕ → BTreeSet ℕ → List Link → List (List ListedEntry) → List Link
file_links str_offsets covering found [] = found
file_links str_offsets covering found (es ∷ units) =
    file_links str_offsets covering (or_before (unit_links str_offsets covering es) found) units

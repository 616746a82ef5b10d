-- The entries that the next one may be nested in, the innermost first.
use Rattle.std.specs.Prelude.{◌≡◌, ℕ, Bool, false, not, List, [], ◌∷◌, nat_lt, if◌then◌else◌, filter_map, Option, None}
use Rattle.answer_runs.specs.declared.range.Range.{Range}
use Rattle.answer_runs.specs.Choices.{first_of}
use Rattle.dw_unit.specs.CompUnits.{Entry, enclosing}
use Rattle.cover_lists.specs.declared.groups.Groups.{Groups}
use Rattle.list_units.specs.declared.open_entries.OpenEntry.{OpenEntry}
use Rattle.cover_lists.specs.Groups.{HasRanges}

-- An entry of depth `depth` isn't nested in the first one.
abbrev pub ends : ℕ → List OpenEntry → Bool
ends depth [] = false
ends depth (o ∷ os) = not (nat_lt o.depth depth)

-- The entries that stay open.
abbrev pub closed : ℕ → List OpenEntry → List OpenEntry
closed depth [] = []
closed depth (o ∷ os) = if nat_lt o.depth depth then o ∷ os else closed depth os

-- The nearest ranges of the innermost open entry.
abbrev pub nearest : List OpenEntry → Option ℕ
nearest [] = None
nearest (o ∷ os) = o.nearest

-- The last of some entries, and its ancestors. The entries are listed from the last back.
abbrev pub chain : List Entry → List Entry
chain [] = []
chain (e ∷ before) = e ∷ enclosing e.depth before

-- These entries are open, each nested in the next.
abbrev pub AreOpen : (Entry → Option (List Range)) → Groups → List Entry → List OpenEntry → Type 0
AreOpen own g [] [] = Unit {0}
AreOpen own g [] (o ∷ os) = ⊥
AreOpen own g (e ∷ es) [] = ⊥
AreOpen own g (e ∷ es) (o ∷ os) =
    (o.depth ≡ e.depth) × HasRanges g o.nearest (first_of (filter_map own (e ∷ es))) × AreOpen own g es os

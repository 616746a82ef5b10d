-- The answers at an address, by the groups of ranges that contain it.
use Rattle.std.specs.Prelude.{ℕ, List, [], ◌∷◌, if◌then◌else◌}
use Rattle.std.specs.BTreeSet.{BTreeSet, contains}
use Rattle.std.specs.Ordering.{nat_cmp}
use Rattle.cover_lists.specs.declared.groups.RangedEntry.{RangedEntry}
use Rattle.cover_lists.specs.declared.kept_list.KeptList.{KeptList}
use Rattle.dw_lists.specs.Locations.{PlaceSaid}
use Rattle.list_units.specs.UnitLocations.{located_says}
use Rattle.list_units.specs.declared.located_attr.LocatedAttr.{LocatedAttr}

-- The offset of an entry with one of some groups.
abbrev pub place_if : BTreeSet ℕ → RangedEntry → List ℕ
place_if found r = if contains nat_cmp found r.group then r.place ∷ [] else []

-- The answer of an attribute with one of some groups.
abbrev pub said_if : BTreeSet ℕ → List KeptList → ℕ → LocatedAttr → List PlaceSaid
said_if found lists a l = if contains nat_cmp found l.group then located_says lists a l else []

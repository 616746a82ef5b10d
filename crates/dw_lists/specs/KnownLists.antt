-- Lists of a unit that were read.
use Rattle.std.specs.Prelude.{◌≡◌, ◌&&◌, ℕ, Bool, not, List, [], ◌∷◌, if◌then◌else◌, flat_map, Option, Some, None}
use Rattle.std.specs.Prelude.{is_some, option_map}
use Rattle.std.specs.List.{list_any}
use Rattle.std.specs.Ordering.{nat_cmp}
use Rattle.std.specs.BTreeMap.{BTreeMap, get}
use Rattle.answer_runs.specs.Choices.{least}
use Rattle.dw_unit.specs.declared.entry.Attr.{Attr}
use Rattle.dw_unit.specs.CompUnits.{Unit}
use Rattle.cover_lists.specs.declared.groups.Groups.{Groups}
use Rattle.dw_lists.specs.declared.unit_ranges.ListFaults.{ListFaults}
use Rattle.dw_lists.specs.Faults.{ListSections, table_place}
use Rattle.cover_lists.specs.Groups.{HasRanges, Grow}
use Rattle.cover_lists.specs.Located.{ranges_in, Located}
use Rattle.dw_lists.specs.Lists.{Kind, ranges_kind, has_list, list_at, list_offset, locations_kind}

-- The contents of the range list at an offset.
abbrev pub range_list : ListSections → Unit → ℕ → Option (List Located)
range_list s u at = list_at ranges_kind s.ranges s.units.addr u at

-- The contents of the location list at an offset.
abbrev pub location_list : ListSections → Unit → ℕ → Option (List Located)
location_list s u at = list_at locations_kind s.locations s.units.addr u at

-- The group of a list's ranges; none if the list can't be read.
pub record IsGroupOf (g : Groups) (group : Option ℕ) (said : Option (List Located)) : Type 0 where
  pub some : is_some group ≡ is_some said
  pub ranges : HasRanges g group (option_map ranges_in said)

-- Each known list has the group of its ranges.
abbrev pub AreKnown : (ℕ → Option (List Located)) → Groups → BTreeMap ℕ (Option ℕ) → Type 0
AreKnown says g known = (at : ℕ) (o : Option ℕ) → get nat_cmp known at ≡ Some o → IsGroupOf g o (says at)

-- The result of looking a list up, or reading it.
pub record IsLookedUp (says : ℕ → Option (List Located)) (old new : Groups) (known : BTreeMap ℕ (Option ℕ)) (at : ℕ)
    (group : Option ℕ) : Type 0 where
  pub grow : Grow old new
  pub known_are : AreKnown says new known
  pub is : IsGroupOf new group (says at)

-- The faults of an attribute's list.

-- The attribute refers to a list, and its offset is bad.
abbrev pub lacks_list : Kind → List ℕ → Unit → Attr → Bool
lacks_list k section u a = has_list k a && not (is_some (list_offset k section u a))

-- The place of the list at an offset, if it can't be read.
abbrev pub bad_at : Kind → (section addr : List ℕ) → Unit → Option ℕ → List ℕ
bad_at k section addr u None = []
bad_at k section addr u (Some at) = if is_some (list_at k section addr u at) then [] else table_place section at ∷ []

-- The place of an attribute's list, if it can't be read.
abbrev pub bad_list : Kind → (section addr : List ℕ) → Unit → Attr → List ℕ
bad_list k section addr u a = if has_list k a then bad_at k section addr u (list_offset k section u a) else []

-- `f` has the faults of the lists of these attributes.
pub record AreNoted (k : Kind) (section addr : List ℕ) (u : Unit) (attrs : List Attr) (f : ListFaults) : Type 0 where
  pub lacks : f.lacks_offset ≡ list_any (lacks_list k section u) attrs
  pub bad : f.bad ≡ least (flat_map (bad_list k section addr u) attrs)

-- For range lists.
abbrev pub IsNoted : ListSections → Unit → List Attr → ListFaults → Type 0
IsNoted s u attrs f = AreNoted ranges_kind s.ranges s.units.addr u attrs f

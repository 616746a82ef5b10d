-- The attributes of entries that refer to location lists, and the contents of these. DWARF 5, section 7.29.
use Rattle.std.specs.Prelude.{◌≡◌, ◌<◌, ◌==◌, ◌++◌, ℕ, List, [], ◌∷◌, if◌then◌else◌, length, flat_map, option_and_then}
use Rattle.std.specs.Prelude.{Option, Some, None}
use Rattle.std.specs.List.{AllZip}
use Rattle.table_core.specs.declared.form.TheConstants.{DW_FORM_loclistx}
use Rattle.dw_unit.specs.declared.attribute.TheConstants.{DW_AT_location, DW_AT_frame_base}
use Rattle.dw_unit.specs.declared.entry.Attr.{Attr}
use Rattle.dw_unit.specs.CompUnits.{Entry, Unit, units, attr}
use Rattle.cover_lists.specs.declared.kept_list.KeptList.{KeptList}
use Rattle.dw_lists.specs.declared.named_list.NamedList.{NamedList}
use Rattle.dw_lists.specs.Faults.{ListSections}
use Rattle.cover_lists.specs.KeptLists.{number_says}
use Rattle.dw_lists.specs.Lists.{locations_kind, has_list, list_of}
use Rattle.cover_lists.specs.Located.{Located, in_force}
use Rattle.dw_lists.specs.UnitLists.{own_place}

-- An attribute that refers to a list, and the list's contents.
pub record ListItem : Type 0 where
  pub place : ℕ
  pub attr : ℕ
  -- The offset of its unit's own entry.
  pub own : ℕ
  -- The index of the list, if the attribute refers to it by an index.
  pub index : Option ℕ
  pub list : List Located

-- The index by which an attribute refers to its list, if it does so.
abbrev pub list_index : Attr → Option ℕ
list_index a = if a.form == DW_FORM_loclistx then Some a.value else None

-- The contents of the list to which an attribute refers.
abbrev pub list_named : ListSections → Unit → Attr → Option (List Located)
list_named s u a = if has_list locations_kind a then list_of locations_kind s.locations s.units.addr u a else None

-- The attribute, if its list can be read.
abbrev pub item_of : (place attr own : ℕ) → Option ℕ → Option (List Located) → List ListItem
item_of place attr own index None = []
item_of place attr own index (Some ls) =
    record { place = place; attr = attr; own = own; index = index; list = ls } ∷ []

-- For the attribute with a name, if the entry at an offset has it.
abbrev pub attr_items : ListSections → Unit → (place name : ℕ) → Option Attr → List ListItem
attr_items s u place name None = []
attr_items s u place name (Some a) = item_of place name (own_place u) (list_index a) (list_named s u a)

-- The location attributes of an entry that refer to lists.
abbrev pub entry_items : ListSections → Unit → Entry → List ListItem
entry_items s u e = attr_items s u e.place DW_AT_location (attr DW_AT_location e)
    ++ attr_items s u e.place DW_AT_frame_base (attr DW_AT_frame_base e)

-- The location attributes of a unit that refer to lists.
abbrev pub unit_items : ListSections → Unit → List ListItem
unit_items s u = flat_map (entry_items s u) u.entries

-- The location attributes of a file that refer to lists.
abbrev pub all_items : ListSections → List ListItem
all_items s = flat_map (unit_items s) (units s.units)

-- The fields that are kept of such an attribute.
pub record IsNameOf (lists : List KeptList) (n : NamedList) (x : ListItem) : Type 0 where
  pub place : n.place ≡ x.place
  pub attr : n.attr ≡ x.attr
  pub own : n.own ≡ x.own
  pub index : n.index ≡ x.index
  pub within : n.list < length lists
  pub says : (a : ℕ) → number_says lists n.list a ≡ in_force x.list a

-- The kept attributes, one for each.
abbrev pub AreNamesOf : List KeptList → List NamedList → List ListItem → Type 0
AreNamesOf lists named items = AllZip (IsNameOf lists) named items

-- The kept attributes of some entries are added after others.
abbrev pub HasMore : (olds lists : List KeptList) → (before named : List NamedList) → List ListItem → Type 0
HasMore olds lists before named items =
    (others : List ListItem) → AreNamesOf olds before others → AreNamesOf lists named (others ++ items)

-- The contents of the list to which the attribute with a name refers, if an entry has it.
abbrev pub list_found : ListSections → Unit → ℕ → Entry → Option (List Located)
list_found s u name e = option_and_then (list_named s u) (attr name e)

-- The index by which the attribute with a name refers to its list.
abbrev pub index_found : ℕ → Entry → Option ℕ
index_found name e = option_and_then list_index (attr name e)

-- The kept attribute for a list with a number, if there is a number.
abbrev pub name_of : (place attr own : ℕ) → Option ℕ → Option ℕ → List NamedList
name_of place attr own index None = []
name_of place attr own index (Some n) =
    record { place = place; attr = attr; own = own; index = index; list = n } ∷ []

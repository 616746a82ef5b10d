-- The locations of the attributes of a unit's entries, one entry after another.
use Rattle.std.specs.Prelude.{◌≡◌, ◌<◌, ◌++◌, ℕ, Bool, false, List, [], ◌∷◌, All, if◌then◌else◌, length, filter}
use Rattle.std.specs.Prelude.{flat_map, Option, Some, None}
use Rattle.std.specs.BTreeMap.{BTreeMap}
use Rattle.std.specs.Option.{option_map_or}
use Rattle.dw_unit.specs.declared.attribute.TheConstants.{DW_AT_location, DW_AT_frame_base}
use Rattle.dw_unit.specs.declared.entry.Attr.{Attr}
use Rattle.dw_unit.specs.CompUnits.{Entry, Unit, attr}
use Rattle.cover_lists.specs.declared.cover_tree.Cover.{Cover}
use Rattle.cover_lists.specs.declared.kept_list.KeptList.{KeptList}
use Rattle.list_units.specs.declared.located_attr.LocatedAttr.{LocatedAttr}
use Rattle.list_units.specs.declared.located_attr.Locations.{Locations}
use Rattle.list_units.specs.declared.located_attr.Source.{Source}
use Rattle.list_units.specs.declared.located_attr.Source.TheVariants.{Direct, Listed}
use Rattle.list_units.specs.declared.unit_locations.UnitLocations as code
use Rattle.dw_lists.specs.Faults.{ListSections}
use Rattle.cover_lists.specs.Groups.{group_holds}
use Rattle.cover_lists.specs.KeptLists.{AreMore, AreNumbersOf, number_says}
use Rattle.dw_lists.specs.KnownLists.{location_list}
use Rattle.dw_lists.specs.Lists.{locations_kind}
use Rattle.dw_lists.specs.Locations.{expressions_of, PlaceSaid, attr_says}
use Rattle.dw_lists.specs.UnitLists.{ReadsLists}

-- What a unit needs to read its locations.
pub record ReadsLocations (s : ListSections) (u : Unit) (l : code.UnitLocations) : Type 0 where
  pub info : l.info.now ≡ s.units.info
  pub section : l.section.bytes.now ≡ s.locations
  pub lists : ReadsLists locations_kind s.units.addr u l.lists

-- The expressions of an attribute that are in force at an address.
abbrev pub source_says : List KeptList → ℕ → Source → List (List ℕ)
source_says lists a (Direct x) = x.items ∷ []
source_says lists a (Listed n) = number_says lists n a

-- The number of the list, if the expressions are in a list.
abbrev pub number_in : Source → Option ℕ
number_in (Direct x) = None
number_in (Listed n) = Some n

-- The number of the list, if there is one, is below `count`.
abbrev pub IsListed : ℕ → Source → Type 0
IsListed count (Direct x) = Prim.Unit {0}
IsListed count (Listed n) = n < count

-- The source of an attribute's expressions, if there is one.
pub record IsSourceOf (s : ListSections) (u : Unit) (lists : List KeptList) (a : Attr)
    (source : Option Source) : Type 0 where
  pub listed : (x : Source) → source ≡ Some x → IsListed (length lists) x
  pub says : (p : ℕ) → option_map_or (source_says lists p) source [] ≡ expressions_of s u a p

-- The source of the expressions of an attribute that an entry may have.
pub record IsNamedSource (s : ListSections) (u : Unit) (lists : List KeptList) (a : Option Attr)
    (source : Option Source) : Type 0 where
  pub listed : (x : Source) → source ≡ Some x → IsListed (length lists) x
  pub says : (p : ℕ) → option_map_or (source_says lists p) source [] ≡ option_map_or (λ v. expressions_of s u v p) a []

-- More lists were read, and none was forgotten.
pub record AreRead (s : ListSections) (u : Unit) (olds news : List KeptList)
    (known : BTreeMap ℕ (Option ℕ)) : Type 0 where
  pub more : AreMore olds news
  pub known_are : AreNumbersOf (location_list s u) news known

-- The answer of a kept attribute.
abbrev pub located_says : List KeptList → ℕ → LocatedAttr → List PlaceSaid
located_says lists p l = attr_says l.place l.attr (source_says lists p l.source)

-- The answers of all attributes whose ranges contain an address.
abbrev pub all_located : List Cover → List KeptList → List LocatedAttr → ℕ → List PlaceSaid
all_located covers lists located p =
    flat_map (located_says lists p) (filter (λ (l : LocatedAttr). group_holds covers l.group p) located)

-- The attribute of an entry, if it is kept.
abbrev pub located_of : ℕ → ℕ → Option ℕ → Option Source → List LocatedAttr
located_of place name None source = []
located_of place name (Some group) None = []
located_of place name (Some group) (Some x) = record { place = place; attr = name; group = group; source = x } ∷ []

-- The numbers of an attribute's group and list are below the counts.
abbrev pub IsHeld : ℕ → ℕ → LocatedAttr → Type 0
IsHeld groups lists l = (l.group < groups) × IsListed lists l.source

-- The numbers of groups and of lists are below their counts.
abbrev pub AreHeld : ℕ → Locations → Type 0
AreHeld groups l = All (IsHeld groups (length l.lists.items)) l.located.items

-- The nearest ranges of an entry contain an address.
abbrev pub nearest_holds : List Cover → Option ℕ → ℕ → Bool
nearest_holds covers nearest p = option_map_or (λ n. group_holds covers n p) nearest false

-- The answer of an entry's attribute, if its nearest ranges contain the address.
abbrev pub attr_said : ListSections → Unit → List Cover → Option ℕ → Entry → ℕ → ℕ → List PlaceSaid
attr_said s u covers nearest e name p =
    attr_says e.place name (if nearest_holds covers nearest p then option_map_or (λ v. expressions_of s u v p)
    (attr name e) [] else [])

-- The answers of an entry's location attributes.
abbrev pub entry_said : ListSections → Unit → List Cover → Option ℕ → Entry → ℕ → List PlaceSaid
entry_said s u covers nearest e p =
    attr_said s u covers nearest e DW_AT_location p ++ attr_said s u covers nearest e DW_AT_frame_base p

-- The number of a group, if there is one, is below the number of groups.
abbrev pub IsNear : ℕ → Option ℕ → Type 0
IsNear groups nearest = (n : ℕ) → nearest ≡ Some n → n < groups

-- Attributes were added; `said` gives their answers, for any groups of ranges.
pub record AreLocated (s : ListSections) (u : Unit) (nearest : Option ℕ) (old new : Locations)
    (known : BTreeMap ℕ (Option ℕ))
    (said : List Cover → ℕ → List PlaceSaid) : Type 0 where
  pub read : AreRead s u old.lists.items new.lists.items known
  pub held : (groups : ℕ) → IsNear groups nearest → AreHeld groups old → AreHeld groups new
  pub says : (groups : ℕ) (covers : List Cover) (p : ℕ) → IsNear groups nearest → AreHeld groups old →
      all_located covers new.lists.items new.located.items p ≡ all_located covers old.lists.items old.located.items p
      ++ said covers p

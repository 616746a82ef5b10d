-- The location lists of a unit, each once, in the order in which they are read.
use Rattle.std.specs.Prelude.{◌≡◌, ◌==◌, ◌||◌, ◌++◌, ℕ, Bool, true, false, not, List, [], ◌∷◌, map, filter, filter_map}
use Rattle.std.specs.Prelude.{is_some, Option, Some}
use Rattle.std.specs.List.{list_all}
use Rattle.std.specs.Option.{option_map_or}
use Rattle.std.specs.Ordering.{nat_cmp}
use Rattle.std.specs.BTreeMap.{BTreeMap, get}
use Rattle.table_core.specs.declared.form.TheConstants.{DW_FORM_sec_offset, DW_FORM_loclistx}
use Rattle.table_core.specs.AttributeForms.{is_block}
use Rattle.dw_unit.specs.declared.entry.Attr.{Attr}
use Rattle.dw_unit.specs.CompUnits.{Unit}
use Rattle.dw_unit.specs.Faults.{implies, is_located}
use Rattle.cover_lists.specs.declared.kept_list.KeptList.{KeptList}
use Rattle.dw_lists.specs.Faults.{ListSections, list_offsets}
use Rattle.cover_lists.specs.KeptLists.{all_say}
use Rattle.dw_lists.specs.KnownLists.{location_list}
use Rattle.dw_lists.specs.Lists.{locations_kind, has_list, list_offset}
use Rattle.cover_lists.specs.ListRuns.{is_among}
use Rattle.cover_lists.specs.Located.{in_force}

-- Each number of a list once, at its first occurrence.
abbrev pub firsts : List ℕ → List ℕ
firsts [] = []
firsts (n ∷ ns) = n ∷ filter (λ m. not (n == m)) (firsts ns)

-- The expressions in force of the list at an offset; none if it can't be read.
abbrev pub said_at : ListSections → Unit → ℕ → ℕ → List (List ℕ)
said_at s u at a = option_map_or (λ ls. in_force ls a) (location_list s u at) []

-- The list at an offset can be read.
abbrev pub can_read : ListSections → Unit → ℕ → Bool
can_read s u at = is_some (location_list s u at)

-- The expressions of the lists at some offsets, for those that can be read.
abbrev pub read_at : ListSections → Unit → List ℕ → List (ℕ → List (List ℕ))
read_at s u offsets = map (said_at s u) (filter (can_read s u) offsets)

-- The offsets of the lists to which some attributes refer.
abbrev pub offsets_in : ListSections → Unit → List Attr → List ℕ
offsets_in s u attrs = filter_map (list_offset locations_kind s.locations u) (filter (has_list locations_kind) attrs)

-- The lists to which a unit refers.
abbrev pub unit_lists : ListSections → Unit → List (ℕ → List (List ℕ))
unit_lists s u = read_at s u (firsts (list_offsets locations_kind s.locations u))

-- The lists at these offsets are known, and those that can be read are kept, each once, after others.
pub record AreListed (s : ListSections) (u : Unit) (offsets : List ℕ) (first lists : List KeptList)
    (known : BTreeMap ℕ (Option ℕ)) : Type 0 where
  pub keys : (at : ℕ) → is_some (get nat_cmp known at) ≡ is_among offsets at
  pub kept : all_say lists ≡ all_say first ++ read_at s u (firsts offsets)

-- The list of an attribute, if it refers to one, is at one of these offsets.
abbrev pub IsOffsetAmong : ListSections → Unit → List ℕ → Attr → Type 0
IsOffsetAmong s u offsets a =
    is_block a.form ≡ false → (at : ℕ) → list_offset locations_kind s.locations u a ≡ Some at →
    is_among offsets at ≡ true

-- A location attribute has an expression or refers to a list.
abbrev pub is_formed : Attr → Bool
is_formed a = implies (is_located a.name) (is_block a.form || a.form == DW_FORM_sec_offset
    || a.form == DW_FORM_loclistx)

-- All location attributes have an expression or refer to a list.
abbrev pub are_formed : List Attr → Bool
are_formed attrs = list_all is_formed attrs

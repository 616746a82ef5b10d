-- The contents of range lists and location lists. DWARF 5, sections 2.6.2, 2.17.3, 7.28 and 7.29.
use Rattle.std.specs.Prelude.{◌+◌, ◌-◌, ◌*◌, ◌==◌, ◌&&◌, ◌||◌, ℕ, Bool, List, [], ◌∷◌, nat_le, nat_lt, if◌then◌else◌}
use Rattle.std.specs.Prelude.{length}
use Rattle.std.specs.Prelude.{drop, take, Option, Some, None, option_map, option_and_then, unwrap_or, Result, Ok, Err}
use Rattle.std.specs.Option.{option_or}
use Rattle.answer_runs.specs.declared.range.Range.{Range}
use Rattle.table_core.specs.declared.form.TheConstants.{DW_FORM_sec_offset, DW_FORM_rnglistx, DW_FORM_loclistx}
use Rattle.table_core.specs.DebugUnits.{Walked, walked}
use Rattle.dw_unit.specs.declared.attribute.TheConstants.{DW_AT_ranges, DW_AT_rnglists_base, DW_AT_loclists_base}
use Rattle.dw_unit.specs.declared.entry.Attr.{Attr}
use Rattle.dw_unit.specs.declared.trouble.Trouble.{Trouble}
use Rattle.dw_unit.specs.Trouble.{Read}
use Rattle.dw_unit.specs.CompUnits.{Unit, base, number_in, address_at, low_pc, own_entry}
use Rattle.dw_unit.specs.Faults.{is_located}
use Rattle.dw_lists.specs.declared.list_bound.Address.{Address}
use Rattle.dw_lists.specs.declared.list_bound.Address.TheVariants.{Here, Index}
use Rattle.dw_lists.specs.declared.list_bound.Bound.{Bound}
use Rattle.dw_lists.specs.declared.list_bound.Bound.TheVariants.{Base, Between, Onward, Offsets, Default}
use Rattle.dw_lists.specs.ListEntries.{Item, range_item, location_item, items_within}
use Rattle.cover_lists.specs.Located.{Located}

-- The address itself, or the one that `look` finds for its index.
abbrev pub resolved : (ℕ → Option ℕ) → Address → Option ℕ
resolved look (Here a) = Some a
resolved look (Index i) = look i

-- A range.
abbrev pub between : ℕ → ℕ → Option Range
between low high = Some (record { low = low; high = high })

-- One more expression with its range.
abbrev pub with_located : List ℕ → Option Range → Option (List Located) → Option (List Located)
with_located x range more = option_map (λ ls. record { range = range; expression = x } ∷ ls) more

-- The contents of a list from an entry on. `more` gives those of the entries after it, by the base address; `look`
-- finds the address with an index.
abbrev pub bound_says : (ℕ → Option ℕ) → (ℕ → Option (List Located)) → ℕ → List ℕ → Bound → Option (List Located)
bound_says look more base x (Base a) = option_and_then more (resolved look a)
bound_says look more base x (Between a b) =
    option_and_then (λ low. option_and_then (λ high. with_located x (between low high) (more base)) (resolved look b))
    (resolved look a)
bound_says look more base x (Onward a n) =
    option_and_then (λ low. with_located x (between low (low + n)) (more base)) (resolved look a)
bound_says look more base x (Offsets m n) = with_located x (between (base + m) (base + n)) (more base)
bound_says look more base x Default = with_located x None (more base)

-- The contents of entries, by the base address. None if an index has no address.
abbrev pub items_say : (ℕ → Option ℕ) → List Item → ℕ → Option (List Located)
items_say look [] base = Some []
items_say look (i ∷ items) base = bound_says look (items_say look items) base i.expression i.bound

-- The two kinds of sections of lists: how entries are read, the attribute with a unit's base, the form of indexes, and
-- the attributes that refer to lists.
pub record Kind : Type 0 where
  pub item : ℕ → List ℕ → Read Item
  pub base_name : ℕ
  pub index_form : ℕ
  pub names_list : ℕ → Bool

-- Range lists (`.debug_rnglists`).
abbrev pub ranges_kind : Kind
ranges_kind =
    record {
      item = range_item;
      base_name = DW_AT_rnglists_base;
      index_form = DW_FORM_rnglistx;
      names_list = λ name. name == DW_AT_ranges;
    }

-- Location lists (`.debug_loclists`).
abbrev pub locations_kind : Kind
locations_kind =
    record {
      item = location_item;
      base_name = DW_AT_loclists_base;
      index_form = DW_FORM_loclistx;
      names_list = is_located;
    }

-- The attribute refers to a list of the kind.
abbrev pub has_list : Kind → Attr → Bool
has_list k a = k.names_list a.name && (a.form == DW_FORM_sec_offset || a.form == k.index_form)

-- The last table of a section that begins at or below an offset.
abbrev pub table_below : ℕ → List Walked → Option Walked
table_below at [] = None
table_below at (w ∷ ws) = option_or (table_below at ws) (if nat_le w.place at then Some w else None)

-- A list ends inside its table, or if the table isn't whole, inside the section.
abbrev pub end_of_table : Walked → Option ℕ
end_of_table w = option_map (λ bytes. w.place + 4 + length bytes) w.bytes

-- The offset at which a list at an offset has to end.
abbrev pub list_end : List ℕ → ℕ → ℕ
list_end section at = unwrap_or (option_and_then end_of_table (table_below at (walked 5 section))) (length section)

-- The offset in the table of offsets with this index. It counts from the start of the offsets.
abbrev pub offset_of_index : Kind → List ℕ → Unit → ℕ → Option ℕ
offset_of_index k section u index =
    option_and_then (λ b. option_map (λ n. b + n) (number_in 4 (b + 4 * index) section)) (base k.base_name u)

-- The offset, if it is in the section.
abbrev pub only_within : List ℕ → ℕ → Option ℕ
only_within section at = if nat_lt at (length section) then Some at else None

-- The offset of an attribute's list, if it can be read and is in the section.
abbrev pub list_offset : Kind → List ℕ → Unit → Attr → Option ℕ
list_offset k section u a =
    option_and_then (only_within section)
    (if a.form == k.index_form then offset_of_index k section u a.value else Some a.value)

-- The entries of the list at an offset, up to its end.
abbrev pub items_at : Kind → List ℕ → ℕ → Result (List Item) Trouble
items_at k section at =
    let left = take (list_end section at - at) (drop at section) in items_within k.item (length left) left

-- The base address of a unit's lists: the low address of its own entry, or 0.
abbrev pub base_address : List ℕ → Unit → ℕ
base_address addr u = unwrap_or (option_and_then (low_pc addr u) (own_entry u)) 0

-- The contents of entries, as a unit reads them. None if they aren't sound.
abbrev pub items_said : List ℕ → Unit → Result (List Item) Trouble → Option (List Located)
items_said addr u (Ok items) = items_say (address_at addr u) items (base_address addr u)
items_said addr u (Err e) = None

-- The contents of the list at an offset.
abbrev pub list_at : Kind → List ℕ → List ℕ → Unit → ℕ → Option (List Located)
list_at k section addr u at = items_said addr u (items_at k section at)

-- The contents of an attribute's list.
abbrev pub list_of : Kind → List ℕ → List ℕ → Unit → Attr → Option (List Located)
list_of k section addr u a = option_and_then (list_at k section addr u) (list_offset k section u a)

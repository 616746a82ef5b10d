-- Range lists that are written for entries, and the attributes that refer to them. DWARF 5, sections 2.17.3, 2.18 and
-- 7.28.
use Rattle.std.specs.Prelude.{◌≡◌, ◌+◌, ◌*◌, ◌^◌, ◌<◌, ℕ, Bool, List, [], map, length, Contains, Some, unwrap_or}
use Rattle.std.specs.BTreeMap.{BTreeMap, get}
use Rattle.std.specs.Global.{Vec}
use Rattle.std.specs.Ordering.{nat_cmp}
use Rattle.addr_map.specs.declared.span.Span.{Span}
use Rattle.answer_runs.specs.declared.run.Run.{Run}
use Rattle.dw_unit.specs.declared.attribute.TheConstants.{DW_AT_ranges}
use Rattle.cover_lists.specs.declared.groups.RangedEntry.{RangedEntry}
use Rattle.cover_lists.specs.EntryOrders.{entry_first, entry_place}
use Rattle.cover_lists.specs.GroupRuns.{runs_in}
use Rattle.dw_lists.specs.declared.list_kind.ListKind.TheVariants.{Ranges}
use Rattle.dw_lists.specs.declared.named_list.NamedList.{NamedList}
use Rattle.list_writer.specs.ListBytes.{Bounded, entry_bytes, list_bytes}
use Rattle.list_writer.specs.WrittenTables.{bytes_in}

abbrev pub bounded : Run Bool → Bounded
bounded r = record { start = r.start; len = r.len; expression = [] }

abbrev pub run_bytes : Run Bool → List ℕ
run_bytes r = entry_bytes Ranges (bounded r)

-- The list of some runs.
abbrev pub runs_bytes : List (Run Bool) → List ℕ
runs_bytes runs = list_bytes Ranges (map bounded runs)

-- The place at which an entry is entered, and its runs in the order of its list.

abbrev pub place_of : List Span → List (Vec (Run Bool)) → RangedEntry → ℕ
place_of spans groups r = entry_place spans (runs_in groups r.group) r

abbrev pub order_of : List Span → List (Vec (Run Bool)) → RangedEntry → List (Run Bool)
order_of spans groups r = entry_first (place_of spans groups r) (runs_in groups r.group)

-- A number for a group and an address of 64 bits.
abbrev pub key : ℕ → ℕ → ℕ
key group at = 2 ^ 64 * group + at

abbrev pub key_of : List Span → List (Vec (Run Bool)) → RangedEntry → ℕ
key_of spans groups r = key r.group (place_of spans groups r)

-- The list with a number is that of a group, and an address comes first in it.
pub record IsListOf (groups : List (Vec (Run Bool))) (group at : ℕ) (lists : List (Vec ℕ)) (n : ℕ) : Type 0 where
  pub below : n < length lists
  pub bytes : bytes_in lists n ≡ runs_bytes (entry_first at (runs_in groups group))

abbrev pub AreKnownLists : List (Vec (Run Bool)) → List (Vec ℕ) → BTreeMap ℕ ℕ → Type 0
AreKnownLists groups lists known = (group at n : ℕ) → at < 2 ^ 64 → get nat_cmp known (key group at) ≡ Some n →
    IsListOf groups group at lists n

-- A list has a number.
pub record HasNumber (groups : List (Vec (Run Bool))) (lists : List (Vec ℕ)) (known : BTreeMap ℕ ℕ) (group at : ℕ) :
    Type 0 where
  pub number : ℕ
  pub is : get nat_cmp known (key group at) ≡ Some number
  pub list : IsListOf groups group at lists number

-- A list got a number, unless it had one.
pub record IsListPut (groups : List (Vec (Run Bool))) (group at : ℕ) (olds : List (Vec ℕ)) (old : BTreeMap ℕ ℕ)
    (news : List (Vec ℕ)) (new : BTreeMap ℕ ℕ) : Type 0 where
  pub known : AreKnownLists groups news new
  pub has : HasNumber groups news new group at
  pub kept : (g a : ℕ) → HasNumber groups olds old g a → HasNumber groups news new g a

abbrev pub IsEntryPut : List Span → List (Vec (Run Bool)) → RangedEntry → (olds : List (Vec ℕ)) →
    (old : BTreeMap ℕ ℕ) → (news : List (Vec ℕ)) → (new : BTreeMap ℕ ℕ) → Type 0
IsEntryPut spans groups r olds old news new =
    IsListPut groups r.group (place_of spans groups r) olds old news new

-- The lists of some entries.
pub record AreNumberedLists (spans : List Span) (groups : List (Vec (Run Bool))) (ranged : List RangedEntry)
    (lists : List (Vec ℕ)) (known : BTreeMap ℕ ℕ) : Type 0 where
  pub known_are : AreKnownLists groups lists known
  pub each : (r : RangedEntry) → Contains ranged r → HasNumber groups lists known r.group (place_of spans groups r)

abbrev pub number_at : BTreeMap ℕ ℕ → ℕ → ℕ
number_at known k = unwrap_or (get nat_cmp known k) 0

abbrev pub number_in : List Span → List (Vec (Run Bool)) → BTreeMap ℕ ℕ → RangedEntry → ℕ
number_in spans groups known r = number_at known (key_of spans groups r)

-- The attribute that refers to the list of an entry's ranges, by the number of the list.
abbrev pub named_by : (RangedEntry → ℕ) → RangedEntry → NamedList
named_by number r =
    record { place = r.place; attr = DW_AT_ranges; own = r.own; index = r.index; list = number r }

abbrev pub names_of : List Span → List (Vec (Run Bool)) → BTreeMap ℕ ℕ → List RangedEntry → List NamedList
names_of spans groups known ranged = map (named_by (number_in spans groups known)) ranged

-- The lists of entries, with their attributes.
pub record AreRangeLists (spans : List Span) (groups : List (Vec (Run Bool))) (ranged : List RangedEntry)
    (lists : List (Vec ℕ)) (named : List NamedList) : Type 0 where
  pub number : RangedEntry → ℕ
  pub named_are : named ≡ map (named_by number) ranged
  pub bytes : (r : RangedEntry) → Contains ranged r → bytes_in lists (number r) ≡ runs_bytes (order_of spans groups r)

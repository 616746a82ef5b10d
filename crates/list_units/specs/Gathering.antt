-- The ranges of the entries of units, one after another.
use Rattle.std.specs.Prelude.{◌≡◌, ◌++◌, ◌==◌, ℕ, Bool, List, [], ◌∷◌, map, if◌then◌else◌, flat_map, Option, Some, None}
use Rattle.std.specs.Prelude.{option_and_then}
use Rattle.std.specs.BTreeMap.{BTreeMap}
use Rattle.std.specs.List.{find, list_any}
use Rattle.answer_runs.specs.declared.range.Range.{Range}
use Rattle.answer_runs.specs.AddressRanges.{holds_address}
use Rattle.answer_runs.specs.Choices.{least}
use Rattle.table_core.specs.declared.form.TheConstants.{DW_FORM_rnglistx}
use Rattle.dw_unit.specs.declared.attribute.TheConstants.{DW_AT_ranges}
use Rattle.dw_unit.specs.declared.entry.Attr.{Attr}
use Rattle.dw_unit.specs.CompUnits.{Entry, Unit}
use Rattle.cover_lists.specs.declared.cover_tree.Cover.{Cover}
use Rattle.cover_lists.specs.declared.groups.Groups.{Groups}
use Rattle.cover_lists.specs.declared.groups.RangedEntry.{RangedEntry}
use Rattle.dw_lists.specs.declared.unit_ranges.ListFaults.{ListFaults}
use Rattle.dw_lists.specs.Faults.{ListSections, lacks_offset, bad_list_tables}
use Rattle.cover_lists.specs.EntryAddresses.{first_start}
use Rattle.cover_lists.specs.Groups.{Grow, AreWithin, group_holds}
use Rattle.dw_lists.specs.KnownLists.{AreKnown, range_list, IsNoted}
use Rattle.dw_lists.specs.Lists.{ranges_kind}
use Rattle.dw_lists.specs.Ranges.{named_entry, ranges_of}
use Rattle.dw_lists.specs.UnitLists.{own_place}

-- The fields that are kept of an entry with ranges, and whether the ranges contain an address.
pub record SeenEntry : Type 0 where
  pub place : ℕ
  -- The offset of its unit's own entry.
  pub own : ℕ
  -- The index of its range list, if it refers to the list by an index.
  pub index : Option ℕ
  -- The address that it gives for its first instruction, and the start of its first range.
  pub entry : Option ℕ
  pub first : Option ℕ
  pub held : Bool

-- The index of the range list to which an entry refers, if it does so by an index.
abbrev pub ranges_index : List Attr → Option ℕ
ranges_index attrs =
    option_and_then (λ (a : Attr). if a.form == DW_FORM_rnglistx then Some a.value else None)
    (find (λ (a : Attr). a.name == DW_AT_ranges) attrs)

-- The entry, if it has ranges.
abbrev pub seen_of : (place own : ℕ) → (index entry : Option ℕ) → Option (List Range) → ℕ → List SeenEntry
seen_of place own index entry None a = []
seen_of place own index entry (Some ranges) a =
    record {
      place = place;
      own = own;
      index = index;
      entry = entry;
      first = first_start ranges;
      held = list_any (holds_address a) ranges;
    }
    ∷ []

-- The same for an entry of a unit.
abbrev pub seen_as : ListSections → Unit → Entry → Option (List Range) → ℕ → List SeenEntry
seen_as s u e ranges a =
    seen_of e.place (own_place u) (ranges_index e.attrs) (named_entry s.units.addr u e) ranges a

-- For the entries of a unit.
abbrev pub seen_in : ListSections → Unit → List Entry → ℕ → List SeenEntry
seen_in s u es a =
    flat_map (λ (e : Entry). seen_as s u e (ranges_of s u e) a) es

-- For the entries that were kept.
abbrev pub seen_kept : List Cover → List RangedEntry → ℕ → List SeenEntry
seen_kept covers kept a =
    map (λ (r : RangedEntry). record {
      place = r.place;
      own = r.own;
      index = r.index;
      entry = r.entry;
      first = r.first;
      held = group_holds covers r.group a;
    })
    kept

-- Entries with ranges are added, and the ranges of the others don't change.
pub record AreAdded (old : Groups) (olds : List RangedEntry) (new : Groups) (news : List RangedEntry)
    (seen : ℕ → List SeenEntry) : Type 0 where
  pub grow : Grow old new
  pub within : AreWithin new.count news
  pub seen_are : (a : ℕ) → seen_kept new.covers.items news a ≡ seen_kept old.covers.items olds a ++ seen a

-- Some entries of a unit were added, and their lists looked up.
pub record IsGathering (s : ListSections) (u : Unit) (old : Groups) (olds : List RangedEntry) (new : Groups)
    (news : List RangedEntry) (known : BTreeMap ℕ (Option ℕ)) (es : List Entry) (attrs : List Attr) (f : ListFaults) :
    Type 0 where
  pub added : AreAdded old olds new news (seen_in s u es)
  pub known_are : AreKnown (range_list s u) new known
  pub noted : IsNoted s u attrs f

-- All entries of a unit were added, with the faults of its lists.
pub record IsUnitGathered (s : ListSections) (u : Unit) (old : Groups) (olds : List RangedEntry) (new : Groups)
    (news : List RangedEntry) (f : ListFaults) : Type 0 where
  pub added : AreAdded old olds new news (seen_in s u u.entries)
  pub lacks : f.lacks_offset ≡ lacks_offset ranges_kind s.ranges u
  pub bad : f.bad ≡ least (bad_list_tables ranges_kind s.ranges s.units.addr u)

-- The offsets that attributes get from some lists are the same with more lists.
use Rattle.std.proofs.Common.{◌≡◌, ℕ, List, Some, None}
use Rattle.std.specs.Prelude.{Contains}
use Rattle.addr_map.specs.declared.span.Span.{Span}
use Rattle.table_core.specs.declared.written.ListAt.{ListAt}
use Rattle.dw_unit.specs.declared.attribute.TheConstants.{DW_AT_ranges, DW_AT_rnglists_base}
use Rattle.dw_unit.specs.CompUnits.{Entry, Sections, Unit}
use Rattle.dw_unit.specs.EntryMoves.{new_list_offset}
use Rattle.dw_lists.specs.Faults.{ListSections}
use Rattle.dw_lists.specs.Lists.{Kind, ranges_kind}
use Rattle.dw_lists.specs.UnitLists.{own_place}
use Rattle.range_loc_rewrite.specs.EnteredFirst.{AreEnteredFirst}
use Rattle.range_loc_rewrite.specs.NewOffsets.{GetsBase, GetsOffset, GetOffsets, HasHigh, HasIndex, RangesGetOffsets}
use Rattle.range_loc_rewrite.proofs.RangesLaw.{given_by}

module _ (names lists : List ListAt) (named : (l : ListAt) → Contains names l → new_list_offset lists l.entry l.attr ≡ Some l.offset)
    (table : List ℕ) where
  one_more : (k : Kind) (place name : ℕ) → GetsOffset k names table place name → GetsOffset k lists table place name
  one_more k place name g =
      record { offset = g.offset; is = given_by names lists named place name g.offset g.is; within = g.within; full = g.full }

  more_index : (k : Kind) (s : Sections) (base i : ℕ) → HasIndex k s names table base i → HasIndex k s lists table base i
  more_index k s base i h = record {
    offset = h.offset;
    is = h.is;
    full = h.full;
    unused = λ none. h.unused (λ n. none (record {
      u = n.u;
      unit = n.unit;
      based = given_by names lists named (own_place n.u) k.base_name base n.based;
      e = n.e;
      entry = n.entry;
      name = n.name;
      a = n.a;
      is = n.is;
      names = n.names;
      form = n.form;
      value = n.value;
    }));
  }

  base_more : (k : Kind) (s : Sections) (u : Unit) → GetsBase k s u names table → GetsBase k s u lists table
  base_more k s u b = record {
    base = b.base;
    is = given_by names lists named (own_place u) k.base_name b.base b.is;
    count = b.count;
    table_is = b.table_is;
    below = b.below;
    each = λ i h. more_index k s b.base i (b.each i h);
  }

  pub more_offsets : (k : Kind) (gets_list : Entry → Type 0) (s : Sections) (old : List ℕ) →
      ((place : ℕ) → new_list_offset names place k.base_name ≡ None → new_list_offset lists place k.base_name ≡ None) →
      GetOffsets k gets_list s old names table → GetOffsets k gets_list s old lists table
  more_offsets k gets_list s old others g = record {
    offsets = λ u uc e ec name a is naming form. one_more k _ _ (g.offsets u uc e ec name a is naming form);
    bases = λ some u uc needs. base_more k s u (g.bases some u uc needs);
    kept = λ u uc own is none. others own.place (g.kept u uc own is none);
  }

  pub more_entered : (spans : List Span) (s : ListSections) → AreEnteredFirst spans s names table → AreEnteredFirst spans s lists table
  more_entered spans s f = record {
    by_offset = λ u uc e ec none place at.
        let x = f.by_offset u uc e ec none place at in
        record { offset = x.offset; is = given_by names lists named e.place DW_AT_ranges x.offset x.is; begins = x.begins };
    by_index = λ u uc e ec i is alike place at.
        let x = f.by_index u uc e ec i is alike place at in
        record {
          base = x.base;
          is = given_by names lists named (own_place u) DW_AT_rnglists_base x.base x.is;
          offset = x.offset;
          offset_is = x.offset_is;
          begins = x.begins;
        };
  }

  pub more_ranges : (s : Sections) (old : List ℕ) →
      ((place : ℕ) → new_list_offset names place ranges_kind.base_name ≡ None
      → new_list_offset lists place ranges_kind.base_name ≡ None) →
      RangesGetOffsets s old names table → RangesGetOffsets s old lists table
  more_ranges s old others g = record {
    listed = more_offsets ranges_kind HasHigh s old others g.listed;
    ends = λ u uc e ec high. one_more ranges_kind _ _ (g.ends u uc e ec high);
  }

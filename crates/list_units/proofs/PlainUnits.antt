-- The ranges of a unit depend on its listed entries only.
use Rattle.std.proofs.Common.{◌≡◌, ◌∙◌, ◌++◌, ◌∷◌, [], ℕ, List, refl, sym, ap, map, filter, subst}
use Rattle.std.specs.Prelude.{not, is_some, flat_map, filter_map, option_map}
use Rattle.std.specs.List.{list_any}
use Rattle.answer_runs.specs.Choices.{least}
use Rattle.dw_unit.specs.declared.entry.Attr.{Attr}
use Rattle.dw_unit.specs.CompUnits.{Entry, Unit, attr}
use Rattle.dw_unit.specs.ListedEntries.{ListedEntry, listed}
use Rattle.dw_unit.specs.ListedUnits.{plain, plain_unit}
use Rattle.cover_lists.specs.declared.groups.Groups.{Groups}
use Rattle.cover_lists.specs.declared.groups.RangedEntry.{RangedEntry}
use Rattle.dw_lists.specs.declared.unit_ranges.ListFaults.{ListFaults}
use Rattle.dw_lists.specs.Faults.{ListSections, lacks_offset, bad_list_tables, table_place}
use Rattle.list_units.specs.Gathering.{SeenEntry, seen_as, seen_in, seen_kept, IsUnitGathered}
use Rattle.dw_lists.specs.Lists.{Kind, ranges_kind, has_list, list_offset, list_at}
use Rattle.dw_lists.specs.Ranges.{ranges_of}
use Rattle.dw_lists.specs.IndexedUnits.{indexed_of}
use Rattle.dw_lists.specs.Weights.{greatest, indexes_in}

pub attrs_listed : (es : List Entry) → flat_map (λ (e : Entry). e.attrs) (map plain (map listed es)) ≡ flat_map (λ (e : Entry). e.attrs) es
attrs_listed [] = refl
attrs_listed (e ∷ es) = ap (λ (l : List Attr). e.attrs ++ l) (attrs_listed es)

module _ (s : ListSections) (place offset : ℕ) where
  abbrev pub whole : List Entry → Unit
  whole es = record { place = place; abbrev_offset = offset; entries = es }

  seen_rest : (e : Entry) (ds xs : List Entry) (a : ℕ) →
      seen_in s (plain_unit (map listed (e ∷ ds))) (map plain (map listed xs)) a ≡ seen_in s (whole (e ∷ ds)) xs a
  seen_rest e ds [] a = refl
  seen_rest e ds (x ∷ xs) a =
      ap (λ (l : List SeenEntry). seen_as s (whole (e ∷ ds)) x (ranges_of s (whole (e ∷ ds)) x) a
      ++ l) (seen_rest e ds xs a)

  seen_listed : (es : List Entry) (a : ℕ) → seen_in s (plain_unit (map listed es)) (map plain (map listed es)) a ≡ seen_in s (whole es) es a
  seen_listed [] a = refl
  seen_listed (e ∷ ds) a = seen_rest e ds (e ∷ ds) a

  -- The faults of its lists of a kind.
  pub lacks_listed : (k : Kind) (section : List ℕ) (es : List Entry) →
      lacks_offset k section (plain_unit (map listed es)) ≡ lacks_offset k section (whole es)
  lacks_listed k section [] = refl
  lacks_listed k section (e ∷ ds) =
      ap (λ (l : List Attr). list_any (λ a. not (is_some (list_offset k section (whole (e ∷ ds)) a))) (filter (has_list k) l))
      (attrs_listed (e ∷ ds))

  pub bad_listed : (k : Kind) (section : List ℕ) (es : List Entry) →
      bad_list_tables k section s.units.addr (plain_unit (map listed es)) ≡ bad_list_tables k section s.units.addr (whole es)
  bad_listed k section [] = refl
  bad_listed k section (e ∷ ds) =
      ap (λ (l : List Attr). map (table_place section) (filter (λ at. not (is_some (list_at k section s.units.addr (whole (e ∷ ds)) at)))
      (filter_map (list_offset k section (whole (e ∷ ds))) (filter (has_list k) l)))) (attrs_listed (e ∷ ds))

-- The indexes that it uses.
pub unit_indexed : (k : Kind) (u : Unit) (es : List ListedEntry) → map listed u.entries ≡ es →
    indexed_of k (plain_unit es) ≡ indexed_of k u
unit_indexed k u es is = ap (λ (l : List ListedEntry). indexed_of k (plain_unit l)) (sym is) ∙ by u.place u.abbrev_offset u.entries
  where
    by : (place offset : ℕ) (es : List Entry) →
        indexed_of k (plain_unit (map listed es)) ≡ indexed_of k (record { place = place; abbrev_offset = offset; entries = es })
    by place offset [] = refl
    by place offset (e ∷ es) =
        ap (λ (l : List Attr). record {
          own = e.place;
          base = option_map (λ (a : Attr). a.value) (attr k.base_name e);
          greatest = greatest (indexes_in k.index_form l);
        }
        ∷ []) (attrs_listed (e ∷ es))

-- The unit that was read.
pub unit_of_listed : (s : ListSections) (u : Unit) (es : List ListedEntry) (old new : Groups) (olds news : List RangedEntry)
    (f : ListFaults) →
    map listed u.entries ≡ es → IsUnitGathered s (plain_unit es) old olds new news f → IsUnitGathered s u old olds new news f
unit_of_listed s u es old new olds news f is g =
    let h : IsUnitGathered s (plain_unit (map listed u.entries)) old olds new news f =
    subst (λ (l : List ListedEntry). IsUnitGathered s (plain_unit l) old olds new news f) (sym is) g in
    record {
      added = record {
        grow = h.added.grow;
        within = h.added.within;
        seen_are = λ a. h.added.seen_are a
            ∙ ap (λ (l : List SeenEntry). seen_kept old.covers.items olds a ++ l) (seen_listed s u.place u.abbrev_offset u.entries a);
      };
      lacks = h.lacks ∙ lacks_listed s u.place u.abbrev_offset ranges_kind s.ranges u.entries;
      bad = h.bad ∙ ap least (bad_listed s u.place u.abbrev_offset ranges_kind s.ranges u.entries);
    }

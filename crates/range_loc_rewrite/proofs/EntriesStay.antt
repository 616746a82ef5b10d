-- Each entry of a written file has ranges if its original has some, and refers to a list that can be read.
use Rattle.std.proofs.Common.{◌≡◌, ◌∙◌, ◌+◌, ◌*◌, ◌<◌, ◌==◌, ◌&&◌, ◌||◌, ◌∷◌, [], ℕ, Bool, true, false, List, Option, Some, None}
use Rattle.std.proofs.Common.{refl, sym, ap, subst, length, map, All, ⊎_elim}
use Rattle.std.specs.Prelude.{flat_map, Contains, option_and_then, option_map, if◌then◌else◌, is_some, unwrap_or}
use Rattle.std.specs.List.{AllZip}
use Rattle.std.proofs.lemmas.Bool.{eqb-true, eq-eqb}
use Rattle.addr_map.specs.declared.span.Span.{Span}
use Rattle.addr_map.specs.Spans.{owner}
use Rattle.answer_runs.specs.declared.range.Range.{Range}
use Rattle.answer_runs.specs.declared.run.Run.{Run}
use Rattle.answer_runs.specs.AnswerRuns.{run_at}
use Rattle.table_core.specs.declared.written.ListAt.{ListAt}
use Rattle.table_core.specs.WrittenUnits.{IsUnit, units_bytes}
use Rattle.dw_unit.specs.declared.entry.Attr.{Attr}
use Rattle.dw_unit.specs.CompUnits.{Entry, Unit, attr, base, number_in, low_pc, may_repeat}
use Rattle.dw_unit.specs.Changes.{is_own, is_first_of}
use Rattle.dw_unit.specs.ChangedEntries.{IsChangedEntry}
use Rattle.dw_unit.specs.EntryMoves.{Moves, new_list_offset}
use Rattle.answer_runs.proofs.Ascending.{Ascends}
use Rattle.dw_unit.proofs.SoundEntries.{IsSoundEntry, AreSoundUnits}
use Rattle.cover_lists.specs.declared.cover_tree.Cover.{Cover}
use Rattle.cover_lists.specs.declared.groups.RangedEntry.{RangedEntry}
use Rattle.dw_lists.specs.declared.list_kind.ListKind.TheVariants as kind
use Rattle.dw_lists.specs.Faults.{ListSections}
use Rattle.cover_lists.specs.Groups.{group_holds}
use Rattle.cover_lists.specs.Located.{ranges_in, Located, hold}
use Rattle.dw_lists.specs.KnownLists.{range_list}
use Rattle.list_writer.specs.ListBytes.{IsWritable}
use Rattle.dw_lists.specs.Lists.{ranges_kind, has_list, list_offset}
use Rattle.dw_lists.specs.Ranges.{ranges_of, up_to}
use Rattle.dw_lists.specs.UnitLists.{own_place}
use Rattle.list_writer.specs.WrittenRanges.{bounded, runs_bytes}
use Rattle.list_writer.specs.WrittenTables.{StandsAt}
use Rattle.range_loc_rewrite.proofs.NamedRanges.{IsNamed}
use Rattle.range_loc_rewrite.proofs.BasesStay.{base_stays}
use Rattle.range_loc_rewrite.proofs.ChangedAttrs.{changed, for_high, new_high, from_high, from_ranges, range_base}
use Rattle.range_loc_rewrite.proofs.KeptLookups.{IsFound, kept_entry, same_index, sound_at, no_bounds, all_of, place_of}
use Rattle.range_loc_rewrite.proofs.KeptPairs.{AllPaired}
use Rattle.list_writer.proofs.ListsThere.{list_inside, offset_there}
use Rattle.dw_lists.proofs.OwnRanges.{listed_ranges, of_offset, own_bounds}
use Rattle.list_writer.proofs.PutEntries.{flat_has}
use Rattle.range_loc_rewrite.proofs.RangesStay.{found_name, found_there, held_by, fine_by, SoundTests, tests_of, new_offset, kept_index}
use Rattle.range_loc_rewrite.proofs.RangesStay.{plain_offset, index_offset}
use Rattle.range_loc_rewrite.proofs.SoundLists.{IsFine, AreFine}
use Rattle.range_loc_rewrite.proofs.RangeWeights.{holds_some}

pub record Stays (s t : ListSections) (spans : List Span) (u v : Unit) (d e : Entry) : Type 0 where
  pub held : (p o : ℕ) → owner spans p ≡ Some o → hold (ranges_of t v e) p ≡ hold (ranges_of s u d) o
  pub fine : AreFine t v e.attrs

-- An entry with a high address has ranges.
pub high_some : (s : ListSections) (u : Unit) (d : Entry) (h : Attr) → attr 0x12 d ≡ Some h → is_some (low_pc s.units.addr u d) ≡ true →
    ranges_of s u d ≡ None → ⊥
high_some s u d h is some none = by_low (low_pc s.units.addr u d) refl some
  where
    clash : (r : List Range) → Some r ≡ None → ⊥
    clash r e = cc

    by_low : (o : Option ℕ) → low_pc s.units.addr u d ≡ o → is_some o ≡ true → ⊥
    by_low None f g = absurd (cc)
    by_low (Some l) f g =
        clash (up_to l h ∷ []) (sym (own_bounds s u d (up_to l h)
        (λ i. option_and_then (λ high. option_map (λ low. up_to low high) (f i)) (is i))) ∙ none)

-- An entry with a list that can be read has ranges.
pub list_some : (s : ListSections) (u : Unit) (d : Entry) (a : Attr) → attr 0x12 d ≡ None → attr 0x55 d ≡ Some a → IsFine s u a →
    ranges_of s u d ≡ None → ⊥
list_some s u d a high is fine none =
    by_list (range_list s u fine.at) refl fine.read
    (sym (no_bounds s u d high ∙ ap (listed_ranges s u) is ∙ of_offset s u a (Some fine.at) fine.offset) ∙ none)
  where
    by_list : (o : Option (List Located)) → range_list s u fine.at ≡ o → is_some o ≡ true →
        option_map ranges_in (range_list s u fine.at) ≡ None → ⊥
    by_list None f g e = absurd (cc)
    by_list (Some ls) f g e = let x : Some (ranges_in ls) ≡ None = sym (ap (option_map ranges_in) f) ∙ e in absurd (cc)

module _ (s t : ListSections) (tables : List (List ℕ)) (tables_are : All (IsUnit 5) tables) (ranges_are : t.ranges ≡ units_bytes tables)
    (spans : List Span)
    (covers : List Cover) (kept : List RangedEntry) (order : RangedEntry → List (Run Bool)) (names : List ListAt) (m : Moves)
    (given : (e attr o : ℕ) → new_list_offset names e attr ≡ Some o → new_list_offset m.lists e attr ≡ Some o)
    (named : (r : RangedEntry) → Contains kept r → IsNamed order tables names kept r r.index)
    (says : (r : RangedEntry) → Contains kept r → (p : ℕ) → is_some (run_at (order r) p)
    ≡ holds_some covers r.group (owner spans p))
    (writable : (r : RangedEntry) → Contains kept r → All (IsWritable kind.Ranges) (map bounded (order r)))
    (us : List Unit) (pairs : AllPaired s covers us kept) (sound_old : AreSoundUnits s.units.addr us)
    (up : Ascends 0 (map place_of (all_of us)))
    (fine_old : (u : Unit) → Contains us u → AreFine s u (flat_map (λ (e : Entry). e.attrs) u.entries))
    (u v : Unit) (uc : Contains us u)
    (zip : AllZip (λ x y. IsChangedEntry s.units t.units.info m (is_first_of u x) x y) u.entries v.entries) where
  -- The new base of indexes.
  base_by : (d : Entry) → Contains u.entries d → (r : RangedEntry) → r.own ≡ own_place u → is_some (base 0x74 u) ≡ true → (b : ℕ) →
      new_list_offset m.lists r.own 0x74 ≡ Some b → base 0x74 v ≡ Some b
  base_by d dc r own some b offset =
      base_stays s t m u v zip (λ d dc. sound_at s.units.addr us u d sound_old uc dc) 0x74 range_base refl d dc some b
      (subst (λ (n : ℕ). new_list_offset m.lists n 0x74 ≡ Some b) own offset)

  module _ (d e : Entry) (dc : Contains u.entries d) (c : IsChangedEntry s.units t.units.info m (is_first_of u d) d e)
      (sound : IsSoundEntry t.units.addr v e) where
    abbrev own : Bool
    own = is_own s.units d.declaration

    none_high : attr 0x12 e ≡ None
    none_high = new_high s.units t.units.info m (is_first_of u d) d e c

    -- Its list is in a table.
    stays_by : (a : Attr) → attr 0x55 e ≡ Some a → (at : ℕ) → list_offset ranges_kind t.ranges v a ≡ Some at → (r : RangedEntry) →
        Contains kept r →
        StandsAt tables at (runs_bytes (order r)) → ((x : ℕ) → group_holds covers r.group x ≡ hold (ranges_of s u d) x) →
        Stays s t spans u v d e
    stays_by a is at offset r rc stands same = record {
      held = λ p o owned.
          held_by t v e tables tables_are ranges_are none_high sound a is at offset (order r) stands (writable r rc) p
          ∙ says r rc p ∙ ap (holds_some covers r.group) owned ∙ same o;
      fine = fine_by t v e tables tables_are ranges_are none_high sound a is at offset (order r) stands (writable r rc);
    }

    inside : (at : ℕ) (runs : List (Run Bool)) → StandsAt tables at (runs_bytes runs) → at < length t.ranges
    inside at runs stands =
        subst (λ (l : List ℕ). at < length l) (sym ranges_are) (list_inside kind.Ranges tables at (map bounded runs) stands
        tables_are)

    -- It had a high address.
    stays_high : (h : Attr) → attr 0x12 d ≡ Some h → IsFound s covers u d kept → Stays s t spans u v d e
    stays_high h is f =
        let old = sound_at s.units.addr us u d sound_old uc dc in
        let none : attr 0x55 d ≡ None = old.ranges h is in
        let index : f.r.index ≡ None =
        f.kept_as.index ∙ ap (λ (o : Option Attr). option_and_then (λ (a : Attr). if a.form == 0x23 then Some a.value else None) o) none in
        let n = subst (IsNamed order tables names kept f.r) index (named f.r f.there) in
        let offset : new_list_offset m.lists d.place 0x55 ≡ Some n.0 =
        subst (λ (k : ℕ). new_list_offset m.lists k 0x55 ≡ Some n.0) f.kept_as.place (given f.r.place 0x55 n.0 n.1) in
        stays_by (for_high m own (is_first_of u d) d h) (from_high s.units t.units.info m (is_first_of u d) d e c h is none) n.0
        (plain_offset ranges_kind t.ranges v (for_high m own (is_first_of u d) d h) n.0 refl (ap (λ (o : Option ℕ). unwrap_or o 0) offset)
        (inside n.0 (order f.r) n.2))
        f.r f.there n.2 f.kept_as.held

    module _ (high : attr 0x12 d ≡ None) (a : Attr) (is : attr 0x55 d ≡ Some a) where
      abbrev new : Attr
      new = changed m own (is_first_of u d) d a

      name : a.name ≡ 0x55
      name = found_name 0x55 d.attrs a is

      new_is : attr 0x55 e ≡ Some new
      new_is = from_ranges s.units t.units.info m (is_first_of u d) d e c high ∙ ap (option_map (changed m own (is_first_of u d) d)) is

      -- It referred to its list by an offset.
      stays_offset : a.form ≡ 0x17 → IsFound s covers u d kept → Stays s t spans u v d e
      stays_offset form f =
          let index : f.r.index ≡ None =
          f.kept_as.index ∙ ap (λ (o : Option Attr). option_and_then (λ (a : Attr). if a.form == 0x23 then Some a.value else None) o) is
          ∙ ap (λ (k : ℕ). if k == 0x23 then Some a.value else None) form in
          let n = subst (IsNamed order tables names kept f.r) index (named f.r f.there) in
          let offset : new_list_offset m.lists d.place 0x55 ≡ Some n.0 =
          subst (λ (k : ℕ). new_list_offset m.lists k 0x55 ≡ Some n.0) f.kept_as.place (given f.r.place 0x55 n.0 n.1) in
          stays_by new new_is n.0
          (plain_offset ranges_kind t.ranges v new n.0 (ap (λ (n : ℕ). n == 0x23) form)
          (new_offset m own (is_first_of u d) d a n.0 name form offset) (inside n.0 (order f.r) n.2)) f.r f.there n.2 f.kept_as.held

      -- It referred to its list by an index.
      stays_index : a.form ≡ 0x23 → IsFound s covers u d kept → Stays s t spans u v d e
      stays_index form f =
          let old = sound_at s.units.addr us u d sound_old uc dc in
          let tests : SoundTests s.units.addr u a = tests_of s.units.addr u d 0x55 a old is in
          let index : f.r.index ≡ Some a.value =
          f.kept_as.index ∙ ap (λ (o : Option Attr). option_and_then (λ (a : Attr). if a.form == 0x23 then Some a.value else None) o) is
          ∙ ap (λ (k : ℕ). if k == 0x23 then Some a.value else None) form in
          let n = subst (IsNamed order tables names kept f.r) index (named f.r f.there) in
          let based : base 0x74 v ≡ Some n.0 =
          base_by d dc f.r f.kept_as.own (tests.index (eq-eqb a.form 0x23 form)) n.0 (given f.r.own 0x74 n.0 n.3) in
          let there = subst (λ (l : List ℕ). number_in 4 (n.0 + 4 * a.value) l ≡ Some n.1) (sym ranges_are)
          (offset_there tables (n.0 + 4 * a.value) n.1 n.4 tables_are n.5) in
          stays_by new new_is (n.0 + n.1)
          (index_offset ranges_kind t.ranges v new a.value n.0 n.1 (eq-eqb a.form 0x23 form)
          (kept_index m own (is_first_of u d) d a name form) based there (inside (n.0 + n.1) (order n.2) n.9))
          n.2 n.8 n.9
          (λ x. same_index s covers us kept f.r n.2 a.value pairs sound_old up f.there n.8 (sym n.6) index n.7 x ∙ f.kept_as.held x)

      stays_list : Stays s t spans u v d e
      stays_list =
          let old = sound_at s.units.addr us u d sound_old uc dc in
          let tests : SoundTests s.units.addr u a = tests_of s.units.addr u d 0x55 a old is in
          let forms = tests.ranges (eq-eqb a.name 0x55 name) in
          let lists_it : has_list ranges_kind a ≡ true = both (a.name == 0x55) (a.form == 0x17 || a.form == 0x23)
          (eq-eqb a.name 0x55 name) forms in
          let fine : IsFine s u a = fine_old u uc a (flat_has (λ (e : Entry). e.attrs) u.entries d a dc (found_there 0x55 d.attrs a is))
          lists_it in
          ⊎_elim
          (λ (none : ranges_of s u d ≡ None). absurd (list_some s u d a high is fine none))
          (λ (f : IsFound s covers u d kept). by_form (a.form == 0x17) (a.form == 0x23) refl refl forms f)
          (kept_entry s covers us kept u d pairs uc dc)
        where
          both : (x y : Bool) → x ≡ true → y ≡ true → (x && y) ≡ true
          both true y f g = g
          both false y f g = absurd (cc)

          by_form : (x y : Bool) → (a.form == 0x17) ≡ x → (a.form == 0x23) ≡ y → (x || y) ≡ true → IsFound s covers u d kept →
              Stays s t spans u v d e
          by_form true y f g h k = stays_offset (eqb-true a.form 0x17 f) k
          by_form false true f g h k = stays_index (eqb-true a.form 0x23 g) k
          by_form false false f g h k = absurd (cc)

    -- It has no ranges.
    stays_none : attr 0x12 d ≡ None → attr 0x55 d ≡ None → Stays s t spans u v d e
    stays_none high none =
        let new : attr 0x55 e ≡ None = from_ranges s.units t.units.info m (is_first_of u d) d e c high
        ∙ ap (option_map (changed m own (is_first_of u d) d)) none in
        record {
          held = λ p o owned. ap (λ (x : Option (List Range)). hold x p) (no_bounds t v e none_high ∙ ap (listed_ranges t v) new)
              ∙ sym (ap (λ (x : Option (List Range)). hold x o) (no_bounds s u d high ∙ ap (listed_ranges s u) none));
          fine = λ x xc h. absurd (clash x xc h new);
        }
      where
        first : (b f : Bool) → (b && f) ≡ true → b ≡ true
        first true f g = refl
        first false f g = absurd (cc)

        clash : (x : Attr) → Contains e.attrs x → has_list ranges_kind x ≡ true → attr 0x55 e ≡ None → ⊥
        clash x xc h new =
            let name : x.name ≡ 0x55 = eqb-true x.name 0x55 (first (x.name == 0x55) (x.form == 0x17 || x.form == 0x23) h) in
            let f : None ≡ Some x = sym new ∙ subst (λ (n : ℕ). attr n e ≡ Some x) name (sound.sole x xc (ap may_repeat name)) in
            absurd (cc)

    pub stays : Stays s t spans u v d e
    stays = by_high (attr 0x12 d) refl
      where
        by_ranges : attr 0x12 d ≡ None → (o : Option Attr) → attr 0x55 d ≡ o → Stays s t spans u v d e
        by_ranges high None is = stays_none high is
        by_ranges high (Some a) is = stays_list high a is

        by_high : (o : Option Attr) → attr 0x12 d ≡ o → Stays s t spans u v d e
        by_high None is = by_ranges is (attr 0x55 d) refl
        by_high (Some h) is = ⊎_elim
            (λ (none : ranges_of s u d ≡ None). absurd (high_some s u d h is ((sound_at s.units.addr us u d sound_old uc dc).low h is)
            none))
            (λ (f : IsFound s covers u d kept). stays_high h is f)
            (kept_entry s covers us kept u d pairs uc dc)

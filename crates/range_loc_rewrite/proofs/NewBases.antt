-- The bases that units get, and those that they keep.
use Rattle.std.proofs.Common.{◌≡◌, ◌≢◌, ◌∙◌, ◌+◌, ◌*◌, ◌==◌, ◌||◌, ◌⊎◌, inl, inr, ◌∷◌, [], ℕ, Bool, true, false, List, Some}
use Rattle.std.proofs.Common.{None}
use Rattle.std.proofs.Common.{All, refl, sym, ap, subst, arith, length, map, ⊎_elim, cond, filter}
use Rattle.std.specs.Prelude.{Contains, IsTrue, is_some}
use Rattle.std.specs.Global.{Vec}
use Rattle.std.specs.List.{list_any}
use Rattle.std.proofs.lemmas.List.Elements.{All-nil}
use Rattle.std.proofs.lemmas.Bool.{eqb-true}
use Rattle.rb_bytes.proofs.Members.{Contains-nil, Contains-cons_cases, Contains-there}
use Rattle.rb_bytes.proofs.Searches.{Contains-filter, Contains-from_filter}
use Rattle.answer_runs.proofs.Ascending.{Ascends}
use Rattle.table_core.specs.declared.written.ListAt.{ListAt}
use Rattle.dw_unit.specs.CompUnits.{Entry, Sections, Unit, number_in, own_entry, units}
use Rattle.dw_unit.specs.EntryMoves.{new_list_offset}
use Rattle.dw_lists.specs.declared.indexed_unit.IndexedUnit.{IndexedUnit}
use Rattle.dw_lists.specs.declared.list_kind.ListKind.{ListKind}
use Rattle.dw_lists.specs.declared.named_list.NamedList.{NamedList}
use Rattle.dw_lists.specs.IndexedUnits.{indexed_units}
use Rattle.dw_lists.specs.ListEntries.{Item}
use Rattle.dw_lists.specs.ListReading.{kind_of}
use Rattle.dw_lists.specs.UnitLists.{own_place}
use Rattle.dw_lists.specs.Weights.{greatest, indexes}
use Rattle.list_writer.specs.FullLists.{IsFullList, IsTableBase, is_full}
use Rattle.list_writer.specs.ListBytes.{Bounded, IsWritable, list_bytes}
use Rattle.list_writer.specs.WrittenTables.{AreWritten, HasBase, HasSlot, IsListOf, StandsAt, base_name, bytes_in, indexed_in, needs_table}
use Rattle.list_writer.specs.WrittenTables.{with_tables}
use Rattle.list_writer.proofs.BasesThere.{list_full, table_base}
use Rattle.list_writer.proofs.ListsThere.{list_read, offset_there}
use Rattle.list_writer.proofs.UnitSteps.{needs_one}
use Rattle.range_loc_rewrite.specs.NewOffsets.{GetsBase, HasIndex, NamesIndex, NeedsTable}
use Rattle.range_loc_rewrite.proofs.KeptLookups.{all_of, first_there, own_at, own_unique, place_of}
use Rattle.range_loc_rewrite.proofs.UsedIndexes.{HasOrigin, all_below, from_unit, has_unit, indexed_at, some_own}
use Rattle.range_loc_rewrite.proofs.UsedIndexes.{some_used}

-- The bytes of a list that can be read.
pub record IsSpelled (k : ListKind) (bytes : List ℕ) : Type 0 where
  pub entries : List Bounded
  pub are : bytes ≡ list_bytes k entries
  pub writable : All (IsWritable k) entries

-- Elements of a filtered list pass the test

filter_passes : {X : Type 0} (p : X → Bool) (xs : List X) (x : X) → Contains (filter p xs) x → p x ≡ true
filter_passes p [] x c = absurd (Contains-nil x c)
filter_passes p (y ∷ ys) x c = by (p y) refl c (filter_passes p ys x)
  where
    by : (b : Bool) → p y ≡ b → Contains (cond b (y ∷ filter p ys) (filter p ys)) x → (Contains (filter p ys) x → p x ≡ true) → p x ≡ true
    by true e c more = ⊎_elim (λ (same : y ≡ x). sym (ap p same) ∙ e) more (Contains-cons_cases y (filter p ys) x c)
    by false e c more = more c

any_is : {X : Type 0} (p : X → Bool) (xs : List X) → list_any p xs ≡ true → (x : X) × Contains xs x × (p x ≡ true)
any_is p [] e = absurd (cc)
any_is {X} p (x ∷ xs) e = by (p x) refl e (any_is p xs)
  where
    by : (b : Bool) → p x ≡ b → (b || list_any p xs) ≡ true →
        (list_any p xs ≡ true → (y : X) × Contains xs y × (p y ≡ true)) → (y : X) × Contains (x ∷ xs) y × (p y ≡ true)
    by true is e more = (x, (0, omega arith, refl), is)
    by false is e more = let m = more e in (m.0, Contains-there x xs m.0 m.1, m.2)

-- If there is a section, all units may get tables.
pub all_in : (section table : List ℕ) (named : List NamedList) (all : List IndexedUnit) → (section ≡ [] → table ≢ []) →
    (length named ≡ 0 → length (indexed_in section named all) ≡ 0 → table ≡ []) → indexed_in section named all ≡ all
all_in [] table [] all some none = absurd (some refl (none refl refl))
all_in [] table (r ∷ named) all some none = refl
all_in (b ∷ section) table named all some none = refl

-- If there is none, and nothing is listed, no unit gets one.
pub no_units : (section : List ℕ) (named : List NamedList) (all : List IndexedUnit) → section ≡ [] → length named ≡ 0 →
    length (indexed_in section named all) ≡ 0
no_units [] [] all e f = refl
no_units [] (r ∷ named) all e f = absurd (omega (arith, f))
no_units (b ∷ section) named all e f = absurd (cc)

pub within_in : (section : List ℕ) (named : List NamedList) (all : List IndexedUnit) (x : IndexedUnit) →
    Contains (indexed_in section named all) x → Contains all x
within_in [] [] all x c = absurd (Contains-nil x c)
within_in [] (r ∷ named) all x c = c
within_in (b ∷ section) named all x c = c

module _ (k : ListKind) (gets_list : Entry → Type 0) (s : Sections) (section : List ℕ) (bs : List (Vec ℕ)) (named : List NamedList)
    (bytes : List ℕ) (names : List ListAt)
    (w : AreWritten k bs named (with_tables named (indexed_in section named (indexed_units (kind_of k) s))) bytes names)
    (origin : (r : NamedList) → Contains named r → HasOrigin (kind_of k) gets_list (units s) r)
    (up : Ascends 0 (map place_of (all_of (units s)))) where
  -- The list with a number has full addresses.
  pub in_full : (at : ℕ) (part : List ℕ) → IsSpelled k part → StandsAt w.tables at part → IsFullList (kind_of k) bytes at
  in_full at part sp stands =
      subst (λ (l : List ℕ). IsFullList (kind_of k) l at) (sym w.bytes_are)
      (list_full k w.tables at sp.entries (subst (StandsAt w.tables at) sp.are stands) w.units sp.writable)

  module _ (spelled : (r : NamedList) → Contains named r → IsSpelled k (bytes_in bs r.list)) where
    list_by : (base i at : ℕ) → IsListOf k bs w.tables names named base i at → (f : IsFullList (kind_of k) bytes at)
        × ((NamesIndex (kind_of k) s names base i → ⊥) → f.items ≡ [])
    list_by base i at (inl p) = (
      in_full at (bytes_in bs p.0.list) (spelled p.0 p.1) p.4,
      λ none.
          let o = origin p.0 p.1 in
          let n = o.named i p.2 in
          absurd (none (record {
            u = o.u;
            unit = o.unit;
            based = ap (λ (own : ℕ). new_list_offset names own (base_name k)) (sym o.own) ∙ p.3;
            e = o.e;
            entry = o.entry;
            name = n.name;
            a = n.a;
            is = n.is;
            names = n.naming;
            form = n.form;
            value = n.value;
          })),
    )
    list_by base i at (inr stands) =
        subst (λ (l : List ℕ). (f : IsFullList (kind_of k) l at) × ((NamesIndex (kind_of k) s names base i → ⊥) → f.items ≡ []))
        (sym w.bytes_are) (
          record {
            items = [];
            are = list_read k w.tables at [] stands w.units (All-nil (IsWritable k));
            full = All-nil (λ (i : Item). IsTrue (is_full i.bound));
          },
          λ none. refl,
        )

    has_index : (base i : ℕ) → HasSlot k bs w.tables names named base i → HasIndex (kind_of k) s names bytes base i
    has_index base i slot =
        let l = list_by base i (base + slot.offset) slot.list in
        record {
          offset = slot.offset;
          is = subst (λ (b : List ℕ). number_in 4 (base + 4 * i) b ≡ Some slot.offset) (sym w.bytes_are)
              (offset_there w.tables (base + 4 * i) slot.offset slot.stands w.units slot.low);
          full = l.0;
          unused = l.1;
        }

    base_got : (u : Unit) (d : Entry) → own_entry u ≡ Some d → HasBase k bs w.tables names named (indexed_at (kind_of k) u d) →
        GetsBase (kind_of k) s u names bytes
    base_got u d is b = record {
      base = b.base;
      is = ap (λ (own : ℕ). new_list_offset names own (base_name k)) (own_at u d is) ∙ b.named;
      count = b.count;
      table_is = subst (λ (l : List ℕ). IsTableBase l b.base b.count) (sym w.bytes_are)
          (table_base w.tables b.base b.count b.table w.units);
      below = all_below (indexes (kind_of k).index_form u) b.count b.above;
      each = λ i h. has_index b.base i (b.slots i h);
    }

    -- A unit that needs a table has one.
    pub new_base : (section ≡ [] → bytes ≢ []) →
        (length named ≡ 0 → length (indexed_in section named (indexed_units (kind_of k) s)) ≡ 0 → bytes ≡ []) →
        (u : Unit) → Contains (units s) u → (e : Entry) → Contains u.entries e →
        (is_some (greatest (indexes (kind_of k).index_form u)) ≡ true) ⊎ ((r : NamedList) × Contains named r × (r.own ≡ own_place u)) →
        GetsBase (kind_of k) s u names bytes
    new_base some none u uc e ec needs =
        let d = some_own u e ec in
        let x : IndexedUnit = indexed_at (kind_of k) u d.0 in
        let all : List IndexedUnit = indexed_units (kind_of k) s in
        let there : Contains (indexed_in section named all) x =
        subst (λ (l : List IndexedUnit). Contains l x) (sym (all_in section bytes named all some none))
        (has_unit (kind_of k) (units s) u d.0 uc d.1) in
        let passes : needs_table named x ≡ true = ⊎_elim
        (λ (used : is_some (greatest (indexes (kind_of k).index_form u)) ≡ true).
        ap (λ (b : Bool). b || list_any (λ (r : NamedList). r.own == x.own) named) used)
        (λ (r : (r : NamedList) × Contains named r × (r.own ≡ own_place u)).
        needs_one named x r.0 r.1 (sym (r.2 ∙ own_at u d.0 d.1)))
        needs in
        base_got u d.0 d.1 (w.based x (Contains-filter (needs_table named) (indexed_in section named all) x there passes))

  -- A unit that needs none keeps its base.
  pub kept_base : (u : Unit) → Contains (units s) u → (d : Entry) → own_entry u ≡ Some d → (NeedsTable (kind_of k) gets_list u → ⊥) →
      new_list_offset names d.place (base_name k) ≡ None
  kept_base u uc d is none = w.unbased d.place (λ x c own.
      let all : List IndexedUnit = indexed_units (kind_of k) s in
      let y = from_unit (kind_of k) (units s) x (within_in section named all x (Contains-from_filter (needs_table named)
      (indexed_in section named all) x c)) in
      let same : y.u ≡ u = own_unique 0 (units s) y.u u y.d d up y.unit (first_there y.u.entries y.d y.is) uc (first_there u.entries d is)
      (own_at y.u y.d y.is ∙ ap (λ (z : IndexedUnit). z.own) y.kept ∙ own ∙ sym (own_at u d is)) in
      none (subst (NeedsTable (kind_of k) gets_list) same
      (needing y.u x (ap (λ (z : IndexedUnit). z.greatest) y.kept) (own_at y.u y.d y.is ∙ ap (λ (z : IndexedUnit). z.own) y.kept) y.d
      (first_there y.u.entries y.d y.is) y.unit
      (filter_passes (needs_table named) (indexed_in section named all) x c))))
    where
      needing : (v : Unit) (x : IndexedUnit) → greatest (indexes (kind_of k).index_form v) ≡ x.greatest → own_place v ≡ x.own →
          (d : Entry) → Contains v.entries d → Contains (units s) v → needs_table named x ≡ true → NeedsTable (kind_of k) gets_list v
      needing v x most own d dc vc passes = by (is_some x.greatest) refl passes
        where
          by : (b : Bool) → is_some x.greatest ≡ b → (b || list_any (λ (r : NamedList). r.own == x.own) named) ≡ true →
              NeedsTable (kind_of k) gets_list v
          by true used f =
              let i = some_used (indexes (kind_of k).index_form v) (ap is_some most ∙ used) in
              NeedsTable.uses_index i.0 i.1
          by false used f =
              let r = any_is (λ (r : NamedList). r.own == x.own) named f in
              let o = origin r.0 r.1 in
              subst (NeedsTable (kind_of k) gets_list)
              (own_unique 0 (units s) o.u v o.e d up o.unit o.entry vc dc (sym o.own ∙ eqb-true r.0.own x.own r.2 ∙ sym own)) o.needs

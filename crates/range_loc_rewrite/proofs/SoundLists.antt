-- In sections of ranges without a fault, all lists to which entries refer can be read.
use Rattle.std.proofs.Common.{◌≡◌, ◌∙◌, ◌||◌, ◌++◌, ◌∷◌, [], ℕ, Bool, true, false, not, List, Option, Some, None, Result, Ok, refl, sym, ap}
use Rattle.std.proofs.Common.{subst, arith, map, filter, ⊎_elim}
use Rattle.std.specs.Prelude.{if◌then◌else◌, flat_map, filter_map, is_some, option_map, Contains}
use Rattle.std.specs.List.{find, list_any, AllZip, cons_option}
use Rattle.std.specs.Option.{option_or}
use Rattle.rb_bytes.proofs.Members.{Contains-nil, Contains-cons_cases, Contains-there}
use Rattle.rb_bytes.specs.FirstFault.{IsFree}
use Rattle.rb_bytes.proofs.Options.{both_none}
use Rattle.answer_runs.specs.Choices.{least}
use Rattle.table_core.specs.DebugUnits.{Walked, walked, first_place, other_version}
use Rattle.dw_unit.specs.declared.entry.Attr.{Attr}
use Rattle.dw_unit.specs.declared.trouble.Trouble.{Trouble}
use Rattle.dw_unit.specs.CompUnits.{Entry, Unit, units, unit_of}
use Rattle.dw_unit.specs.Faults.{HasDwarfFault, unit_fault_places, is_bad, bad_address_table, is_sound_unit, fails}
use Rattle.dw_unit.proofs.NewSections.{sound_units}
use Rattle.dw_unit.proofs.NoFaults.{AreAbsent, absent, free_of, none_least, both_nil, no_first}
use Rattle.dw_unit.proofs.UnitsRead.{IsGoodUnit}
use Rattle.dw_lists.specs.Faults.{ListSections, range_places, has_bad_offset, lacks_offset, bad_list_tables, bad_table, table_place}
use Rattle.dw_lists.specs.Lists.{Kind, ranges_kind, has_list, list_offset, list_at}
use Rattle.list_writer.proofs.PutEntries.{flat_from}
use Rattle.list_units.proofs.RangeFaults.{of_tables}
use Rattle.range_loc_rewrite.proofs.UnitsFree.{units_free}

-- An attribute refers to a list that can be read.
pub record IsThere (k : Kind) (section addr : List ℕ) (u : Unit) (a : Attr) : Type 0 where
  pub at : ℕ
  pub offset : list_offset k section u a ≡ Some at
  pub read : is_some (list_at k section addr u at) ≡ true

abbrev pub AreThere : Kind → (section addr : List ℕ) → Unit → List Attr → Type 0
AreThere k section addr u attrs = (a : Attr) → Contains attrs a → has_list k a ≡ true → IsThere k section addr u a

abbrev pub IsFine : ListSections → Unit → Attr → Type 0
IsFine s u a = IsThere ranges_kind s.ranges s.units.addr u a

abbrev pub AreFine : ListSections → Unit → List Attr → Type 0
AreFine s u attrs = AreThere ranges_kind s.ranges s.units.addr u attrs

some_of : (o : Option ℕ) → is_some o ≡ true → (n : ℕ) × (o ≡ Some n)
some_of (Some n) e = (n, refl)
some_of None e = absurd (cc)

or_parts : (a b : Bool) → (a || b) ≡ false → (a ≡ false) × (b ≡ false)
or_parts true b e = absurd (cc)
or_parts false b e = (refl, e)

not_false : (b : Bool) → not b ≡ false → b ≡ true
not_false true e = refl
not_false false e = absurd (cc)

-- From lists of attributes to their elements, and back

module _ (k : Kind) (section addr : List ℕ) (u : Unit) where
  abbrev offset_of : Attr → Option ℕ
  offset_of a = list_offset k section u a

  abbrev reads : ℕ → Bool
  reads at = is_some (list_at k section addr u at)

  abbrev lacking : List Attr → Bool
  lacking xs = list_any (λ a. not (is_some (offset_of a))) (filter (has_list k) xs)

  abbrev unread : List Attr → List ℕ
  unread xs = filter (λ at. not (reads at)) (filter_map offset_of (filter (has_list k) xs))

  cons_none : (x : ℕ) (xs : List ℕ) → x ∷ xs ≡ [] → ⊥
  cons_none x xs e = cc

  none_unread : (o : Option ℕ) (xs : List ℕ) → filter (λ at. not (reads at)) (cons_option o xs) ≡ [] →
      ((at : ℕ) → o ≡ Some at → reads at ≡ true) × (filter (λ at. not (reads at)) xs ≡ [])
  none_unread None xs e = (λ at f. absurd (cc), e)
  none_unread (Some n) xs e = step (reads n) refl e
    where
      same : (m n : ℕ) → Some m ≡ Some n → m ≡ n
      same m n f = cc

      step : (b : Bool) → reads n ≡ b → (if not b then n ∷ filter (λ at. not (reads at)) xs else filter (λ at. not (reads at)) xs) ≡ [] →
          ((at : ℕ) → Some n ≡ Some at → reads at ≡ true) × (filter (λ at. not (reads at)) xs ≡ [])
      step true is f = (λ at g. subst (λ (i : ℕ). reads i ≡ true) (same n at g) is, f)
      step false is f = absurd (cons_none n _ f)

  pub all_fine : (xs : List Attr) → lacking xs ≡ false → unread xs ≡ [] → AreThere k section addr u xs
  all_fine [] e f a c h = absurd (Contains-nil a c)
  all_fine (x ∷ xs) e f a c h = step (has_list k x) refl e f (λ e f there. all_fine xs e f a there h)
    where
      step : (b : Bool) → has_list k x ≡ b →
          list_any (λ a. not (is_some (offset_of a))) (if b then x ∷ filter (has_list k) xs else filter (has_list k) xs) ≡ false →
          filter (λ at. not (reads at)) (filter_map offset_of (if b then x ∷ filter (has_list k) xs else filter (has_list k) xs)) ≡ [] →
          (lacking xs ≡ false → unread xs ≡ [] → Contains xs a → IsThere k section addr u a) → IsThere k section addr u a
      step false is e f ih = ⊎_elim
          (λ (same : x ≡ a). let g : false ≡ true = sym is ∙ ap (has_list k) same ∙ h in absurd (cc))
          (λ (there : Contains xs a). ih e f there) (Contains-cons_cases x xs a c)
      step true is e f ih =
          let p = or_parts (not (is_some (offset_of x))) (lacking xs) e in
          let o = some_of (offset_of x) (not_false (is_some (offset_of x)) p.0) in
          let q = none_unread (offset_of x) (filter_map offset_of (filter (has_list k) xs)) f in
          ⊎_elim
          (λ (same : x ≡ a). subst (IsThere k section addr u) same (record { at = o.0; offset = o.1; read = q.0 o.0 o.1 }))
          (λ (there : Contains xs a). ih p.1 q.1 there) (Contains-cons_cases x xs a c)

  tail_fine : (x : Attr) (xs : List Attr) → AreThere k section addr u (x ∷ xs) → AreThere k section addr u xs
  tail_fine x xs fine a c h = fine a (Contains-there x xs a c) h

  pub none_lacking : (xs : List Attr) → AreThere k section addr u xs → (lacking xs ≡ false) × (unread xs ≡ [])
  none_lacking [] fine = (refl, refl)
  none_lacking (x ∷ xs) fine = step (has_list k x) refl (none_lacking xs (tail_fine x xs fine))
    where
      step : (b : Bool) → has_list k x ≡ b → (lacking xs ≡ false) × (unread xs ≡ []) →
          (list_any (λ a. not (is_some (offset_of a))) (if b then x ∷ filter (has_list k) xs else filter (has_list k) xs) ≡ false)
          × (filter (λ at. not (reads at)) (filter_map offset_of (if b then x ∷ filter (has_list k) xs else filter (has_list k) xs)) ≡ [])
      step false is more = more
      step true is more =
          let f = fine x (0, omega arith, refl) is in (
            ap (λ (o : Option ℕ). not (is_some o) || lacking xs) f.offset ∙ more.0,
            ap (λ (o : Option ℕ). filter (λ at. not (reads at)) (cons_option o (filter_map offset_of (filter (has_list k) xs)))) f.offset
                ∙ ap (λ (b : Bool). if not b then f.at ∷ unread xs else unread xs) f.read ∙ more.1,
          )

-- For all units

map_nil : (section : List ℕ) (xs : List ℕ) → map (table_place section) xs ≡ [] → xs ≡ []
map_nil section [] e = refl
map_nil section (x ∷ xs) e = absurd (cc)

flat_nil : (f : Unit → List ℕ) (us : List Unit) → flat_map f us ≡ [] → (u : Unit) → Contains us u → f u ≡ []
flat_nil f [] e u c = absurd (Contains-nil u c)
flat_nil f (x ∷ us) e u c =
    let p = both_nil (f x) (flat_map f us) e in
    ⊎_elim (λ (same : x ≡ u). subst (λ (y : Unit). f y ≡ []) same p.0) (λ (there : Contains us u). flat_nil f us p.1 u there)
    (Contains-cons_cases x us u c)

nil_flat : (f : Unit → List ℕ) (us : List Unit) → ((u : Unit) → Contains us u → f u ≡ []) → flat_map f us ≡ []
nil_flat f [] none = refl
nil_flat f (u ∷ us) none = (λ i. none u (0, omega arith, refl) i ++ flat_map f us) ∙ nil_flat f us (λ v c. none v (Contains-there u us v c))

module _ (s : ListSections) (bad_by : Walked → Bool) where
  -- No unit has the other faults.
  pub none_found : (ws : List Walked) (us : List Unit) → AllZip (IsGoodUnit s.units.abbrevs (is_sound_unit s.units.addr)) ws us →
      find (λ w. is_bad s.units w || bad_by w) ws ≡ None → (u : Unit) → Contains us u → (w : Walked) × (unit_of s.units.abbrevs w ≡ Ok u)
      × (bad_by w ≡ false)
  none_found [] [] z e u c = absurd (Contains-nil u c)
  none_found [] (v ∷ us) z e u c = absurd z
  none_found (w ∷ ws) [] z e u c = absurd z
  none_found (w ∷ ws) (v ∷ us) z e u c = step (is_bad s.units w) (bad_by w) refl e (λ e there. none_found ws us z.1 e u there)
    where
      step : (a b : Bool) → bad_by w ≡ b → (if a || b then Some w else find (λ w. is_bad s.units w || bad_by w) ws) ≡ None →
          (find (λ w. is_bad s.units w || bad_by w) ws ≡ None → Contains us u → (w : Walked) × (unit_of s.units.abbrevs w ≡ Ok u)
          × (bad_by w ≡ false)) →
          (w : Walked) × (unit_of s.units.abbrevs w ≡ Ok u) × (bad_by w ≡ false)
      step true b is e ih = absurd (cc)
      step false true is e ih = absurd (cc)
      step false false is e ih = ⊎_elim
          (λ (same : v ≡ u). (w, z.0.0 ∙ ap (λ (x : Unit). Ok x) same, is))
          (λ (there : Contains us u). ih e there) (Contains-cons_cases v us u c)

  pub found_none : (ws : List Walked) (us : List Unit) → AllZip (IsGoodUnit s.units.abbrevs (is_sound_unit s.units.addr)) ws us →
      ((w : Walked) (u : Unit) → Contains us u → unit_of s.units.abbrevs w ≡ Ok u → bad_by w ≡ false) →
      find (λ w. is_bad s.units w || bad_by w) ws ≡ None
  found_none [] us z none = refl
  found_none (w ∷ ws) [] z none = absurd z
  found_none (w ∷ ws) (v ∷ us) z none =
      let good : is_bad s.units w ≡ false = ap (λ (r : Result Unit Trouble). fails (is_sound_unit s.units.addr) r) z.0.0 ∙ ap not z.0.1 in
      let there : bad_by w ≡ false = none w v (0, omega arith, refl) z.0.0 in
      (λ i. if good i || there i then Some w else find (λ w. is_bad s.units w || bad_by w) ws)
      ∙ found_none ws us z.1 (λ w u c is. none w u (Contains-there v us u c) is)

-- The lists of a kind, for all units.
pub units_there : (k : Kind) (section addr : List ℕ) (us : List Unit) → ((u : Unit) → Contains us u → lacks_offset k section u ≡ false) →
    flat_map (bad_list_tables k section addr) us ≡ [] → (u : Unit) → Contains us u →
    AreThere k section addr u (flat_map (λ (e : Entry). e.attrs) u.entries)
units_there k section addr us none tables u c =
    all_fine k section addr u (flat_map (λ (e : Entry). e.attrs) u.entries) (none u c)
    (map_nil section _ (flat_nil (bad_list_tables k section addr) us tables u c))

pub there_units : (k : Kind) (section addr : List ℕ) (us : List Unit) →
    ((u : Unit) → Contains us u → (e : Entry) → Contains u.entries e → AreThere k section addr u e.attrs) →
    ((u : Unit) → Contains us u → lacks_offset k section u ≡ false) × (flat_map (bad_list_tables k section addr) us ≡ [])
there_units k section addr us fine = (
  λ u c. (none_lacking k section addr u (flat_map (λ (e : Entry). e.attrs) u.entries) (all u c)).0,
  nil_flat (bad_list_tables k section addr) us
      (λ u c. ap (map (table_place section)) (none_lacking k section addr u (flat_map (λ (e : Entry). e.attrs) u.entries) (all u c)).1),
)
  where
    all : (u : Unit) → Contains us u → AreThere k section addr u (flat_map (λ (e : Entry). e.attrs) u.entries)
    all u c a d h = let p = flat_from (λ (e : Entry). e.attrs) u.entries a d in fine u c p.0 p.1 a p.2 h

module _ (s : ListSections) where
  abbrev bad_ranges : Walked → Bool
  bad_ranges w = has_bad_offset ranges_kind s.ranges (unit_of s.units.abbrevs w)

  pub lists_fine : IsFree (HasDwarfFault (range_places s)) → (u : Unit) → Contains (units s.units) u →
      AreFine s u (flat_map (λ (e : Entry). e.attrs) u.entries)
  lists_fine free =
      let none : AreAbsent (range_places s) = absent (range_places s) free in
      let bad = both_none (first_place (λ w. is_bad s.units w || bad_ranges w) (walked 5 s.units.info))
      (option_or (bad_address_table s.units.addr) (bad_table ranges_kind s.ranges s.units)) none.bad in
      let later = both_none (bad_address_table s.units.addr) (bad_table ranges_kind s.ranges s.units) bad.1 in
      let tables = both_nil (of_tables s) (flat_map (bad_list_tables ranges_kind s.ranges s.units.addr) (units s.units))
      (none_least (of_tables s ++ flat_map (bad_list_tables ranges_kind s.ranges s.units.addr) (units s.units)) later.1) in
      units_there ranges_kind s.ranges s.units.addr (units s.units)
      (λ u c.
      let p = none_found s bad_ranges (walked 5 s.units.info) (units s.units) (sound_units s.units (units_free s free))
      (no_first (λ w. is_bad s.units w || bad_ranges w) (walked 5 s.units.info) bad.0) u c in
      sym (ap (has_bad_offset ranges_kind s.ranges) p.1) ∙ p.2)
      tables.1

  -- The converse.
  pub fine_free : IsFree (HasDwarfFault (unit_fault_places s.units)) → other_version 5 s.ranges ≡ None → of_tables s ≡ [] →
      ((u : Unit) → Contains (units s.units) u → (e : Entry) → Contains u.entries e → AreFine s u e.attrs) →
      IsFree (HasDwarfFault (range_places s))
  fine_free free version tables fine =
      let none : AreAbsent (unit_fault_places s.units) = absent (unit_fault_places s.units) free in
      let p = there_units ranges_kind s.ranges s.units.addr (units s.units) fine in
      let found : find (λ w. is_bad s.units w || bad_ranges w) (walked 5 s.units.info) ≡ None =
      found_none s bad_ranges (walked 5 s.units.info) (units s.units) (sound_units s.units free)
      (λ w u c is. ap (has_bad_offset ranges_kind s.ranges) is ∙ p.0 u c) in
      let addresses = (both_none (first_place (is_bad s.units) (walked 5 s.units.info)) (bad_address_table s.units.addr) none.bad).1 in
      free_of (range_places s) (record {
        version = (λ i. option_or (none.version i) (version i));
        form = none.form;
        high = none.high;
        bad = (λ i. option_or (option_map (λ (w : Walked). w.place) (found i)) (option_or (addresses i) (least (tables i ++ p.1 i))));
      })

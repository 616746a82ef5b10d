-- Units whose attributes use no list have no lists that weigh anything.
use Rattle.std.proofs.Common.{◌≡◌, ◌∙◌, ◌≤◌, ◌*◌, ◌==◌, ◌&&◌, ◌||◌, not, ℕ, Bool, true, false, List, [], ◌∷◌, All, length}
use Rattle.std.proofs.Common.{sum_by, map, flat_map, filter, cond, IsTrue, sym, ap, refl, zero, suc, arith}
use Rattle.std.specs.Prelude.{Contains, filter_map}
use Rattle.std.proofs.lemmas.List.{length-map, length-append}
use Rattle.std.proofs.lemmas.List.Elements.{All-contains}
use Rattle.std.proofs.lemmas.List.Sums.{sum_by-cons}
use Rattle.rb_bytes.proofs.ListLemmas.{from_flat, in_flat, in_map}
use Rattle.rb_bytes.proofs.Members.{Contains-there}
use Rattle.answer_runs.specs.Weights.{distinct}
use Rattle.table_core.specs.declared.form.TheConstants.{DW_FORM_sec_offset, DW_FORM_rnglistx, DW_FORM_loclistx}
use Rattle.dw_unit.specs.declared.entry.Attr.{Attr}
use Rattle.dw_unit.specs.CompUnits.{Entry, Sections, Unit, entries, units}
use Rattle.dw_unit.specs.Faults.{is_located}
use Rattle.dw_unit.specs.ListedEntries.{ListedEntry, listed, listed_entries}
use Rattle.range_loc_rewrite.specs.Faults.{ListSections, list_offsets}
use Rattle.range_loc_rewrite.specs.Lists.{has_list, list_offset, locations_kind}
use Rattle.range_loc_rewrite.specs.ListWeights.{IsSumOf, none, more}
use Rattle.range_loc_rewrite.specs.Ranges.{ranged, ranged_from, ranged_in, ranges_of}
use Rattle.range_loc_rewrite.specs.Weights.{index_weight, offsets_weight}
use Rattle.sample_gen.specs.internal.Light.{is_listless}

filter_none : {X : Type 0} (p : X → Bool) (xs : List X) → ((x : X) → Contains xs x → p x ≡ false) → filter p xs ≡ []
filter_none p [] fails = refl
filter_none p (x ∷ xs) fails =
    ap (λ b. cond b (x ∷ filter p xs) (filter p xs)) (fails x (zero, omega arith, refl))
    ∙ filter_none p xs (λ y c. fails y (Contains-there x xs y c))

no_sum : {X : Type 0} (w : X → ℕ) (xs : List X) → ((x : X) → Contains xs x → w x ≡ 0) → sum_by w xs ≡ 0
no_sum w [] zeros = refl
no_sum w (x ∷ xs) zeros =
    let e = sum_by-cons w x xs in
    let here = zeros x (zero, omega arith, refl) in
    let rest = no_sum w xs (λ y c. zeros y (Contains-there x xs y c)) in
    omega (arith, e, here, rest)

-- a sum of weights that are all within a bound
pub sum_within : {X : Type 0} (Weighs : X → ℕ → Type 0) (most : ℕ) (xs : List X) →
    ((x : X) → Contains xs x → (n : ℕ) → Weighs x n → n ≤ most) → (n : ℕ) → IsSumOf Weighs xs n → n ≤ most * length xs
sum_within Weighs most [] within n none = omega arith
sum_within Weighs most (x ∷ xs) within n (more _ _ a b w rest) =
    let here = within x (zero, omega arith, refl) a w in
    let others = sum_within Weighs most xs (λ y c. within y (Contains-there x xs y c)) b rest in
    grind (arith, here, others)

-- Tests of an attribute.

index_tests : (form name : ℕ) → (not (form == DW_FORM_rnglistx) && not (form == DW_FORM_loclistx)
    && not (is_located name && form == DW_FORM_sec_offset)) ≡ true →
    ((form == DW_FORM_rnglistx) ≡ false) × ((form == DW_FORM_loclistx) ≡ false)
    × ((is_located name && (form == DW_FORM_sec_offset || form == DW_FORM_loclistx)) ≡ false)
index_tests form name is = by (form == DW_FORM_rnglistx) (form == DW_FORM_loclistx) (is_located name) (form == DW_FORM_sec_offset) is
  where
    by : (ranges locations located offset : Bool) → (not ranges && not locations && not (located && offset)) ≡ true →
        (ranges ≡ false) × (locations ≡ false) × ((located && (offset || locations)) ≡ false)
    by true locations located offset e = absurd (cc)
    by false true located offset e = absurd (cc)
    by false false true true e = absurd (cc)
    by false false true false e = (refl, refl, refl)
    by false false false offset e = (refl, refl, refl)

module _ (s : Sections) (listless : All (λ (e : ListedEntry). All (λ a. IsTrue (is_listless a)) e.attrs) (listed_entries s)) where
  module _ (u : Unit) (is_in : Contains (units s) u) (a : Attr) (c : Contains (flat_map (λ (e : Entry). e.attrs) u.entries) a) where
    is_free : is_listless a ≡ true
    is_free =
        let (e, in_unit, in_entry) = from_flat (λ (e : Entry). e.attrs) u.entries a c in
        let in_file = in_map listed (entries s) e (in_flat (λ (u : Unit). u.entries) (units s) u e is_in in_unit) in
        All-contains (λ (a : Attr). IsTrue (is_listless a)) e.attrs a
        (All-contains (λ (e : ListedEntry). All (λ a. IsTrue (is_listless a)) e.attrs) (listed_entries s) (listed e) listless in_file)
        in_entry

    no_range_index : (a.form == DW_FORM_rnglistx) ≡ false
    no_range_index = (index_tests a.form a.name is_free).0

    no_location_index : (a.form == DW_FORM_loclistx) ≡ false
    no_location_index = (index_tests a.form a.name is_free).1

    no_list : has_list locations_kind a ≡ false
    no_list = (index_tests a.form a.name is_free).2

  index_free : (form : ℕ) (u : Unit) →
      ((a : Attr) → Contains (flat_map (λ (e : Entry). e.attrs) u.entries) a → (a.form == form) ≡ false) → index_weight form u ≡ 0
  index_free form u fails =
      ap (λ (attrs : List Attr). offsets_weight (map (λ (a : Attr). a.value) attrs))
      (filter_none (λ (a : Attr). a.form == form) (flat_map (λ (e : Entry). e.attrs) u.entries) fails)

  pub no_range_indexes : sum_by (index_weight DW_FORM_rnglistx) (units s) ≡ 0
  no_range_indexes = no_sum (index_weight DW_FORM_rnglistx) (units s) (λ u c. index_free DW_FORM_rnglistx u (no_range_index u c))

  pub no_location_indexes : sum_by (index_weight DW_FORM_loclistx) (units s) ≡ 0
  no_location_indexes = no_sum (index_weight DW_FORM_loclistx) (units s) (λ u c. index_free DW_FORM_loclistx u (no_location_index u c))

  pub no_offsets : (section : List ℕ) (u : Unit) → Contains (units s) u → distinct (list_offsets locations_kind section u) ≡ []
  no_offsets section u is_in =
      ap (λ (attrs : List Attr). distinct (filter_map (list_offset locations_kind section u) attrs))
      (filter_none (has_list locations_kind) (flat_map (λ (e : Entry). e.attrs) u.entries) (no_list u is_in))

-- The number of entries whose ranges are asked for is the number of entries.

same_lengths : {X Y Z : Type 0} (f : X → List Y) (g : X → List Z) → ((x : X) → length (f x) ≡ length (g x)) → (xs : List X) →
    length (flat_map f xs) ≡ length (flat_map g xs)
same_lengths f g same [] = refl
same_lengths f g same (x ∷ xs) =
    let left = length-append (f x) (flat_map f xs) in
    let right = length-append (g x) (flat_map g xs) in
    let here = same x in
    let rest = same_lengths f g same xs in
    omega (arith, left, right, here, rest)

module _ (t : ListSections) where
  asked : (u : Unit) (before es : List Entry) → length (ranged_from (ranges_of t u) before es) ≡ length es
  asked u before [] = refl
  asked u before (e ∷ es) = ap suc (asked u (e ∷ before) es)

  pub count_ranged : length (ranged t) ≡ length (listed_entries t.units)
  count_ranged =
      same_lengths (ranged_in t) (λ (u : Unit). u.entries) (λ u. asked u [] u.entries) (units t.units)
      ∙ sym (length-map (entries t.units) listed)

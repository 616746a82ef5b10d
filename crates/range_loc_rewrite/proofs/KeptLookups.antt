-- Entries and what is kept of them, found from each other. Entries of one unit with the same index have the same ranges.
use Rattle.std.proofs.Common.{◌≡◌, ◌∙◌, ◌+◌, ◌<◌, ◌≤◌, ◌==◌, ◌⊎◌, inl, inr, ◌++◌, ◌∷◌, [], ℕ, Bool, true, false, List, Option, Some, None}
use Rattle.std.proofs.Common.{refl, sym, ap, subst, arith, map, ⊎_elim}
use Rattle.std.specs.Prelude.{flat_map, Contains, option_and_then, option_map, if◌then◌else◌}
use Rattle.std.specs.Option.{option_map_or}
use Rattle.rb_bytes.proofs.Members.{Contains-nil, Contains-cons_cases, Contains-there}
use Rattle.rb_bytes.proofs.Options.{same_some}
use Rattle.answer_runs.specs.Choices.{first_of}
use Rattle.answer_runs.specs.declared.range.Range.{Range}
use Rattle.dw_unit.specs.declared.entry.Attr.{Attr}
use Rattle.dw_unit.specs.CompUnits.{Entry, Unit, attr, low_pc, own_entry}
use Rattle.answer_runs.proofs.Ascending.{Ascends}
use Rattle.dw_unit.proofs.SoundEntries.{IsSoundEntry, AreSoundEntries, AreSoundUnits}
use Rattle.cover_lists.specs.declared.cover_tree.Cover.{Cover}
use Rattle.cover_lists.specs.declared.groups.RangedEntry.{RangedEntry}
use Rattle.dw_lists.specs.Faults.{ListSections}
use Rattle.list_units.specs.Gathering.{ranges_index}
use Rattle.cover_lists.specs.Groups.{group_holds}
use Rattle.cover_lists.specs.Located.{ranges_in, hold}
use Rattle.dw_lists.specs.KnownLists.{range_list}
use Rattle.dw_lists.specs.Lists.{ranges_kind, only_within, offset_of_index}
use Rattle.dw_lists.specs.Ranges.{ranges_of, up_to}
use Rattle.dw_lists.specs.UnitLists.{own_place}
use Rattle.range_loc_rewrite.proofs.KeptPairs.{IsKeptAs, Paired, AllPaired}
use Rattle.dw_lists.proofs.OwnRanges.{listed_ranges, own_list}
use Rattle.list_writer.proofs.PutEntries.{contains_split, contains_still, contains_behind}

abbrev pub place_of : Entry → ℕ
place_of e = e.place

-- Sound entries

sound_entry : (addr : List ℕ) (u : Unit) (es : List Entry) (e : Entry) → AreSoundEntries addr u es → Contains es e → IsSoundEntry addr u e
sound_entry addr u [] e s c = absurd (Contains-nil e c)
sound_entry addr u (x ∷ es) e s c = ⊎_elim (λ (same : x ≡ e). subst (IsSoundEntry addr u) same s.0)
    (λ (there : Contains es e). sound_entry addr u es e s.1 there)
    (Contains-cons_cases x es e c)

pub sound_at : (addr : List ℕ) (us : List Unit) (u : Unit) (e : Entry) → AreSoundUnits addr us → Contains us u → Contains u.entries e →
    IsSoundEntry addr u e
sound_at addr [] u e s c d = absurd (Contains-nil u c)
sound_at addr (x ∷ us) u e s c d = ⊎_elim
    (λ (same : x ≡ u). sound_entry addr u u.entries e (subst (λ (y : Unit). AreSoundEntries addr y y.entries) same s.0) d)
    (λ (there : Contains us u). sound_at addr us u e s.1 there d)
    (Contains-cons_cases x us u c)

module _ (s : ListSections) (covers : List Cover) where
  -- An entry is kept, or has no ranges.
  pub record IsFound (u : Unit) (e : Entry) (kept : List RangedEntry) : Type 0 where
    pub r : RangedEntry
    pub there : Contains kept r
    pub kept_as : IsKeptAs s covers u e r

  later : (u : Unit) (e : Entry) (xs ys : List RangedEntry) → ((r : RangedEntry) → Contains xs r → Contains ys r) →
      (ranges_of s u e ≡ None) ⊎ IsFound u e xs →
      (ranges_of s u e ≡ None) ⊎ IsFound u e ys
  later u e xs ys within (inl none) = inl none
  later u e xs ys within (inr f) = inr (record { r = f.r; there = within f.r f.there; kept_as = f.kept_as })

  paired_entry : (u : Unit) (es : List Entry) (rs : List RangedEntry) (e : Entry) → Paired s covers u es rs → Contains es e →
      (ranges_of s u e ≡ None) ⊎ IsFound u e rs
  paired_entry u [] rs e p c = absurd (Contains-nil e c)
  paired_entry u (x ∷ es) rs e (Paired.skip _ _ _ none p) c = ⊎_elim
      (λ (same : x ≡ e). inl (subst (λ (y : Entry). ranges_of s u y ≡ None) same none))
      (λ (there : Contains es e). paired_entry u es rs e p there)
      (Contains-cons_cases x es e c)
  paired_entry u (x ∷ es) (r ∷ rs) e (Paired.keep _ _ _ _ k p) c = ⊎_elim
      (λ (same : x ≡ e). inr (record {
        r = r;
        there = (0, omega arith, refl);
        kept_as = subst (λ (y : Entry). IsKeptAs s covers u y r) same k;
      }))
      (λ (there : Contains es e). later u e rs (r ∷ rs) (λ q d. Contains-there r rs q d) (paired_entry u es rs e p there))
      (Contains-cons_cases x es e c)

  pub kept_entry : (us : List Unit) (kept : List RangedEntry) (u : Unit) (e : Entry) → AllPaired s covers us kept → Contains us u →
      Contains u.entries e →
      (ranges_of s u e ≡ None) ⊎ IsFound u e kept
  kept_entry [] kept u e p c d = absurd (Contains-nil u c)
  kept_entry (x ∷ us) kept u e (AllPaired.unit_more _ _ front back p more) c d = ⊎_elim
      (λ (same : x ≡ u). later u e front (front ++ back) (λ q c. contains_still front back q c)
      (paired_entry u u.entries front e (subst (λ (y : Unit). Paired s covers y y.entries front) same p) d))
      (λ (there : Contains us u). later u e back (front ++ back) (λ q c. contains_behind front back q c)
      (kept_entry us back u e more there d))
      (Contains-cons_cases x us u c)

  -- The entry of what is kept.
  pub record IsEntryOf (us : List Unit) (r : RangedEntry) : Type 0 where
    pub u : Unit
    pub unit : Contains us u
    pub e : Entry
    pub there : Contains u.entries e
    pub kept_as : IsKeptAs s covers u e r

  pub entry_of : (u : Unit) (es : List Entry) (rs : List RangedEntry) (r : RangedEntry) → Paired s covers u es rs → Contains rs r →
      (e : Entry) × Contains es e × IsKeptAs s covers u e r
  entry_of u [] [] r p c = absurd (Contains-nil r c)
  entry_of u [] (y ∷ rs) r p c = elim p [ ]
  entry_of u (x ∷ es) rs r (Paired.skip _ _ _ none p) c = let q = entry_of u es rs r p c in (q.0, Contains-there x es q.0 q.1, q.2)
  entry_of u (x ∷ es) (y ∷ rs) r (Paired.keep _ _ _ _ k p) c = ⊎_elim
      (λ (same : y ≡ r). (x, (0, omega arith, refl), subst (λ (z : RangedEntry). IsKeptAs s covers u x z) same k))
      (λ (there : Contains rs r). let q = entry_of u es rs r p there in (q.0, Contains-there x es q.0 q.1, q.2))
      (Contains-cons_cases y rs r c)

  pub kept_from : (us : List Unit) (kept : List RangedEntry) (r : RangedEntry) → AllPaired s covers us kept → Contains kept r →
      IsEntryOf us r
  kept_from [] [] r p c = absurd (Contains-nil r c)
  kept_from [] (y ∷ kept) r p c = elim p [ ]
  kept_from (x ∷ us) kept r (AllPaired.unit_more _ _ front back p more) c = ⊎_elim
      (λ (here : Contains front r). let q = entry_of x x.entries front r p here in
      record { u = x; unit = (0, omega arith, refl); e = q.0; there = q.1; kept_as = q.2 })
      (λ (there : Contains back r).
      let q = kept_from us back r more there in record {
        u = q.u;
        unit = Contains-there x us q.u q.unit;
        e = q.e;
        there = q.there;
        kept_as = q.kept_as;
      })
      (contains_split front back r c)

-- Own entries of units have different offsets.

pub first_there : (es : List Entry) (d : Entry) → first_of es ≡ Some d → Contains es d
first_there [] d e = absurd (cc)
first_there (x ∷ es) d e = (0, omega arith, same_some (Some x) x d refl e)

pub own_at : (u : Unit) (d : Entry) → own_entry u ≡ Some d → own_place u ≡ d.place
own_at u d e = ap (λ (o : Option Entry). option_map_or (λ (e : Entry). e.place) o 0) e

abbrev pub entries_end : ℕ → List Entry → ℕ
entries_end lo [] = lo
entries_end lo (e ∷ es) = entries_end (e.place + 1) es

pub ascends_behind : (lo : ℕ) (es ds : List Entry) → Ascends lo (map place_of (es ++ ds)) → Ascends (entries_end lo es) (map place_of ds)
ascends_behind lo [] ds up = up
ascends_behind lo (e ∷ es) ds up = ascends_behind (e.place + 1) es ds up.1

pub end_least : (lo : ℕ) (es ds : List Entry) → Ascends lo (map place_of (es ++ ds)) → lo ≤ entries_end lo es
end_least lo [] ds up = omega arith
end_least lo (e ∷ es) ds up = let h = end_least (e.place + 1) es ds up.1 in omega (arith, h, up.0)

abbrev pub all_of : List Unit → List Entry
all_of us = flat_map (λ (u : Unit). u.entries) us

pub own_below : (lo : ℕ) (es ds : List Entry) (e : Entry) (place offset : ℕ) → Ascends lo (map place_of (es ++ ds)) → Contains es e →
    own_place (record { place = place; abbrev_offset = offset; entries = es }) < entries_end lo es
own_below lo [] ds e place offset up c = absurd (Contains-nil e c)
own_below lo (x ∷ es) ds e place offset up c = let h = end_least (x.place + 1) es ds up.1 in omega (arith, h)

pub own_least : (lo : ℕ) (es ds : List Entry) (e : Entry) (place offset : ℕ) → Ascends lo (map place_of (es ++ ds)) → Contains es e →
    lo ≤ own_place (record { place = place; abbrev_offset = offset; entries = es })
own_least lo [] ds e place offset up c = absurd (Contains-nil e c)
own_least lo (x ∷ es) ds e place offset up c = up.0

own_above : (lo : ℕ) (us : List Unit) (u : Unit) (e : Entry) → Ascends lo (map place_of (all_of us)) → Contains us u →
    Contains u.entries e → lo ≤ own_place u
own_above lo [] u e up c d = absurd (Contains-nil u c)
own_above lo (x ∷ us) u e up c d = ⊎_elim
    (λ (same : x ≡ u). own_least lo u.entries (all_of us) e u.place u.abbrev_offset
    (subst (λ (y : Unit). Ascends lo (map place_of (y.entries ++ all_of us))) same up) d)
    (λ (there : Contains us u).
    let h = own_above (entries_end lo x.entries) us u e (ascends_behind lo x.entries (all_of us) up) there d in
    let k = end_least lo x.entries (all_of us) up in
    omega (arith, h, k))
    (Contains-cons_cases x us u c)

own_first : (lo : ℕ) (x : Unit) (us : List Unit) (u v : Unit) (e d : Entry) → Ascends lo (map place_of (x.entries ++ all_of us)) → x ≡ u →
    Contains u.entries e →
    Contains us v → Contains v.entries d → own_place u ≡ own_place v → ⊥
own_first lo x us u v e d up same c there dc own =
    let low = own_below lo u.entries (all_of us) e u.place u.abbrev_offset
    (subst (λ (y : Unit). Ascends lo (map place_of (y.entries ++ all_of us))) same up) c in
    let end : entries_end lo u.entries ≡ entries_end lo x.entries = ap (λ (y : Unit). entries_end lo y.entries) (sym same) in
    let high = own_above (entries_end lo x.entries) us v d (ascends_behind lo x.entries (all_of us) up) there dc in
    clash (own_place u) (own_place v) (entries_end lo u.entries) (entries_end lo x.entries) low end high own
  where
    clash : (a b m n : ℕ) → a < m → m ≡ n → n ≤ b → a ≡ b → ⊥
    clash a b m n h e k f = omega arith

pub own_unique : (lo : ℕ) (us : List Unit) (u v : Unit) (e d : Entry) → Ascends lo (map place_of (all_of us)) → Contains us u →
    Contains u.entries e → Contains us v →
    Contains v.entries d → own_place u ≡ own_place v → u ≡ v
own_unique lo [] u v e d up c ec vc dc own = absurd (Contains-nil u c)
own_unique lo (x ∷ us) u v e d up c ec vc dc own = ⊎_elim
    (λ (a : x ≡ u). ⊎_elim (λ (b : x ≡ v). sym a ∙ b) (λ (b : Contains us v). absurd (own_first lo x us u v e d up a ec b dc own))
    (Contains-cons_cases x us v vc))
    (λ (a : Contains us u). ⊎_elim
    (λ (b : x ≡ v). absurd (own_first lo x us v u d e up b dc a ec (sym own)))
    (λ (b : Contains us v). own_unique (entries_end lo x.entries) us u v e d (ascends_behind lo x.entries (all_of us) up) a ec b dc own)
    (Contains-cons_cases x us v vc))
    (Contains-cons_cases x us u c)

-- Ranges with an index

pub record IsIndexed (o : Option Attr) (i : ℕ) : Type 0 where
  pub a : Attr
  pub is : o ≡ Some a
  pub form : (a.form == 0x23) ≡ true
  pub value : a.value ≡ i

pub index_attr : (o : Option Attr) (i : ℕ) → option_and_then (λ (a : Attr). if a.form == 0x23 then Some a.value else None) o ≡ Some i →
    IsIndexed o i
index_attr None i e = absurd (cc)
index_attr (Some a) i e = step (a.form == 0x23) refl e
  where
    same : (m n : ℕ) → Some m ≡ Some n → m ≡ n
    same m n e = cc

    step : (b : Bool) → (a.form == 0x23) ≡ b → (if b then Some a.value else None) ≡ Some i → IsIndexed (Some a) i
    step true f e = record { a = a; is = refl; form = f; value = same a.value i e }
    step false f e = absurd (cc)

pub no_bounds : (s : ListSections) (u : Unit) (e : Entry) → attr 0x12 e ≡ None → ranges_of s u e ≡ listed_ranges s u (attr 0x55 e)
no_bounds s u e none = own_list s u e (ap (λ (o : Option Attr). option_and_then
    (λ high. option_map (λ low. up_to low high) (low_pc s.units.addr u e)) o) none)

listed_by : (s : ListSections) (u : Unit) (a : Attr) (i : ℕ) → (a.form == 0x23) ≡ true → a.value ≡ i →
    listed_ranges s u (Some a) ≡ option_map ranges_in (option_and_then (range_list s u)
    (option_and_then (only_within s.ranges) (offset_of_index ranges_kind s.ranges u i)))
listed_by s u a i form value =
    ap (λ (b : Bool). option_map ranges_in (option_and_then (range_list s u) (option_and_then (only_within s.ranges)
    (if b then offset_of_index ranges_kind s.ranges u a.value else Some a.value)))) form
    ∙ ap (λ (n : ℕ). option_map ranges_in (option_and_then (range_list s u)
    (option_and_then (only_within s.ranges) (offset_of_index ranges_kind s.ranges u n)))) value

indexed_ranges : (s : ListSections) (u : Unit) (e : Entry) (i : ℕ) → IsSoundEntry s.units.addr u e → ranges_index e.attrs ≡ Some i →
    ranges_of s u e ≡ option_map ranges_in (option_and_then (range_list s u)
    (option_and_then (only_within s.ranges) (offset_of_index ranges_kind s.ranges u i)))
indexed_ranges s u e i sound index =
    let x = index_attr (attr 0x55 e) i index in
    no_bounds s u e (no_high (attr 0x12 e) refl x.a x.is) ∙ ap (listed_ranges s u) x.is ∙ listed_by s u x.a i x.form x.value
  where
    no_high : (o : Option Attr) → attr 0x12 e ≡ o → (a : Attr) → attr 0x55 e ≡ Some a → attr 0x12 e ≡ None
    no_high None is a f = is
    no_high (Some h) is a f = let g : None ≡ Some a = sym (sound.ranges h is) ∙ f in absurd (cc)

-- Entries of one unit with the same index contain the same addresses.
pub same_index : (s : ListSections) (covers : List Cover) (us : List Unit) (kept : List RangedEntry) (r like : RangedEntry) (i : ℕ) →
    AllPaired s covers us kept →
    AreSoundUnits s.units.addr us → Ascends 0 (map place_of (all_of us)) → Contains kept r → Contains kept like → r.own ≡ like.own →
    r.index ≡ Some i →
    like.index ≡ Some i → (a : ℕ) → group_holds covers like.group a ≡ group_holds covers r.group a
same_index s covers us kept r like i pairs sound up c d own index again a =
    let x = kept_from s covers us kept r pairs c in
    let y = kept_from s covers us kept like pairs d in
    let same : y.u ≡ x.u = own_unique 0 us y.u x.u y.e x.e up y.unit y.there x.unit x.there (sym y.kept_as.own ∙ sym own ∙ x.kept_as.own) in
    let left = indexed_ranges s x.u x.e i (sound_at s.units.addr us x.u x.e sound x.unit x.there) (sym x.kept_as.index ∙ index) in
    let right = indexed_ranges s y.u y.e i (sound_at s.units.addr us y.u y.e sound y.unit y.there) (sym y.kept_as.index ∙ again) in
    y.kept_as.held a
    ∙ ap (λ (o : Option (List Range)). hold o a) (right
    ∙ ap (λ (u : Unit). option_map ranges_in (option_and_then (range_list s u)
    (option_and_then (only_within s.ranges) (offset_of_index ranges_kind s.ranges u i)))) same
    ∙ sym left)
    ∙ sym (x.kept_as.held a)

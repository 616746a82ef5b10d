-- If no two entries have the same offset, an entry's ranges contain an address whenever the entry at its offset covers it.
use Rattle.std.proofs.Common.{◌≡◌, ◌∙◌, ◌+◌, ◌≤◌, ℕ, Bool, true, false, List, [], ◌∷◌, ◌++◌, Option, refl, sym, ap, subst, arith, map}
use Rattle.std.specs.Prelude.{◌==◌, ◌&&◌, ◌||◌, flat_map}
use Rattle.std.specs.List.{list_any}
use Rattle.std.proofs.lemmas.Bool.Decides.{nat_tests}
use Rattle.std.proofs.lemmas.List.{map-append}
use Rattle.std.proofs.lemmas.Bool.{and_right}
use Rattle.rb_bytes.specs.FirstFault.{IsFree}
use Rattle.answer_runs.specs.declared.range.Range.{Range}
use Rattle.dw_unit.proofs.EntryPlaces.{places_ascend}
use Rattle.answer_runs.proofs.Ascending.{Ascends}
use Rattle.dw_unit.specs.CompUnits.{Entry, Unit, units}
use Rattle.dw_unit.specs.Faults.{HasDwarfFault, unit_fault_places}
use Rattle.range_loc_rewrite.specs.Faults.{ListSections}
use Rattle.range_loc_rewrite.specs.Ranges.{Ranged, ranges_of, ranged_from, ranged_in, ranged, covers}
use Rattle.range_loc_rewrite.specs.Located.{hold}
use Rattle.inline_frames.proofs.Pairs.{AllOf, map_all}

-- Entries that ascend by their offsets

abbrev Above : ℕ → List Ranged → Type 0
Above lo [] = Prim.Unit {0}
Above lo (r ∷ rs) = (lo ≤ r.entry.place) × Above (r.entry.place + 1) rs

apart : (a b : ℕ) → a + 1 ≤ b → (b == a) ≡ false
apart a b h = grind (arith, nat_tests)

apart_above : (a b : ℕ) → a + 1 ≤ b → (a == b) ≡ false
apart_above a b h = grind (arith, nat_tests)

abbrev stands : ℕ → ℕ → Ranged → Bool
stands place a q = hold q.own a && q.entry.place == place

-- No entry above an offset is at it.
none_above : (place a lo : ℕ) (rs : List Ranged) → place + 1 ≤ lo → Above lo rs → list_any (stands place a) rs ≡ false
none_above place a lo [] h up = refl
none_above place a lo (q ∷ rs) h up =
    let g = up.0 in
    let other : (q.entry.place == place) ≡ false = apart place q.entry.place (omega arith) in
    let more = none_above place a (q.entry.place + 1) rs (omega arith) up.1 in
    (λ i. and_right (hold q.own a) (q.entry.place == place) other i || more i)

-- The only entry at the offset of each is itself.
all_stand : (a lo : ℕ) (rs : List Ranged) → Above lo rs → (before : Ranged → Bool) →
    ((r : Ranged) → lo ≤ r.entry.place → before r ≡ false) →
    AllOf (λ (r : Ranged). (before r || list_any (stands r.entry.place a) rs) ≡ hold r.own a) rs
all_stand a lo [] up before none = tt
all_stand a lo (r ∷ rs) up before none =
    let place : ℕ = r.entry.place in
    let same : (place == place) ≡ true = grind (arith, nat_tests) in
    let rest : list_any (stands place a) rs ≡ false = none_above place a (place + 1) rs (omega arith) up.1 in (
      (λ i. none r up.0 i || (hold r.own a && same i || rest i)) ∙ one (hold r.own a),
      regroup rs (all_stand a (place + 1) rs up.1 (λ q. before q || stands q.entry.place a r)
          (λ q h. let g = up.0 in
          (λ i. none q (omega arith) i || and_right (hold r.own a) (place == q.entry.place) (apart_above place q.entry.place h) i))),
    )
  where
    one : (b : Bool) → (false || (b && true || false)) ≡ b
    one true = refl
    one false = refl

    assoc : (b c d : Bool) → ((b || c) || d) ≡ (b || (c || d))
    assoc true c d = refl
    assoc false c d = refl

    regroup : (qs : List Ranged) →
        AllOf (λ (q : Ranged). ((before q || stands q.entry.place a r) || list_any (stands q.entry.place a) rs) ≡ hold q.own a) qs →
        AllOf (λ (q : Ranged). (before q || list_any (stands q.entry.place a) (r ∷ rs)) ≡ hold q.own a) qs
    regroup [] h = tt
    regroup (q ∷ qs) h =
        (sym (assoc (before q) (stands q.entry.place a r) (list_any (stands q.entry.place a) rs)) ∙ h.0, regroup qs h.1)

-- The offsets of ranged entries are offsets of entries.

entries_from : (own : Entry → Option (List Range)) (before es : List Entry) → map (λ (r : Ranged). r.entry) (ranged_from own before es) ≡ es
entries_from own before [] = refl
entries_from own before (e ∷ es) = ap (λ (l : List Entry). e ∷ l) (entries_from own (e ∷ before) es)

entries_in : (s : ListSections) (us : List Unit) → map (λ (r : Ranged). r.entry) (flat_map (ranged_in s) us) ≡ flat_map
    (λ (u : Unit). u.entries) us
entries_in s [] = refl
entries_in s (u ∷ us) =
    map-append (λ (r : Ranged). r.entry) (ranged_in s u) (flat_map (ranged_in s) us)
    ∙ (λ i. entries_from (ranges_of s u) [] u.entries i ++ entries_in s us i)

above_of : (lo : ℕ) (rs : List Ranged) → Ascends lo (map (λ (e : Entry). e.place) (map (λ (r : Ranged). r.entry) rs)) → Above lo rs
above_of lo [] up = tt
above_of lo (r ∷ rs) up = (up.0, above_of (r.entry.place + 1) rs up.1)

are_above : (s : ListSections) → IsFree (HasDwarfFault (unit_fault_places s.units)) → Above 0 (ranged s)
are_above s free =
    above_of 0 (ranged s) (subst (λ (es : List Entry). Ascends 0 (map (λ (e : Entry). e.place) es)) (sym (entries_in s (units s.units)))
    (places_ascend s.units free))

-- For every entry of every unit.

left_of : {A : Type 0} (P : A → Type 0) (xs ys : List A) → AllOf P (xs ++ ys) → AllOf P xs
left_of P [] ys h = tt
left_of P (x ∷ xs) ys h = (h.0, left_of P xs ys h.1)

right_of : {A : Type 0} (P : A → Type 0) (xs ys : List A) → AllOf P (xs ++ ys) → AllOf P ys
right_of P [] ys h = h
right_of P (x ∷ xs) ys h = right_of P xs ys h.1

of_flat : {A B : Type 0} (P : B → Type 0) (g : A → List B) (xs : List A) → AllOf P (flat_map g xs) → AllOf (λ x. AllOf P (g x)) xs
of_flat P g [] h = tt
of_flat P g (x ∷ xs) h = (left_of P (g x) (flat_map g xs) h, of_flat P g xs (right_of P (g x) (flat_map g xs) h))

of_ranged : (s : ListSections) (a : ℕ) (own : Entry → Option (List Range)) (before es : List Entry) →
    AllOf (λ (r : Ranged). covers s r.entry.place a ≡ hold r.own a) (ranged_from own before es) →
    AllOf (λ (e : Entry). covers s e.place a ≡ hold (own e) a) es
of_ranged s a own before [] h = tt
of_ranged s a own before (e ∷ es) h = (h.0, of_ranged s a own (e ∷ before) es h.1)

-- An entry of a unit covers the addresses in its ranges.
abbrev pub Covered : ListSections → ℕ → Unit → Type 0
Covered s a u = AllOf (λ (e : Entry). covers s e.place a ≡ hold (ranges_of s u e) a) u.entries

pub all_covered : (s : ListSections) (a : ℕ) → IsFree (HasDwarfFault (unit_fault_places s.units)) → AllOf (Covered s a) (units s.units)
all_covered s a free =
    map_all (λ (u : Unit). AllOf (λ (r : Ranged). covers s r.entry.place a ≡ hold r.own a) (ranged_in s u)) (Covered s a)
    (λ u h. of_ranged s a (ranges_of s u) [] u.entries h) (units s.units)
    (of_flat (λ (r : Ranged). covers s r.entry.place a ≡ hold r.own a) (ranged_in s) (units s.units)
    (all_stand a 0 (ranged s) (are_above s free) (λ r. false) (λ r h. refl)))

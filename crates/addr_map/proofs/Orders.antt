-- Spans in another order.
use Rattle.std.proofs.Common.{◌≡◌, ◌≢◌, ◌<◌, ◌≤◌, ◌∙◌, ◌⊎◌, ℕ, zero, suc, true, false, List, [], ◌∷◌, Some}
use Rattle.std.proofs.Common.{None, inl, inr, map, length, get_or, arith, refl, sym, ap, ⊎_elim}
use Rattle.std.specs.Prelude.{◌==◌, AllPairs, IsPermutation}
use Rattle.std.specs.List.{Contains}
use Rattle.std.proofs.Math.ListN.{get_or-map}
use Rattle.std.proofs.lemmas.Bool.{cases_lt, cases_eq, eq-eqb, ne_eqb}
use Rattle.std.proofs.lemmas.Grind.{common_steps}
use Rattle.std.proofs.lemmas.List.{length-map, get_or_default}
use Rattle.std.proofs.lemmas.List.Elements.{Contains-get_or}
use Rattle.std.proofs.lemmas.List.Sorted.{IsPermutation-sym, Contains-permutation}
use Rattle.std.specs.List.Sorted.{IsNonDecreasingBy, IsSortedByKey}
use Rattle.std.specs.Cmp.{IsTotalOrder}
use Rattle.std.specs.Ordering.{nat_cmp, ordering_then, is_lt}
use Rattle.std.specs.declared.cmp.Ordering.{Ordering}
use Rattle.std.specs.declared.cmp.Ordering.TheVariants.{Less, Equal}
use Rattle.std.proofs.lemmas.Cmp.{then_total, on_total, nat_cmp_total}
use Rattle.std.proofs.lemmas.List.Sorted.{sorted_far, ranks_by}
use Rattle.addr_map.specs.internal.Columns.{IsAscending}
use Rattle.addr_map.specs.MapText.{AreInLineOrder, IsLineBefore}
use Rattle.addr_map.specs.internal.Orders.{AreApart, IsRising, moved_in}
use Rattle.addr_map.specs.Spans.{ShareNoByte, moved}
use Rattle.addr_map.specs.declared.span.Span.{Span}
use Rattle.addr_map.proofs.Lookups.{moved_parts}
use Rattle.rb_bytes.proofs.Permuted.{AllPairs-permutation}

pub apart_flip : (s t : Span) → AreApart s t → AreApart t s
apart_flip s t a e = a (sym e)

pub disjoint_flip : (s t : Span) → ShareNoByte s t → ShareNoByte t s
disjoint_flip s t a p x y = a p y x

-- A default span for indices past the end of a list.
none : Span
none = record { out = 0; len = 0; input = 0 }

out_at : (lines : List Span) (i : ℕ) → get_or (map (λ s. s.out) lines) i 0 ≡ (get_or lines i none).out
unfolding none
out_at lines i = get_or-map (λ (s : Span). s.out) lines i none

input_at : (lines : List Span) (i : ℕ) → get_or (map (λ s. s.input) lines) i 0 ≡ (get_or lines i none).input
unfolding none
input_at lines i = get_or-map (λ (s : Span). s.input) lines i none

no_later : (s t : Span) → IsLineBefore s t → s.out ≤ t.out
no_later s t (inl lt) = omega arith
no_later s t (inr (same, _)) = omega arith

-- The lines of a map ascend by new address.
pub lines_ascend : {spans lines : List Span} → AreInLineOrder spans lines → IsAscending (map (λ s. s.out) lines)
lines_ascend {spans} {lines} o i j le lt =
    let inside : j < length lines = omega (arith, length-map lines (λ s. s.out)) in
    rw (out_at lines i, out_at lines j) (⊎_elim
    (λ (below : i < j). no_later (get_or lines i none) (get_or lines j none) (o.ordered i j none below inside))
    (λ (least : j ≤ i). let same : i ≡ j = omega arith in rw same (omega arith))
    (cases_lt i j))

pub lines_disjoint : {spans lines : List Span} → AreInLineOrder spans lines → AllPairs ShareNoByte spans
    → AllPairs ShareNoByte lines
lines_disjoint {spans} {lines} o all = AllPairs-permutation ShareNoByte disjoint_flip spans lines o.same all

pub lines_apart : {spans lines : List Span} → AreInLineOrder spans lines → AllPairs AreApart spans → AllPairs AreApart lines
lines_apart {spans} {lines} o all = AllPairs-permutation AreApart apart_flip spans lines o.same all

-- The first span of an instruction in a list, and an instruction with no span.
moved_here : (xs : List Span) (a i : ℕ) (d : Span) → i < length xs → (get_or xs i d).input ≡ a
    → ((j : ℕ) → j < i → (get_or xs j d).input ≢ a)
    → moved xs a ≡ Some (get_or xs i d).out
moved_here [] a i d lt e before = absurd (omega arith)
moved_here (x ∷ xs) a zero d lt e before = let same : (x.input == a) ≡ true = eq-eqb x.input a e in rw same refl
moved_here (x ∷ xs) a (suc i) d lt e before =
    let other : (x.input == a) ≡ false = ne_eqb x.input a (before 0 (omega arith)) in
    rw other (moved_here xs a i d (omega arith) e (λ j less. before (suc j) (omega arith)))

moved_nowhere : (xs : List Span) (a : ℕ) (d : Span) → ((i : ℕ) → i < length xs → (get_or xs i d).input ≢ a) → moved xs a ≡ None
moved_nowhere [] a d no_span = refl
moved_nowhere (x ∷ xs) a d no_span =
    let other : (x.input == a) ≡ false = ne_eqb x.input a (no_span 0 (omega arith)) in
    rw other (moved_nowhere xs a d (λ i lt. no_span (suc i) (omega arith)))

somewhere : (xs : List Span) (a : ℕ) (d : Span)
    → ((i : ℕ) × (i < length xs) × ((get_or xs i d).input ≡ a)) ⊎ ((i : ℕ) → i < length xs → (get_or xs i d).input ≢ a)
somewhere [] a d = inr (λ i lt e. absurd (omega arith))
somewhere (x ∷ xs) a d = ⊎_elim
    (λ (same : x.input ≡ a). inl (0, omega arith, same))
    (λ (other : x.input ≢ a). later other (somewhere xs a d))
    (cases_eq x.input a)
  where
    later : x.input ≢ a
        → ((i : ℕ) × (i < length xs) × ((get_or xs i d).input ≡ a)) ⊎ ((i : ℕ) → i < length xs → (get_or xs i d).input ≢ a)
        → ((i : ℕ) × (i < length (x ∷ xs)) × ((get_or (x ∷ xs) i d).input ≡ a))
        ⊎ ((i : ℕ) → i < length (x ∷ xs) → (get_or (x ∷ xs) i d).input ≢ a)
    later other (inl (i, lt, e)) = inl (suc i, omega arith, e)
    later other (inr no_span) = inr (λ i lt. not_at other no_span i lt)
      where
        not_at : x.input ≢ a → ((i : ℕ) → i < length xs → (get_or xs i d).input ≢ a) → (i : ℕ) → i < length (x ∷ xs)
            → (get_or (x ∷ xs) i d).input ≢ a
        not_at other no_span zero lt = other
        not_at other no_span (suc i) lt = no_span i (omega arith)

moved_once : (xs : List Span) (a i : ℕ) (d : Span) → AllPairs AreApart xs → i < length xs → (get_or xs i d).input ≡ a
    → moved xs a ≡ Some (get_or xs i d).out
moved_once xs a i d once lt e = moved_here xs a i d lt e (λ j less f. once j i d less lt (f ∙ sym e))

-- The new address of an instruction is the same for any order of the spans.
pub moved_permutation : (xs ys : List Span) (a : ℕ) → IsPermutation xs ys → AllPairs AreApart xs → AllPairs AreApart ys
    → moved xs a ≡ moved ys a
moved_permutation xs ys a p once_x once_y = settle (somewhere xs a none)
  where
    settle : ((i : ℕ) × (i < length xs) × ((get_or xs i none).input ≡ a)) ⊎
        ((i : ℕ) → i < length xs → (get_or xs i none).input ≢ a)
        → moved xs a ≡ moved ys a
    settle (inl (i, lt, e)) =
        let s = get_or xs i none in
        let there : Contains ys s = Contains-permutation xs ys s p (Contains-get_or xs i none lt) in
        let at : get_or ys there.0 none ≡ s = get_or_default ys there.0 none s there.1 ∙ there.2 in
        moved_once xs a i none once_x lt e
        ∙ sym (moved_once ys a there.0 none once_y there.1 (ap (λ t. t.input) at ∙ e) ∙ ap (λ t. Some t.out) at)
    settle (inr no_span) =
        moved_nowhere xs a none no_span
        ∙ sym (moved_nowhere ys a none (λ k lt e.
        let t = get_or ys k none in
        let there : Contains xs t = Contains-permutation ys xs t (IsPermutation-sym xs ys p) (Contains-get_or ys k none lt) in
        let at : get_or xs there.0 none ≡ t = get_or_default xs there.0 none t there.1 ∙ there.2 in
        no_span there.0 there.1 (ap (λ t. t.input) at ∙ e)))

-- Columns ordered by old address give the same results as the spans.
pub moved_columns : {spans sorted : List Span} {inputs outs : List ℕ} (a : ℕ) → AllPairs AreApart spans
    → IsPermutation spans sorted → inputs ≡ map (λ s. s.input) sorted → outs ≡ map (λ s. s.out) sorted
    → moved_in inputs outs a ≡ moved spans a
moved_columns {spans} {sorted} a once p e f =
    let once_sorted = AllPairs-permutation AreApart apart_flip spans sorted p once in
    rw (e, f) (moved_parts sorted a ∙ sym (moved_permutation spans sorted a p once once_sorted))

-- Sorted by old address.
pub rising_inputs : (xs : List Span) → IsNonDecreasingBy (λ s. s.input) xs → AllPairs AreApart xs
    → IsRising (map (λ s. s.input) xs)
rising_inputs xs up once i j lt inside =
    let inside_xs : j < length xs = omega (arith, length-map xs (λ s. s.input)) in
    let le : (get_or xs i none).input ≤ (get_or xs j none).input = up i j none (omega arith) inside_xs in
    let ne : (get_or xs i none).input ≢ (get_or xs j none).input = once i j none lt inside_xs in
    rw (input_at xs i, input_at xs j) (omega arith)

-- Sorted by line.
abbrev pub line_key : Span → ℕ × ℕ × ℕ
line_key s = (s.out, s.len, s.input)

abbrev pub line_cmp : ℕ × ℕ × ℕ → ℕ × ℕ × ℕ → Ordering
line_cmp x y = ordering_then (ordering_then (nat_cmp x.0 y.0) (nat_cmp x.1 y.1)) (nat_cmp x.2 y.2)

line_cmp_total : IsTotalOrder line_cmp
line_cmp_total =
    then_total (then_total (on_total (λ (k : ℕ × ℕ × ℕ). k.0) nat_cmp_total) (on_total (λ (k : ℕ × ℕ × ℕ). k.1) nat_cmp_total))
    (on_total (λ (k : ℕ × ℕ × ℕ). k.2) nat_cmp_total)

less : (a b : ℕ) → a < b → nat_cmp a b ≡ Less
less a b lt = grind (arith, common_steps)

equal : (a b : ℕ) → a ≡ b → nat_cmp a b ≡ Equal
equal a b e = grind (arith, common_steps)

first_part : (x y : ℕ × ℕ × ℕ) → is_lt (line_cmp x y) ≡ false → y.0 ≤ x.0
first_part x y h = ⊎_elim
    (λ (lt : x.0 < y.0). let l = less x.0 y.0 lt in absurd (differ (rw l at h)))
    (λ (le : y.0 ≤ x.0). le)
    (cases_lt x.0 y.0)
  where
    differ : true ≡ false → ⊥
    differ e = cc

second_part : (x y : ℕ × ℕ × ℕ) → is_lt (line_cmp x y) ≡ false → x.0 ≡ y.0 → y.1 ≤ x.1
second_part x y h e = ⊎_elim
    (λ (lt : x.1 < y.1). let k = equal x.0 y.0 e in let l = less x.1 y.1 lt in absurd (differ (rw (k, l) at h)))
    (λ (le : y.1 ≤ x.1). le)
    (cases_lt x.1 y.1)
  where
    differ : true ≡ false → ⊥
    differ e = cc

third_part : (x y : ℕ × ℕ × ℕ) → is_lt (line_cmp x y) ≡ false → x.0 ≡ y.0 → x.1 ≡ y.1 → y.2 ≤ x.2
third_part x y h e f = ⊎_elim
    (λ (lt : x.2 < y.2).
    let k = equal x.0 y.0 e in let m = equal x.1 y.1 f in let l = less x.2 y.2 lt in absurd (differ (rw (k, m, l) at h)))
    (λ (le : y.2 ≤ x.2). le)
    (cases_lt x.2 y.2)
  where
    differ : true ≡ false → ⊥
    differ e = cc

-- Two neighbouring spans of a sorted map are in the order of their lines.
before : (s t : Span) → is_lt (line_cmp (line_key t) (line_key s)) ≡ false → AreApart s t → ShareNoByte s t → IsLineBefore s t
before s t h apart disjoint =
    let low = first_part (line_key t) (line_key s) h in
    ⊎_elim
    (λ (lt : s.out < t.out). inl lt)
    (λ (le : t.out ≤ s.out).
    let same : t.out ≡ s.out = omega arith in
    let shorter = second_part (line_key t) (line_key s) h same in
    let one_empty : s.len ≡ 0 = ⊎_elim
    (λ (e : s.len ≡ 0). e)
    (λ (ne : s.len ≢ 0). absurd (disjoint s.out (grind (arith, common_steps)) (grind (arith, common_steps))))
    (cases_eq s.len 0) in
    inr (
      sym same,
      (
        one_empty,
        ⊎_elim
            (λ (none : t.len ≡ 0).
            let later = third_part (line_key t) (line_key s) h same (none ∙ sym one_empty) in
            inr (none, omega (arith, later, apart)))
            (λ (some : t.len ≢ 0). inl (omega arith))
            (cases_eq t.len 0),
      ),
    ))
    (cases_lt s.out t.out)

pub line_order : (xs : List Span) → IsSortedByKey line_key line_cmp xs → AllPairs AreApart xs → AllPairs ShareNoByte xs
    → AllPairs IsLineBefore xs
line_order xs up once disjoint i j d lt inside =
    before (get_or xs i d) (get_or xs j d)
    (sorted_far (λ x y. is_lt (line_cmp (line_key x) (line_key y))) (ranks_by line_cmp_total line_key) xs up i j d
    (omega arith) inside)
    (once i j d lt inside) (disjoint i j d lt inside)

-- Spans are a map of a program's code exactly if there is no bad place.
use Rattle.std.proofs.Common.{◌≡◌, ◌≢◌, ◌<◌, ◌≤◌, ◌%◌, ◌∙◌, ℕ, Bool, true, false, List, length, get_or, arith, refl, ap, sym, subst, cond}
use Rattle.std.proofs.Common.{inl, inr, ⊎_elim, All, IsTrue}
use Rattle.std.specs.Prelude.{AllPairs, Any}
use Rattle.std.specs.List.{count_by}
use Rattle.std.proofs.lemmas.List.{get_or_default}
use Rattle.std.proofs.lemmas.Bool.{cases_eq, cases_lt, eq-eqb, eqb-true}
use Rattle.rv_code.specs.layout.ProgramCode.{ProgramCode, is_code_address, IsNamed}
use Rattle.addr_map.specs.declared.span.Span.{Span}
use Rattle.addr_map.specs.Spans.{is_of, IsPlaced, ShareNoByte, IsMap}
use Rattle.map_check.specs.BadSpans.{IsBadSpan}
use Rattle.map_check.proofs.SpanCounts.{counted, counted_twice, any_counted, at_most_one, none_counted}

no_zero : (s : Span) → s.len ≢ 0 → IsPlaced s → s.out ≤ 0 → ⊥
no_zero s some (inl none) low = some none
no_zero s some (inr is) low = let above : 0 < s.out = is.1 in omega arith

no_odd : (s : Span) → s.len ≢ 0 → IsPlaced s → s.out % 2 ≢ 0 → ⊥
no_odd s some (inl none) odd = some none
no_odd s some (inr is) odd = odd is.0

placed_stable : (s : Span) → ((IsPlaced s → ⊥) → ⊥) → IsPlaced s
placed_stable s stable = ⊎_elim
    (λ (none : s.len ≡ 0). inl none)
    (λ (some : s.len ≢ 0). ⊎_elim
    (λ (even : s.out % 2 ≡ 0). ⊎_elim
    (λ (above : 0 < s.out). inr (even, above))
    (λ (low : s.out ≤ 0). absurd (stable (λ is. no_zero s some is low)))
    (cases_lt 0 s.out))
    (λ (odd : s.out % 2 ≢ 0). absurd (stable (λ is. no_odd s some is odd)))
    (cases_eq (s.out % 2) 0))
    (cases_eq s.len 0)

number_stable : (m n : ℕ) → ((m ≢ n) → ⊥) → m ≡ n
number_stable m n stable = ⊎_elim (λ (same : m ≡ n). same) (λ (other : m ≢ n). absurd (stable other)) (cases_eq m n)

module _ (code : ProgramCode) (spans : List Span) where
  abbrev count_of : ℕ → ℕ
  count_of a = count_by (is_of a) spans

  abbrev wanted : ℕ → ℕ
  wanted a = cond (is_code_address code.funcs a) 1 0

  -- If there is no bad place, the spans are a map.
  module _ (none : (a : ℕ) → IsBadSpan code spans a → ⊥) where
    counts : (a : ℕ) → count_of a ≡ wanted a
    counts a = number_stable (count_of a) (wanted a) (λ other. none a (inl other))

    is_code : (k : ℕ) (d : Span) → k < length spans → IsTrue (is_code_address code.funcs (get_or spans k d).input)
    is_code k d within =
        let a = (get_or spans k d).input in
        let some = counted (is_of a) spans k d within (eq-eqb a a refl) in
        by (is_code_address code.funcs a) refl (counts a) some
      where
        by : (b : Bool) → is_code_address code.funcs (get_or spans k d).input ≡ b
            → count_of (get_or spans k d).input ≡ wanted (get_or spans k d).input
            → 0 < count_of (get_or spans k d).input → b ≡ true
        by true is same some = refl
        by false is same some =
            let e = same ∙ ap (λ b. cond b 1 0) is in absurd (omega (arith, e, some))

    each : (a : ℕ) → IsTrue (is_code_address code.funcs a) → Any (λ s. s.input ≡ a) spans
    each a is =
        let e = counts a ∙ ap (λ b. cond b 1 0) is in
        let found = any_counted (is_of a) spans (omega (arith, e)) in
        (found.0, found.1, found.2, found.3, eqb-true (found.1).input a found.4)

    once : AllPairs (λ s t. s.input ≢ t.input) spans
    once i j d less within same =
        let a = (get_or spans i d).input in
        let other : (get_or spans j d).input ≡ a = sym same in
        let inside : i < length spans = omega arith in
        let two = counted_twice (is_of a) spans i j d less within (eq-eqb a a refl) (eq-eqb (get_or spans j d).input a other) in
        let e = counts a ∙ ap (λ b. cond b 1 0) (is_code i d inside) in
        omega (arith, two, e)

    placed : All IsPlaced spans
    placed k d within =
        placed_stable (get_or spans k d)
        (λ wrong. none (get_or spans k d).input (inr (inl (λ all. wrong (all k d within refl)))))

    disjoint : AllPairs ShareNoByte spans
    disjoint i j d less within p in_s in_t =
        none (get_or spans i d).input (inr (inr (inl (λ pairs. pairs i j d less within (inl refl) p in_s in_t))))

    named : (a : ℕ) → IsNamed code a → Any (λ s. (s.input ≡ a) × (0 < s.len)) spans
    named a is =
        let found = each a is.code_address in
        ⊎_elim
        (λ (some : 0 < (found.1).len). (found.0, found.1, found.2, found.3, (found.4, some)))
        (λ (empty : (found.1).len ≤ 0). absurd (none a (inr (inr (inr (
          is,
          λ all.
              let at : (get_or spans found.0 found.1).input ≡ a = ap (λ (s : Span). s.input) found.3 ∙ found.4 in
              let has = all found.0 found.1 found.2 at in
              let same = ap (λ (s : Span). s.len) found.3 in
              omega (arith, has, same, empty),
        ))))))
        (cases_lt 0 (found.1).len)

    pub map_from_none : IsMap (λ a. IsTrue (is_code_address code.funcs a)) (IsNamed code) spans
    map_from_none = record {
      each = each;
      only = is_code;
      once = once;
      placed = placed;
      disjoint = disjoint;
      named = named;
    }

  -- A map has no bad place.
  module _ (is : IsMap (λ a. IsTrue (is_code_address code.funcs a)) (IsNamed code) spans) where
    alone : (a : ℕ) → count_of a ≤ 1
    alone a = at_most_one (is_of a) spans (λ i j d less within one other.
        is.once i j d less within (eqb-true (get_or spans i d).input a one ∙ sym (eqb-true (get_or spans j d).input a other)))

    counted_well : (a : ℕ) → count_of a ≡ wanted a
    counted_well a = by (is_code_address code.funcs a) refl
      where
        by : (b : Bool) → is_code_address code.funcs a ≡ b → count_of a ≡ cond b 1 0
        by true code_here =
            let found = is.each a code_here in
            let here : (get_or spans found.0 found.1).input ≡ a = ap (λ (s : Span). s.input) found.3 ∙ found.4 in
            let some = counted (is_of a) spans found.0 found.1 found.2 (eq-eqb (get_or spans found.0 found.1).input a here) in
            let most = alone a in omega (arith, some, most)
        by false other = none_counted (is_of a) spans (λ k d within here.
            let at : (get_or spans k d).input ≡ a = eqb-true (get_or spans k d).input a here in
            let yes_it : is_code_address code.funcs a ≡ true =
            subst (λ (b : ℕ). is_code_address code.funcs b ≡ true) at (is.only k d within) in
            let never : false ≡ true = sym other ∙ yes_it in cc)

    pub no_bad_span : (a : ℕ) → IsBadSpan code spans a → ⊥
    no_bad_span a (inl wrong) = wrong (counted_well a)
    no_bad_span a (inr (inl wrong)) = wrong (λ k d within at. is.placed k d within)
    no_bad_span a (inr (inr (inl wrong))) = wrong (λ i j d less within one. is.disjoint i j d less within)
    no_bad_span a (inr (inr (inr wrong))) =
        let found = is.named a wrong.0 in
        let unique = is.once in
        wrong.1 (λ k d within at.
        ⊎_elim
        (λ (same : k ≡ found.0).
        let here : get_or spans k d ≡ found.1 = ap (λ (i : ℕ). get_or spans i d) same ∙ get_or_default spans found.0 d found.1 found.2 ∙
        found.3 in
        let len = ap (λ (s : Span). s.len) here in
        let has : 0 < (found.1).len = (found.4).1 in
        omega (arith, len, has))
        (λ (apart : k ≢ found.0).
        let there : get_or spans found.0 d ≡ found.1 = get_or_default spans found.0 d found.1 found.2 ∙ found.3 in
        let there_at : (get_or spans found.0 d).input ≡ a = ap (λ (s : Span). s.input) there ∙ (found.4).0 in
        absurd (⊎_elim
        (λ (less : k < found.0). unique k found.0 d less found.2 (at ∙ sym there_at))
        (λ (more : found.0 ≤ k). let less : found.0 < k = omega arith in unique found.0 k d less within (there_at ∙ sym at))
        (cases_lt k found.0)))
        (cases_eq k found.0))

-- Sorted spans compared with ascending addresses: the first difference is the lowest address that doesn't have the number of spans that it
-- should have.
use Rattle.std.proofs.Common.{◌≡◌, ◌≢◌, ◌<◌, ◌≤◌, ◌+◌, ◌∙◌, ℕ, suc, Bool, true, false, List, [], ◌∷◌, ◌++◌, length, get_or, arith, refl, ap}
use Rattle.std.proofs.Common.{sym, subst, cond}
use Rattle.std.proofs.Common.{inl, inr, ⊎_elim, Option, Some, None, IfSome, IsSomeAnd, All, map, min, find, is_some, rules}
use Rattle.std.specs.Prelude.{◌==◌, ◌||◌}
use Rattle.std.specs.List.{count_by, list_any}
use Rattle.std.specs.List.Sorted.{IsNonDecreasingBy}
use Rattle.std.proofs.lemmas.List.{map-append}
use Rattle.elf_image.specs.faults.LowestPlace.{IsLowest}
use Rattle.map_check.specs.BadSpans.{IsMiscounted}
use Rattle.std.proofs.Common.{◌⊎◌}
use Rattle.std.proofs.lemmas.Bool.{cases_eq, cases_lt, eq-eqb, ne_eqb, eqb-true}
use Rattle.rv_code.specs.declared.placed.Placed.{Placed}
use Rattle.rv_code.specs.declared.placed.Func.{Func}
use Rattle.rv_code.specs.layout.ProgramCode.{is_code_address}
use Rattle.rv_code.specs.layout.Flow.{insts_of}
use Rattle.rv_code.specs.layout.FunctionLists.{AreLaidOut, Follow, HasLength}
use Rattle.addr_map.specs.declared.span.Span.{Span}
use Rattle.addr_map.specs.Spans.{is_of}
use Rattle.map_check.specs.internal.SpanLists.{first_difference, addresses}
use Rattle.map_check.proofs.SpanCounts.{count-yes, count-no}

-- spans in order of their inputs, the first of which is at least `low`
Rises : ℕ → List Span → Type 0
Rises low [] = Unit {0}
Rises low (s ∷ spans) = (low ≤ s.input) × Rises s.input spans

-- ascending addresses, the first of which is at least `low`
Climbs : ℕ → List ℕ → Type 0
Climbs low [] = Unit {0}
Climbs low (a ∷ bs) = (low ≤ a) × Climbs (a + 1) bs

abbrev one_if : Bool → ℕ
one_if b = cond b 1 0

abbrev is_in : ℕ → List ℕ → Bool
is_in a bs = list_any (λ b. b == a) bs

none_below : (low a : ℕ) (spans : List Span) → Rises low spans → a < low → count_by (is_of a) spans ≡ 0
unfolding Rises
none_below low a [] rises below = refl
none_below low a (s ∷ spans) rises below =
    let from : low ≤ s.input = rises.0 in
    count-no (is_of a) s spans (ne_eqb s.input a (λ e. omega (arith, e)))
    ∙ none_below s.input a spans rises.1 (omega arith)

not_in : (low a : ℕ) (bs : List ℕ) → Climbs low bs → a < low → is_in a bs ≡ false
unfolding Climbs
not_in low a [] climbs below = refl
not_in low a (b ∷ bs) climbs below =
    let from : low ≤ b = climbs.0 in
    ap (λ t. t || is_in a bs) (ne_eqb b a (λ e. omega (arith, e))) ∙ not_in (b + 1) a bs climbs.1 (omega arith)

-- The meaning of the first difference of spans and addresses.
pub record IsFirstOf (spans : List Span) (bs : List ℕ) (o : Option ℕ) : Type 0 where
  pub differs : IfSome o (λ p. count_by (is_of p) spans ≢ one_if (is_in p bs))
  pub same : (a : ℕ) → (IsSomeAnd o (λ p. p ≤ a) → ⊥) → count_by (is_of a) spans ≡ one_if (is_in a bs)

in_cons : (a b : ℕ) (bs : List ℕ) (t : Bool) → (b == a) ≡ t → one_if (is_in a (b ∷ bs)) ≡ one_if (t || is_in a bs)
in_cons a b bs t is = ap (λ u. one_if (u || is_in a bs)) is

-- a pair of a span and an address that are equal is added
first_same : (s : Span) (b : ℕ) (spans : List Span) (bs : List ℕ) (o : Option ℕ) → s.input ≡ b → Climbs (b + 1) bs →
    IsFirstOf spans bs o → IsFirstOf (s ∷ spans) (b ∷ bs) o
first_same s b spans bs o at climbs is = record { differs = differs o is.differs; same = same }
  where
    here : (a : ℕ) → a ≡ b → (is_of a s ≡ true) × ((b == a) ≡ true) × (is_in a bs ≡ false)
    here a e = (eq-eqb s.input a (at ∙ sym e), eq-eqb b a (sym e), not_in (b + 1) a bs climbs (omega (arith, e)))

    there : (a : ℕ) → a ≢ b → (is_of a s ≡ false) × ((b == a) ≡ false)
    there a ne = (ne_eqb s.input a (λ e. ne (sym e ∙ at)), ne_eqb b a (λ e. ne (sym e)))

    differs : (o : Option ℕ) → IfSome o (λ p. count_by (is_of p) spans ≢ one_if (is_in p bs)) →
        IfSome o (λ p. count_by (is_of p) (s ∷ spans) ≢ one_if (is_in p (b ∷ bs)))
    differs None d = search rules
    differs (Some p) d = λ e. ⊎_elim
        (λ (at_b : p ≡ b).
        let h = here p at_b in
        let left = count-yes (is_of p) s spans h.0 in
        let right = in_cons p b bs true h.1 in
        let rest : one_if (is_in p bs) ≡ 0 = ap one_if h.2 in
        let none : count_by (is_of p) spans ≡ 0 = omega (arith, left, right, e) in
        d (none ∙ sym rest))
        (λ (apart : p ≢ b).
        let h = there p apart in
        let left = count-no (is_of p) s spans h.0 in
        let right = in_cons p b bs false h.1 in
        d (sym left ∙ e ∙ right))
        (cases_eq p b)

    same : (a : ℕ) → (IsSomeAnd o (λ p. p ≤ a) → ⊥) → count_by (is_of a) (s ∷ spans) ≡ one_if (is_in a (b ∷ bs))
    same a below = ⊎_elim
        (λ (at_b : a ≡ b).
        let h = here a at_b in
        let left = count-yes (is_of a) s spans h.0 in
        let rest = is.same a below ∙ ap one_if h.2 in
        left ∙ ap suc rest ∙ sym (in_cons a b bs true h.1))
        (λ (apart : a ≢ b).
        let h = there a apart in
        count-no (is_of a) s spans h.0 ∙ is.same a below ∙ sym (in_cons a b bs false h.1))
        (cases_eq a b)

-- the first span is below all addresses, or the first address is below all spans
first_span : (s : Span) (spans : List Span) (bs : List ℕ) → Rises s.input spans → Climbs (s.input + 1) bs →
    IsFirstOf (s ∷ spans) bs (Some s.input)
first_span s spans bs rises climbs = record {
  differs = λ e.
      let one = count-yes (is_of s.input) s spans (eq-eqb s.input s.input refl) in
      let none = ap one_if (not_in (s.input + 1) s.input bs climbs (omega arith)) in
      omega (arith, one, none, e);
  same = λ a below.
      let less : a < s.input = not_le s.input a below in
      count-no (is_of a) s spans (ne_eqb s.input a (λ e. omega (arith, e, less)))
      ∙ none_below s.input a spans rises less ∙ sym (ap one_if (not_in (s.input + 1) a bs climbs (omega arith)));
}
  where
    not_le : (m a : ℕ) → (m ≤ a → ⊥) → a < m
    not_le m a no_it = ⊎_elim (λ (less : a < m). less) (λ (more : m ≤ a). absurd (no_it more)) (cases_lt a m)

first_address : (b : ℕ) (spans : List Span) (bs : List ℕ) → Rises (b + 1) spans → Climbs (b + 1) bs →
    IsFirstOf spans (b ∷ bs) (Some b)
first_address b spans bs rises climbs = record {
  differs = λ e.
      let none = none_below (b + 1) b spans rises (omega arith) in
      let one = in_cons b b bs true (eq-eqb b b refl) in
      omega (arith, one, none, e);
  same = λ a below.
      let less : a < b = not_le b a below in
      none_below (b + 1) a spans rises (omega arith)
      ∙ sym (in_cons a b bs false (ne_eqb b a (λ e. omega (arith, e, less)))
      ∙ ap one_if (not_in (b + 1) a bs climbs (omega arith)));
}
  where
    not_le : (m a : ℕ) → (m ≤ a → ⊥) → a < m
    not_le m a no_it = ⊎_elim (λ (less : a < m). less) (λ (more : m ≤ a). absurd (no_it more)) (cases_lt a m)

Climbs-from : (low more : ℕ) (bs : List ℕ) → low ≤ more → Climbs more bs → Climbs low bs
unfolding Climbs
Climbs-from low more [] le climbs = tt
Climbs-from low more (a ∷ bs) le climbs = let from : more ≤ a = climbs.0 in (omega arith, climbs.1)

difference_is : (low high : ℕ) (spans : List Span) (bs : List ℕ) → Rises low spans → Climbs high bs →
    IsFirstOf spans bs (first_difference spans bs)
unfolding Rises Climbs
difference_is low high [] [] rises climbs = record { differs = search rules; same = λ a below. refl }
difference_is low high [] (b ∷ bs) rises climbs = first_address b [] bs tt climbs.1
difference_is low high (s ∷ spans) [] rises climbs = first_span s spans [] rises.1 tt
difference_is low high (s ∷ spans) (b ∷ bs) rises climbs =
    by (s.input == b) refl (difference_is s.input (b + 1) spans bs rises.1 climbs.1)
  where
    by : (t : Bool) → (s.input == b) ≡ t → IsFirstOf spans bs (first_difference spans bs) →
        IsFirstOf (s ∷ spans) (b ∷ bs) (cond t (first_difference spans bs) (Some (min s.input b)))
    by true at rest = first_same s b spans bs (first_difference spans bs) (eqb-true s.input b at) climbs.1 rest
    by false other rest = ⊎_elim
        (λ (less : s.input < b).
        let least : s.input ≡ min s.input b = omega arith in
        subst (λ (m : ℕ). IsFirstOf (s ∷ spans) (b ∷ bs) (Some m)) least
        (first_span s spans (b ∷ bs) rises.1 (omega arith, climbs.1)))
        (λ (more : b ≤ s.input).
        let least : b ≡ min s.input b = omega arith in
        let apart : b ≢ s.input = λ e. (let is : (s.input == b) ≡ true = eq-eqb s.input b (sym e) in cc) in
        let above : b + 1 ≤ s.input = beyond b s.input more apart in
        subst (λ (m : ℕ). IsFirstOf (s ∷ spans) (b ∷ bs) (Some m)) least
        (first_address b (s ∷ spans) bs (above, rises.1) climbs.1))
        (cases_lt s.input b)
      where
        beyond : (b a : ℕ) → b ≤ a → b ≢ a → b + 1 ≤ a
        beyond b a le ne = ⊎_elim (λ (less : b < a). omega arith) (λ (more : a ≤ b). absurd (ne (omega arith))) (cases_lt b a)

-- Sorted spans, and functions that don't overlap.

rises_from : (low : ℕ) (spans : List Span) → IsNonDecreasingBy (λ s. s.input) spans →
    ((d : Span) → 0 < length spans → low ≤ (get_or spans 0 d).input) → Rises low spans
unfolding Rises
rises_from low [] sorted from = tt
rises_from low (s ∷ spans) sorted from = (
  from s (omega arith),
  rises_from s.input spans (λ i j d le lt. sorted (suc i) (suc j) d (omega arith) (omega arith))
      (λ d some. sorted 0 1 d (omega arith) (omega arith)),
)

climbs_follow : (a : ℕ) (ps : List Placed) (end : ℕ) (rest : List ℕ) → Follow a ps end → All HasLength ps → Climbs end rest →
    Climbs a (map (λ p. p.addr) ps ++ rest)
unfolding Climbs
climbs_follow a [] end rest follow lengths more = subst (λ (b : ℕ). Climbs b rest) (sym follow) more
climbs_follow a (p ∷ ps) end rest follow lengths more =
    let at : p.addr ≡ a = follow.0 in
    let len : p.addr + 1 ≤ a + p.len = longer p (lengths 0 p (omega arith)) at in (
      omega arith,
      Climbs-from (p.addr + 1) (a + p.len) (map (λ q. q.addr) ps ++ rest) len
          (climbs_follow (a + p.len) ps end rest follow.1 (λ k d within. lengths (suc k) d (omega arith)) more),
    )
  where
    longer : (p : Placed) → HasLength p → p.addr ≡ a → p.addr + 1 ≤ a + p.len
    longer p (inl two) at = omega arith
    longer p (inr four) at = omega arith

climbs_funcs : (low : ℕ) (funcs : List Func) → AreLaidOut funcs → ((d : Func) → 0 < length funcs → low ≤ (get_or funcs 0 d).start) →
    Climbs low (addresses funcs)
unfolding Climbs
climbs_funcs low [] laid from = tt
climbs_funcs low (f ∷ fs) laid from =
    let first = laid.each 0 f (omega arith) in
    let rest : Climbs f.end (addresses fs) = climbs_funcs f.end fs (record {
      each = λ k d within. laid.each (suc k) d (omega arith);
      apart = λ i j d less within. laid.apart (suc i) (suc j) d (omega arith) (omega arith);
      low = λ k d within. laid.low (suc k) d (omega arith);
    }) (λ d some. laid.apart 0 1 d (omega arith) (omega arith)) in
    let all = climbs_follow f.start f.insts.items f.end (addresses fs) first.follow first.lengths rest in
    Climbs-from low f.start (addresses (f ∷ fs)) (from f (omega arith))
    (subst (Climbs f.start) (sym (map-append (λ (p : Placed). p.addr) f.insts.items (insts_of fs))) all)

-- an instruction starts at an address exactly if it is among the addresses
code_is_in : (a : ℕ) (ps : List Placed) → is_some (find (λ p. p.addr == a) ps) ≡ is_in a (map (λ p. p.addr) ps)
code_is_in a [] = refl
code_is_in a (p ∷ ps) = by (p.addr == a) (code_is_in a ps)
  where
    by : (t : Bool) → is_some (find (λ q. q.addr == a) ps) ≡ is_in a (map (λ q. q.addr) ps) →
        is_some (cond t (Some p) (find (λ q. q.addr == a) ps)) ≡ (t || is_in a (map (λ q. q.addr) ps))
    by true rest = refl
    by false rest = rest

pub first_difference_is : (spans : List Span) (funcs : List Func) → IsNonDecreasingBy (λ s. s.input) spans → AreLaidOut funcs →
    IsFirstOf spans (addresses funcs) (first_difference spans (addresses funcs))
first_difference_is spans funcs sorted laid =
    difference_is 0 0 spans (addresses funcs) (rises_from 0 spans sorted (λ d some. omega arith))
    (climbs_funcs 0 funcs laid (λ d some. omega arith))

pub wanted_is : (a : ℕ) (funcs : List Func) → one_if (is_in a (addresses funcs)) ≡ one_if (is_code_address funcs a)
wanted_is a funcs = ap one_if (sym (code_is_in a (insts_of funcs)))

at_or_not : (o : Option ℕ) (a : ℕ) → IsSomeAnd o (λ p. p ≤ a) ⊎ (IsSomeAnd o (λ p. p ≤ a) → ⊥)
at_or_not None a = inr (λ none. none)
at_or_not (Some p) a = ⊎_elim (λ (above : a < p). inr (λ (le : p ≤ a). omega arith)) (λ (le : p ≤ a). inl le) (cases_lt a p)

miscounted_here : (funcs : List Func) (spans : List Span) (o : Option ℕ) →
    IfSome o (λ p. count_by (is_of p) spans ≢ one_if (is_in p (addresses funcs))) → IfSome o (IsMiscounted funcs spans)
miscounted_here funcs spans None differs = search rules
miscounted_here funcs spans (Some p) differs = λ same. differs (same ∙ sym (wanted_is p funcs))

pub miscounted_lowest : (funcs : List Func) (spans : List Span) (o : Option ℕ) → IsNonDecreasingBy (λ s. s.input) spans →
    AreLaidOut funcs → o ≡ first_difference spans (addresses funcs) → IsLowest (IsMiscounted funcs spans) o
miscounted_lowest funcs spans o sorted laid is =
    let first = subst (IsFirstOf spans (addresses funcs)) (sym is) (first_difference_is spans funcs sorted laid) in
    record {
      present = miscounted_here funcs spans o first.differs;
      least = λ a wrong. ⊎_elim
          (λ (at : IsSomeAnd o (λ p. p ≤ a)). at)
          (λ (below : IsSomeAnd o (λ p. p ≤ a) → ⊥). absurd (wrong (first.same a below ∙ wanted_is a funcs)))
          (at_or_not o a);
    }

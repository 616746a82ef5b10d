-- If all inputs differ, a look-up gives the same span in every order of the spans.
use Rattle.std.proofs.Common.{◌≡◌, ◌≢◌, ◌∙◌, ℕ, suc, zero, Bool, true, false, List, [], ◌∷◌, All, get_or, arith, refl, ap, sym, cond}
use Rattle.std.proofs.Common.{Option, Some, None, find}
use Rattle.std.specs.Prelude.{AllPairs, ◌==◌}
use Rattle.std.specs.List.Sorted.{IsPermutation}
use Rattle.std.proofs.lemmas.Bool.{eqb-true, eq-eqb, ne_eqb}
use Rattle.std.proofs.lemmas.List.Elements.{All-nil, All-cons, All-head, All-tail}
use Rattle.std.proofs.lemmas.List.Sorted.{All-permutation}
use Rattle.addr_map.specs.declared.span.Span.{Span}
use Rattle.addr_map.specs.Spans.{is_of}

module _ (a : ℕ) where
  only : Span → Span → Type 0
  only s t = t.input ≡ a → t ≡ s

  other : Span → Type 0
  other t = t.input ≢ a

  apart : (x t : Span) → x.input ≡ a → x.input ≢ t.input → t.input ≢ a
  apart x t here differ at = differ (here ∙ sym at)

  tails : (x : Span) (xs : List Span) → x.input ≡ a → AllPairs (λ s t. s.input ≢ t.input) (x ∷ xs) → All other xs
  unfolding other
  tails x xs here once k d within = apart x (get_or xs k d) here (once zero (suc k) d (omega arith) (omega arith))

  less : (x : Span) (xs : List Span) → AllPairs (λ s t. s.input ≢ t.input) (x ∷ xs) → AllPairs (λ s t. s.input ≢ t.input) xs
  less x xs once i j d below within = once (suc i) (suc j) d (omega arith) (omega arith)

  no_other : (xs : List Span) → All other xs → find (is_of a) xs ≡ None
  unfolding other
  no_other [] all = refl
  no_other (x ∷ xs) all =
      ap (λ t. cond t (Some x) (find (is_of a) xs)) (ne_eqb x.input a (All-head other x xs all))
      ∙ no_other xs (All-tail other x xs all)

  finds_of : (xs : List Span) → find (is_of a) xs ≡ None → All other xs
  unfolding other
  finds_of [] none = All-nil other
  finds_of (x ∷ xs) none = by (x.input == a) refl none (finds_of xs)
    where
      by : (t : Bool) → (x.input == a) ≡ t → cond t (Some x) (find (is_of a) xs) ≡ None →
          (find (is_of a) xs ≡ None → All other xs) → All other (x ∷ xs)
      by true is found rest = absurd (cc)
      by false is found rest = All-cons other x xs (λ at. let yes = eq-eqb x.input a at in absurd (cc)) (rest found)

  -- the span that is looked up is the only one with its input
  only_one : (xs : List Span) (s : Span) → AllPairs (λ s t. s.input ≢ t.input) xs → find (is_of a) xs ≡ Some s → All (only s) xs
  unfolding only other
  only_one [] s once found = All-nil (only s)
  only_one (x ∷ xs) s once found = by (x.input == a) refl found (only_one xs s (less x xs once))
    where
      by : (t : Bool) → (x.input == a) ≡ t → cond t (Some x) (find (is_of a) xs) ≡ Some s →
          (find (is_of a) xs ≡ Some s → All (only s) xs) → All (only s) (x ∷ xs)
      by true is found rest =
          All-cons (only s) x xs (λ at. cc)
          (λ k d within at. absurd (tails x xs (eqb-true x.input a is) once k d within at))
      by false is found rest =
          All-cons (only s) x xs (λ at. let yes = eq-eqb x.input a at in absurd (cc)) (rest found)

  is_only : (ys : List Span) (s t : Span) → All (only s) ys → find (is_of a) ys ≡ Some t → t ≡ s
  unfolding only
  is_only [] s t all found = absurd (cc)
  is_only (y ∷ ys) s t all found =
      by (y.input == a) refl found (is_only ys s t (All-tail (only s) y ys all))
    where
      by : (b : Bool) → (y.input == a) ≡ b → cond b (Some y) (find (is_of a) ys) ≡ Some t →
          (find (is_of a) ys ≡ Some t → t ≡ s) → t ≡ s
      by true is found rest =
          let same : y ≡ t = cc in let one = All-head (only s) y ys all (eqb-true y.input a is) in sym same ∙ one
      by false is found rest = rest found

  pub same_find : (xs ys : List Span) → AllPairs (λ s t. s.input ≢ t.input) xs → IsPermutation xs ys → IsPermutation ys xs →
      find (is_of a) xs ≡ find (is_of a) ys
  same_find xs ys once there back = by (find (is_of a) xs) (find (is_of a) ys) refl refl
    where
      by : (o p : Option Span) → find (is_of a) xs ≡ o → find (is_of a) ys ≡ p → o ≡ p
      by None None left right = refl
      by None (Some t) left right =
          let none = no_other ys (All-permutation other xs ys there (finds_of xs left)) in
          let never : None ≡ Some t = sym none ∙ right in absurd (cc)
      by (Some s) None left right =
          let none = no_other xs (All-permutation other ys xs back (finds_of ys right)) in
          let never : None ≡ Some s = sym none ∙ left in absurd (cc)
      by (Some s) (Some t) left right =
          ap Some (sym (is_only ys s t (All-permutation (only s) xs ys there (only_one xs s once left)) right))

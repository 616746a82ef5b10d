-- New addresses, from columns in the order of old addresses.
use Rattle.std.proofs.Common.{◌≡◌, ◌≢◌, ◌<◌, ◌≤◌, ℕ, zero, suc, Bool, true, false, List, [], ◌∷◌, Option, Some, None}
use Rattle.std.proofs.Common.{cond, map, length, get_or, slice_index_or, arith, refl, ⊎_elim}
use Rattle.std.specs.Prelude.{◌==◌, find, option_map}
use Rattle.std.proofs.lemmas.Bool.{cases_lt}
use Rattle.std.proofs.lemmas.Grind.{common_steps}
use Rattle.addr_map.specs.internal.Orders.{IsRising, moved_in}
use Rattle.addr_map.specs.Spans.{moved, is_of}
use Rattle.addr_map.specs.declared.span.Span.{Span}

moved_none : (inputs outs : List ℕ) (a : ℕ) → ((i : ℕ) → i < length inputs → get_or inputs i 0 ≢ a)
    → moved_in inputs outs a ≡ None
moved_none [] outs a none = refl
moved_none (input ∷ inputs) [] a none = refl
moved_none (input ∷ inputs) (out ∷ outs) a none =
    let other : input ≢ a = none 0 (omega arith) in
    let rest : moved_in inputs outs a ≡ None = moved_none inputs outs a (λ i lt. none (suc i) (omega arith)) in
    grind (arith, common_steps)

moved_at : (inputs outs : List ℕ) (a i : ℕ) → length outs ≡ length inputs → i < length inputs → get_or inputs i 0 ≡ a
    → ((j : ℕ) → j < i → get_or inputs j 0 ≢ a)
    → moved_in inputs outs a ≡ Some (get_or outs i 0)
moved_at [] outs a i same lt here before = absurd (omega arith)
moved_at (input ∷ inputs) [] a i same lt here before = absurd (omega arith)
moved_at (input ∷ inputs) (out ∷ outs) a zero same lt here before = grind (arith, common_steps)
moved_at (input ∷ inputs) (out ∷ outs) a (suc i) same lt here before =
    let other : input ≢ a = before 0 (omega arith) in
    let rest : moved_in inputs outs a ≡ Some (get_or outs i 0)
    = moved_at inputs outs a i (omega arith) (omega arith) here (λ j less. before (suc j) (omega arith)) in
    grind (arith, common_steps)

-- Columns of the fields of spans give the same results as the spans.
pub moved_parts : (spans : List Span) (a : ℕ) → moved_in (map (λ s. s.input) spans) (map (λ s. s.out) spans) a ≡ moved spans a
moved_parts [] a = refl
moved_parts (s ∷ spans) a = step (s.input == a) s _ (find (is_of a) spans) (moved_parts spans a)
  where
    step : (b : Bool) (s : Span) (o : Option ℕ) (f : Option Span) → o ≡ option_map (λ s. s.out) f
        → cond b (Some s.out) o ≡ option_map (λ s. s.out) (cond b (Some s) f)
    step true s o f e = refl
    step false s o f e = e

-- The result for an index, if all old addresses before it are lower and none from there on is.
module _ (inputs outs : List ℕ) (a i : ℕ) (up : IsRising inputs) (same : length outs ≡ length inputs) where
  pub moved_here : i < length inputs → get_or inputs i 0 ≡ a → moved_in inputs outs a ≡ Some (get_or outs i 0)
  moved_here inside here =
      moved_at inputs outs a i same inside here
      (λ j lt e. let below : get_or inputs j 0 < get_or inputs i 0 = up j i lt inside in omega arith)

  pub moved_nowhere : ((k d : ℕ) → k < i → slice_index_or inputs k d < a) →
      ((k d : ℕ) → i ≤ k → k < length inputs → a ≤ slice_index_or inputs k d) →
      (i < length inputs → get_or inputs i 0 ≢ a) → moved_in inputs outs a ≡ None
  moved_nowhere below above other = moved_none inputs outs a (λ j lt e. ⊎_elim
      (λ (before : j < i). let low : get_or inputs j 0 < a = below j 0 before in omega arith)
      (λ (after : i ≤ j). ⊎_elim
      (λ (later : i < j).
      let less : get_or inputs i 0 < get_or inputs j 0 = up i j later lt in
      let high : a ≤ get_or inputs i 0 = above i 0 (omega arith) (omega arith) in
      omega arith)
      (λ (sooner : j ≤ i). let at : j ≡ i = omega arith in other (omega arith) (rw at at e))
      (cases_lt i j))
      (cases_lt j i))

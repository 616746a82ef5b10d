-- The spans of a map in the order of its lines, one by one.
use Rattle.std.proofs.Common.{ℕ, List, [], ◌∷◌, ◌++◌, Option, Some, None, ◌+◌, ◌-◌, ◌≤◌, ◌<◌, ◌≡◌, ◌^◌, inl, inr, ⊎_elim}
use Rattle.std.proofs.Common.{refl, sym, ◌∙◌, ap, subst, arith, length, take, get_or, zero, suc, Bool, true, false, cond}
use Rattle.std.proofs.lemmas.List.{take_more, get_or-take, length-take}
use Rattle.std.proofs.lemmas.Option.{get_or_from_slice_get, slice_get_within}
use Rattle.std.proofs.lemmas.Bool.{cases_lt}
use Rattle.std.proofs.lemmas.Bool.Decides.{nat_tests}
use Rattle.std.proofs.lemmas.Grind.{common_steps}
use Rattle.std.specs.Prelude.{All, AllPairs, slice_get, find, option_map, option_and_then}
use Rattle.std.specs.Option.{option_or}
use Rattle.addr_map.specs.declared.span.Span.{Span}
use Rattle.addr_map.specs.Spans.{owner, has_byte, ShareNoByte}
use Rattle.addr_map.specs.MapText.{IsLineBefore}
use Rattle.answer_runs.specs.declared.run.Run.{Run}
use Rattle.answer_runs.specs.AnswerRuns.{answer_over, run_at, carried, IsWithin, AreLongest, AreLow}
use Rattle.answer_runs.proofs.Grown.{or_none, within-up}

-- The bytes of one more span.

abbrev owns : Span → ℕ → Option ℕ
owns s p = answer_over s.out s.len s.input p

owner-more : (xs : List Span) (s : Span) (p : ℕ) → owner (xs ++ s ∷ []) p ≡ option_or (owner xs p) (owns s p)
owner-more [] s p = one (has_byte p s)
  where
    one : (b : Bool) → option_map (λ (t : Span). t.input) (cond b (Some s) None) ≡ cond b (Some s.input) None
    one true = refl
    one false = refl
owner-more (x ∷ xs) s p = more (has_byte p x) (owner-more xs s p)
  where
    more : (b : Bool) → owner (xs ++ s ∷ []) p ≡ option_or (owner xs p) (owns s p) →
        option_map (λ (t : Span). t.input) (cond b (Some x) (find (has_byte p) (xs ++ s ∷ [])))
        ≡ option_or (option_map (λ (t : Span). t.input) (cond b (Some x) (find (has_byte p) xs))) (owns s p)
    more true e = refl
    more false e = e

no_byte : (s : Span) (p : ℕ) (b : Bool) → b ≡ has_byte p s → b ≡ false → owns s p ≡ None
no_byte s p b is e = ap (λ (c : Bool). cond c (Some s.input) None) (sym is ∙ e)

-- No other span owns the bytes of a span that overlaps none.
apart_owner : (xs : List Span) (s : Span) (p : ℕ) → All (λ t. ShareNoByte t s) xs → has_byte p s ≡ true → owner xs p ≡ None
apart_owner [] s p apart has = refl
apart_owner (x ∷ xs) s p apart has =
    step (has_byte p x) refl (apart_owner xs s p (λ k d lt. apart (suc k) d (omega arith)) has)
  where
    step : (b : Bool) → b ≡ has_byte p x → owner xs p ≡ None → option_map (λ (t : Span). t.input) (cond b (Some x) (find (has_byte p) xs))
        ≡ None
    step true e rest = absurd (apart 0 x (omega arith) p (sym e) has)
    step false e rest = rest

pub carried-more : {A : Type 0} (says : ℕ → Option A) (xs : List Span) (s : Span) (p : ℕ) → All (λ t. ShareNoByte t s) xs
    → carried says (xs ++ s ∷ []) p ≡ option_or (carried says xs p) (option_and_then says (answer_over s.out s.len s.input p))
carried-more {A} says xs s p apart = ap (option_and_then says) (owner-more xs s p) ∙ step (has_byte p s) refl
  where
    none : (o : Option ℕ) → option_and_then says (option_or o None) ≡ option_or (option_and_then says o) None
    none (Some a) = sym (or_none (says a))
    none None = refl

    step : (b : Bool) → b ≡ has_byte p s
        → option_and_then says (option_or (owner xs p) (owns s p)) ≡ option_or (carried says xs p) (option_and_then says (owns s p))
    step true e = let n : owner xs p ≡ None = apart_owner xs s p apart (sym e) in rw n refl
    step false e = let n : owns s p ≡ None = no_byte s p false e refl in rw n (none (owner xs p))

-- The runs of the spans before index i.
pub record AreMade {A : Type 0} (says : ℕ → Option A) (map : List Span) (i : ℕ) (runs : List (Run A)) : Type 0 where
  pub answered : (p : ℕ) → run_at runs p ≡ carried says (take i map) p
  pub before : (k : ℕ) (t : Span) → i ≤ k → slice_get map k ≡ Some t → 0 < t.len → IsWithin 0 runs t.out
  pub below : IsWithin 0 runs (2 ^ 64 - 1)
  pub longest : AreLongest runs

module _ {A : Type 0} (says : ℕ → Option A) (map : List Span) (ordered : AllPairs IsLineBefore map) (disjoint : AllPairs ShareNoByte map)
    (i : ℕ) (s : Span) (at : slice_get map i ≡ Some s) where
  here : (d : Span) → get_or map i d ≡ s
  here d = get_or_from_slice_get map i s d at

  taken : take (i + 1) map ≡ take i map ++ s ∷ []
  taken = take_more map i s (slice_get_within map i s at) ∙ ap (λ (x : Span). take i map ++ x ∷ []) (here s)

  apart : All (λ t. ShareNoByte t s) (take i map)
  apart k d lt =
      let long = slice_get_within map i s at in
      let size = length-take i map in
      let before : k < i = omega (arith, lt, long, size) in
      let pair : ShareNoByte (get_or map k d) (get_or map i d) = disjoint k i d before long in
      subst (λ (t : Span). ShareNoByte t s) (sym (get_or-take i map k d before))
      (subst (λ (t : Span). ShareNoByte (get_or map k d) t) (here d) pair)

  pub spoken : (p : ℕ) → carried says (take (i + 1) map) p
      ≡ option_or (carried says (take i map) p) (option_and_then says (answer_over s.out s.len s.input p))
  spoken p = ap (λ (l : List Span). carried says l p) taken ∙ carried-more says (take i map) s p apart

  -- A later span with bytes starts at or after the end of this one.
  pub behind : (k : ℕ) (t : Span) → i < k → slice_get map k ≡ Some t → 0 < s.len → 0 < t.len → s.out + s.len ≤ t.out
  behind k t lt is some more =
      let long = slice_get_within map k t is in
      let line : IsLineBefore s t = subst (λ (x : Span). IsLineBefore x t) (here s)
      (subst (λ (x : Span). IsLineBefore (get_or map i s) x) (get_or_from_slice_get map k t s is) (ordered i k s lt long)) in
      let share : ShareNoByte s t = subst (λ (x : Span). ShareNoByte x t) (here s)
      (subst (λ (x : Span). ShareNoByte (get_or map i s) x) (get_or_from_slice_get map k t s is) (disjoint i k s lt long)) in
      ⊎_elim
      (λ (inner : t.out < s.out + s.len). elim line [
        | inl above ↦ absurd (share t.out (has s t.out (omega arith) inner) (has t t.out (omega arith) (omega arith)))
        | inr same ↦ absurd (omega (arith, same.1.0))
      ])
      (λ (outer : s.out + s.len ≤ t.out). outer)
      (cases_lt t.out (s.out + s.len))
    where
      has : (u : Span) (p : ℕ) → u.out ≤ p → p < u.out + u.len → has_byte p u ≡ true
      has u p le less = grind (arith, common_steps)

  pub made_more : (low : AreLow map) (old new : List (Run A)) → AreMade says map i old → 0 < s.len
      → ((p : ℕ) → run_at new p ≡ option_or (run_at old p) (option_and_then says (answer_over s.out s.len s.input p)))
      → IsWithin 0 new (s.out + s.len) → AreLongest new → AreMade says map (i + 1) new
  made_more low old new made some grown within longest = record {
    answered = λ p. grown p
        ∙ ap (λ (o : Option A). option_or o (option_and_then says (answer_over s.out s.len s.input p))) (made.answered p)
        ∙ sym (spoken p);
    before = λ k t le is more. within-up 0 new (s.out + s.len) t.out within (behind k t (omega arith) is some more);
    below = within-up 0 new (s.out + s.len) (2 ^ 64 - 1) within (end (low i s (slice_get_within map i s at)));
    longest = longest;
  }
    where
      end : (get_or map i s).out + (get_or map i s).len < 2 ^ 64 → s.out + s.len ≤ 2 ^ 64 - 1
      end lt = let less : s.out + s.len < 2 ^ 64 = subst (λ (x : Span). x.out + x.len < 2 ^ 64) (here s) lt in omega arith

  pub made_same : (runs : List (Run A)) → AreMade says map i runs → s.len ≡ 0 → AreMade says map (i + 1) runs
  made_same runs made none = record {
    answered = λ p. made.answered p ∙ sym (spoken p ∙ ap (option_or (carried says (take i map) p))
        (ap (option_and_then says) (empty p)) ∙ or_none (carried says (take i map) p));
    before = λ k t le is more. made.before k t (omega arith) is more;
    below = made.below;
    longest = made.longest;
  }
    where
      empty : (p : ℕ) → answer_over s.out s.len s.input p ≡ None
      empty p = rw none (grind (arith, nat_tests))

pub past : {X : Type 0} (xs : List X) (i : ℕ) → slice_get xs i ≡ None → length xs ≤ i
past [] i e = omega arith
past (x ∷ xs) zero e = cc
past (x ∷ xs) (suc i) e = let h : length xs ≤ i = past xs i e in omega arith

-- The maximal runs of some answers are unique.
use Rattle.std.proofs.Common.{ℕ, List, [], ◌∷◌, Option, Some, None, ◌+◌, ◌≤◌, ◌<◌, ◌≡◌, ◌⊎◌, inl, inr, ⊎_elim, refl, sym, ◌∙◌, ap, subst}
use Rattle.std.proofs.Common.{arith}
use Rattle.std.proofs.lemmas.Bool.{cases_lt}
use Rattle.std.proofs.lemmas.Bool.Decides.{nat_tests}
use Rattle.std.proofs.lemmas.Option.{same_Some}
use Rattle.std.specs.Option.{option_or}
use Rattle.answer_runs.specs.declared.run.Run.{Run}
use Rattle.answer_runs.specs.AnswerRuns.{answer_in, run_at, IsWithin, AreLongest, AreRunsOf}
use Rattle.answer_runs.proofs.Grown.{within-up}

pub outside : {A : Type 0} (r : Run A) (p : ℕ) → (p < r.start) ⊎ (r.start + r.len ≤ p) → answer_in r p ≡ None
outside r p (inl below) = grind (arith, nat_tests)
outside r p (inr above) = grind (arith, nat_tests)

pub inside : {A : Type 0} (r : Run A) (p : ℕ) → r.start ≤ p → p < r.start + r.len → answer_in r p ≡ Some r.answer
inside r p le lt = grind (arith, nat_tests)

pub before : {A : Type 0} (lo : ℕ) (rs : List (Run A)) (hi p : ℕ) → IsWithin lo rs hi → p < lo → run_at rs p ≡ None
before lo [] hi p w lt = refl
before lo (r ∷ rs) hi p w lt =
    ap (λ o. option_or o (run_at rs p)) (outside r p (inl (omega (arith, w.0, lt))))
    ∙ before (r.start + r.len) rs hi p w.2 (omega (arith, w.0, lt))

head : {A : Type 0} (r : Run A) (rs : List (Run A)) (p : ℕ) → r.start ≤ p → p < r.start + r.len → run_at (r ∷ rs) p ≡ Some r.answer
head r rs p le lt = ap (λ o. option_or o (run_at rs p)) (inside r p le lt)

differ : {A : Type 0} (x : A) → ◌≡◌ {A = Option A} None (Some x) → ⊥
differ x e = cc

-- After a maximal run there is another answer, or none.
module _ {A : Type 0} (r : Run A) (rs : List (Run A)) (lo hi : ℕ) (w : IsWithin lo (r ∷ rs) hi) (longest : AreLongest (r ∷ rs)) where
  pub ends : run_at (r ∷ rs) (r.start + r.len) ≡ Some r.answer → ⊥
  ends e = at_end rs w.2 longest (sym (ap (λ o. option_or o (run_at rs (r.start + r.len)))
      (outside r (r.start + r.len) (inr (omega arith)))) ∙ e)
    where
      at_end : (ss : List (Run A)) → IsWithin (r.start + r.len) ss hi → AreLongest (r ∷ ss) →
          run_at ss (r.start + r.len) ≡ Some r.answer → ⊥
      at_end [] v l f = differ r.answer f
      at_end (s ∷ ss) v l f = ⊎_elim
          (λ (later : r.start + r.len < s.start). differ r.answer
          (sym (before s.start (s ∷ ss) hi (r.start + r.len) (omega arith, v.1, v.2) later) ∙ f))
          (λ (here : s.start ≤ r.start + r.len).
          let meets : r.start + r.len ≡ s.start = omega (arith, v.0, here) in
          l.0 meets (sym (same_Some s.answer r.answer (sym (head s ss (r.start + r.len) here (omega (arith, v.1, meets))) ∙ f))))
          (cases_lt (r.start + r.len) s.start)

not_before : {A : Type 0} (r : Run A) (rs ss : List (Run A)) (lo n hi : ℕ) → IsWithin lo (r ∷ rs) hi → IsWithin n ss hi → r.start < n
    → ((p : ℕ) → run_at (r ∷ rs) p ≡ run_at ss p) → ⊥
not_before r rs ss lo n hi w v lt e =
    differ r.answer (sym (before n ss hi r.start v lt) ∙ sym (e r.start) ∙ head r rs r.start (omega arith) (omega (arith, w.1)))

not_shorter : {A : Type 0} (r s : Run A) (rs ss : List (Run A)) (lo n hi : ℕ) → IsWithin lo (r ∷ rs) hi → AreLongest (r ∷ rs) →
    IsWithin n (s ∷ ss) hi
    → r.start ≡ s.start → r.answer ≡ s.answer → r.len < s.len → ((p : ℕ) → run_at (r ∷ rs) p ≡ run_at (s ∷ ss) p) → ⊥
not_shorter r s rs ss lo n hi w l v start answer lt e =
    ends r rs lo hi w l (e (r.start + r.len) ∙ head s ss (r.start + r.len) (omega (arith, start)) (omega (arith, start, lt))
    ∙ ap Some (sym answer))

rest : {A : Type 0} (r s : Run A) (rs ss : List (Run A)) (lo n hi : ℕ) → IsWithin lo (r ∷ rs) hi → IsWithin n (s ∷ ss) hi
    → r.start ≡ s.start → r.len ≡ s.len → ((p : ℕ) → run_at (r ∷ rs) p ≡ run_at (s ∷ ss) p) → (p : ℕ) → run_at rs p ≡ run_at ss p
rest r s rs ss lo n hi w v start len e p = ⊎_elim
    (λ (low : p < r.start + r.len). before (r.start + r.len) rs hi p w.2 low
    ∙ sym (before (s.start + s.len) ss hi p v.2 (omega (arith, start, len, low))))
    (λ (high : r.start + r.len ≤ p).
    sym (ap (λ o. option_or o (run_at rs p)) (outside r p (inr high))) ∙ e p
    ∙ ap (λ o. option_or o (run_at ss p)) (outside s p (inr (omega (arith, start, len, high)))))
    (cases_lt p (r.start + r.len))

run_is : {A : Type 0} (r s : Run A) → r.start ≡ s.start → r.len ≡ s.len → r.answer ≡ s.answer → r ≡ s
run_is r s a b c = λ i. record { start = a i; len = b i; answer = c i }

longest-tail : {A : Type 0} (r : Run A) (rs : List (Run A)) → AreLongest (r ∷ rs) → AreLongest rs
longest-tail r [] l = tt
longest-tail r (s ∷ rs) l = l.1

only : {A : Type 0} (lo hi : ℕ) (rs ss : List (Run A)) → IsWithin lo rs hi → IsWithin lo ss hi → AreLongest rs → AreLongest ss
    → ((p : ℕ) → run_at rs p ≡ run_at ss p) → rs ≡ ss
only lo hi [] [] w v l m e = refl
only lo hi [] (s ∷ ss) w v l m e = absurd (differ s.answer (e s.start ∙ head s ss s.start (omega arith) (omega (arith, v.1))))
only lo hi (r ∷ rs) [] w v l m e = absurd (differ r.answer (sym (e r.start) ∙ head r rs r.start (omega arith) (omega (arith, w.1))))
only lo hi (r ∷ rs) (s ∷ ss) w v l m e =
    let start : r.start ≡ s.start = ⊎_elim
    (λ (lt : r.start < s.start). absurd (not_before r rs (s ∷ ss) lo s.start hi w (omega arith, v.1, v.2) lt e))
    (λ (le : s.start ≤ r.start). ⊎_elim
    (λ (lt : s.start < r.start). absurd (not_before s ss (r ∷ rs) lo r.start hi v (omega arith, w.1, w.2) lt (λ p. sym (e p))))
    (λ (ge : r.start ≤ s.start). omega (arith, le, ge))
    (cases_lt s.start r.start))
    (cases_lt r.start s.start) in
    let answer : r.answer ≡ s.answer = same_Some r.answer s.answer (sym (head r rs r.start (omega arith) (omega (arith, w.1))) ∙ e r.start
    ∙ head s ss r.start (omega (arith, start)) (omega (arith, start, v.1))) in
    let len : r.len ≡ s.len = ⊎_elim
    (λ (lt : r.len < s.len). absurd (not_shorter r s rs ss lo lo hi w l v start answer lt e))
    (λ (le : s.len ≤ r.len). ⊎_elim
    (λ (lt : s.len < r.len). absurd (not_shorter s r ss rs lo lo hi v m w (sym start) (sym answer) lt (λ p. sym (e p))))
    (λ (ge : r.len ≤ s.len). omega (arith, le, ge))
    (cases_lt s.len r.len))
    (cases_lt r.len s.len) in
    let same_end : s.start + s.len ≡ r.start + r.len = omega (arith, start, len) in
    let tails : rs ≡ ss = only (r.start + r.len) hi rs ss w.2 (subst (λ (n : ℕ). IsWithin n ss hi) same_end v.2)
    (longest-tail r rs l) (longest-tail s ss m) (rest r s rs ss lo lo hi w v start len e) in
    ap (λ (x : Run _). x ∷ rs) (run_is r s start len answer) ∙ ap (λ l. s ∷ l) tails

-- Two lists of maximal runs of the same answers are equal.
pub only_runs : {A : Type 0} (answers : ℕ → Option A) (rs ss : List (Run A)) → AreRunsOf answers rs → AreRunsOf answers ss → rs ≡ ss
only_runs answers rs ss r s =
    only 0 (r.end + s.end) rs ss (within-up 0 rs r.end (r.end + s.end) r.within (omega arith))
    (within-up 0 ss s.end (r.end + s.end) s.within (omega arith))
    r.longest s.longest (λ p. r.answered p ∙ sym (s.answered p))

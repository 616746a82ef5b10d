-- Runs of results for old addresses, one for each stretch of new code.
use Rattle.std.proofs.Common.{◌≡◌, ◌∙◌, ◌+◌, ◌<◌, ◌≤◌, ◌&&◌, ◌++◌, ◌∷◌, [], ℕ, zero, suc, Bool, true, false, List, Option, Some, None}
use Rattle.std.proofs.Common.{refl, sym, ap, arith, length, take, get_or}
use Rattle.std.specs.Prelude.{if◌then◌else◌, option_and_then, nat_le, nat_lt}
use Rattle.std.specs.Option.{option_or}
use Rattle.std.proofs.lemmas.Bool.Decides.{nat_tests}
use Rattle.answer_runs.specs.declared.run.Run.{Run}
use Rattle.answer_runs.specs.AnswerRuns.{answer_over, answer_in, run_at, IsWithin}
use Rattle.answer_runs.proofs.Grown.{or_none, run_at-more}
use Rattle.cover_lists.specs.GroupRuns.{runs_end}

-- The end of runs

pub runs_end_more : {A : Type 0} (lo : ℕ) (xs : List (Run A)) (r : Run A) → runs_end lo (xs ++ r ∷ []) ≡ r.start + r.len
runs_end_more lo [] r = refl
runs_end_more lo (x ∷ xs) r = runs_end_more (x.start + x.len) xs r

within_ends : {A : Type 0} (lo : ℕ) (rs : List (Run A)) (hi : ℕ) → IsWithin lo rs hi → lo ≤ hi
within_ends lo [] hi w = w
within_ends lo (r ∷ rs) hi w = let g = within_ends (r.start + r.len) rs hi w.2 in omega (arith, g, w.0)

pub runs_end_le : {A : Type 0} (lo : ℕ) (rs : List (Run A)) (hi : ℕ) → IsWithin lo rs hi → runs_end lo rs ≤ hi
runs_end_le lo [] hi w = w
runs_end_le lo (r ∷ rs) hi w = runs_end_le (r.start + r.len) rs hi w.2

pub within_at : {A : Type 0} (lo : ℕ) (runs : List (Run A)) (hi i : ℕ) (d : Run A) → IsWithin lo runs hi → i < length runs →
    (runs_end lo (take i runs) ≤ (get_or runs i d).start) × (0 < (get_or runs i d).len)
    × ((get_or runs i d).start + (get_or runs i d).len ≤ hi)
within_at lo [] hi i d w h = absurd (omega arith)
within_at lo (r ∷ rs) hi zero d w h = (w.0, w.1, within_ends (r.start + r.len) rs hi w.2)
within_at lo (r ∷ rs) hi (suc i) d w h = within_at (r.start + r.len) rs hi i d w.2 (omega arith)

pub taken_within : {A : Type 0} (lo : ℕ) (rs : List (Run A)) (hi i : ℕ) → IsWithin lo rs hi →
    IsWithin lo (take i rs) (runs_end lo (take i rs))
taken_within lo [] hi zero w = omega arith
taken_within lo [] hi (suc i) w = omega arith
taken_within lo (r ∷ rs) hi zero w = omega arith
taken_within lo (r ∷ rs) hi (suc i) w = (w.0, w.1, taken_within (r.start + r.len) rs hi i w.2)

-- A byte of runs is before their end

run_before : {A : Type 0} (lo : ℕ) (rs : List (Run A)) (hi p : ℕ) (x : A) → IsWithin lo rs hi → run_at rs p ≡ Some x → p < hi
run_before lo [] hi p x w e = absurd (cc)
run_before {A} lo (r ∷ rs) hi p x w e = step (nat_le r.start p && nat_lt p (r.start + r.len)) refl e
    (λ f. run_before (r.start + r.len) rs hi p x w.2 f)
  where
    ends_before : (lo : ℕ) (rs : List (Run A)) → IsWithin lo rs hi → lo ≤ hi
    ends_before lo [] w = w
    ends_before lo (r ∷ rs) w = let h = ends_before (r.start + r.len) rs w.2 in let k = w.0 in omega arith

    step : (b : Bool) → (nat_le r.start p && nat_lt p (r.start + r.len)) ≡ b →
        option_or (if b then Some r.answer else None) (run_at rs p) ≡ Some x →
        (run_at rs p ≡ Some x → p < hi) → p < hi
    step true is f more = let h : r.start + r.len ≤ hi = ends_before (r.start + r.len) rs w.2 in grind (arith, nat_tests)
    step false is f more = more f

-- One more stretch

module _ {A : Type 0} (f : ℕ → Option A) (r : Run ℕ) (p : ℕ) where
  over : (b : Bool) (o : Option A) → option_and_then (λ x. if b then Some x else None) o
      ≡ (if b then o else None)
  over true None = refl
  over true (Some x) = refl
  over false None = refl
  over false (Some x) = refl

  through : (b : Bool) → (if b then f r.answer else None) ≡ option_and_then f (if b then Some r.answer else None)
  through true = refl
  through false = refl

  -- No run was there before.
  fresh : option_and_then (λ x. answer_over r.start r.len x p) (f r.answer) ≡ option_and_then f (answer_in r p)
  fresh = over (nat_le r.start p && nat_lt p (r.start + r.len)) (f r.answer) ∙ through (nat_le r.start p && nat_lt p (r.start + r.len))

  -- A run was there before.
  taken : p < r.start → option_and_then (λ x. answer_over r.start r.len x p) (f r.answer) ≡ None
  taken h =
      let no : (nat_le r.start p && nat_lt p (r.start + r.len)) ≡ false = grind (arith, nat_tests) in
      over (nat_le r.start p && nat_lt p (r.start + r.len)) (f r.answer) ∙ ap (λ (b : Bool). if b then f r.answer else None) no

module _ {A : Type 0} (f : ℕ → Option A) where
  one_more : (r : Run ℕ) (p : ℕ) (o : Option ℕ) → ((a : ℕ) → o ≡ Some a → p < r.start) →
      option_or (option_and_then f o) (option_and_then (λ x. answer_over r.start r.len x p) (f r.answer)) ≡ option_and_then f
      (option_or o (answer_in r p))
  one_more r p None before = fresh f r p
  one_more r p (Some a) before = ap (option_or (f a)) (taken f r p (before a refl)) ∙ or_none (f a)

  pub said_more : (ss : List (Run ℕ)) (r : Run ℕ) (p : ℕ) → IsWithin 0 ss r.start →
      option_or (option_and_then f (run_at ss p)) (option_and_then (λ x. answer_over r.start r.len x p) (f r.answer))
      ≡ option_and_then f (run_at (ss ++ r ∷ []) p)
  said_more ss r p within =
      one_more r p (run_at ss p) (λ o e. run_before 0 ss r.start p o within e) ∙ ap (option_and_then f) (sym (run_at-more ss r p))

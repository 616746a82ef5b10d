-- The expressions of location lists at the owners of new bytes, by stretches in which none changes.
use Rattle.std.proofs.Common.{◌≡◌, ◌∙◌, ◌<◌, ◌≤◌, ◌∷◌, [], ℕ, Bool, true, false, List, Option, Some, None, refl, sym, ap, arith, length}
use Rattle.std.proofs.Common.{filter, ⊎_elim}
use Rattle.std.specs.Prelude.{All, if◌then◌else◌, nat_le, option_and_then, option_map}
use Rattle.std.specs.List.Sorted.{IsPermutation}
use Rattle.std.proofs.lemmas.Bool.{cases_lt}
use Rattle.std.proofs.lemmas.Bool.Decides.{nat_tests}
use Rattle.std.proofs.lemmas.List.Elements.{All-nil, All-cons}
use Rattle.std.proofs.lemmas.List.Sorted.{All-permutation, IsPermutation-sym}
use Rattle.addr_map.specs.declared.span.Span.{Span}
use Rattle.addr_map.specs.Spans.{owner}
use Rattle.answer_runs.specs.declared.run.Run.{Run}
use Rattle.answer_runs.specs.AnswerRuns.{carried, run_at, said_runs, AreLongest, AreRunsOf, IsWithin}
use Rattle.answer_runs.specs.Choices.{unless_empty}
use Rattle.answer_runs.proofs.Grown.{said_at}
use Rattle.cover_lists.specs.declared.kept_list.KeptList.{KeptList}
use Rattle.cover_lists.specs.KeptLists.{list_bounds}
use Rattle.cover_lists.specs.ListRuns.{list_answer}
use Rattle.cover_lists.specs.Stretches.{bounds_before}
use Rattle.cover_lists.proofs.AlikeLists.{numbered_alike}

-- Between addresses with as many bounds below them there is no bound

abbrev Same : ℕ → ℕ → ℕ → Type 0
Same a b x = nat_le x a ≡ nat_le x b

more_held : (x a b : ℕ) → a ≤ b → nat_le x a ≡ true → nat_le x b ≡ true
more_held x a b h e = grind (arith, nat_tests)

as_many : (c d : Bool) (x : ℕ) (xs ys : List ℕ) → (c ≡ true → d ≡ true) → length xs ≤ length ys →
    length (if c then x ∷ xs else xs) ≤ length (if d then x ∷ ys else ys)
as_many true true x xs ys up h = omega arith
as_many true false x xs ys up h = let f : false ≡ true = up refl in absurd (cc)
as_many false true x xs ys up h = omega arith
as_many false false x xs ys up h = h

fewer : (bs : List ℕ) (a b : ℕ) → a ≤ b → bounds_before bs a ≤ bounds_before bs b
fewer [] a b h = omega arith
fewer (x ∷ bs) a b h =
    as_many (nat_le x a) (nat_le x b) x (filter (λ y. nat_le y a) bs) (filter (λ y. nat_le y b) bs) (more_held x a b h) (fewer bs a b h)

equal_both : (c d : Bool) (x : ℕ) (xs ys : List ℕ) → (c ≡ true → d ≡ true) → length xs ≤ length ys →
    length (if c then x ∷ xs else xs) ≡ length (if d then x ∷ ys else ys) → (c ≡ d) × (length xs ≡ length ys)
equal_both true true x xs ys up h e = (refl, omega arith)
equal_both true false x xs ys up h e = let f : false ≡ true = up refl in absurd (cc)
equal_both false true x xs ys up h e = absurd (omega arith)
equal_both false false x xs ys up h e = (refl, e)

up_sides : (bs : List ℕ) (a b : ℕ) → a ≤ b → bounds_before bs a ≡ bounds_before bs b → All (Same a b) bs
up_sides [] a b h e = All-nil (Same a b)
up_sides (x ∷ bs) a b h e =
    let both = equal_both (nat_le x a) (nat_le x b) x (filter (λ y. nat_le y a) bs) (filter (λ y. nat_le y b) bs) (more_held x a b h)
    (fewer bs a b h) e in
    All-cons (Same a b) x bs both.0 (up_sides bs a b h both.1)

-- The same answers at addresses without bounds between them

module _ {A : Type 0} (says : ℕ → Option A) (bounds : List ℕ) (alike : (a b : ℕ) → All (Same a b) bounds → says a ≡ says b) where
  alike_at : (a b : ℕ) → bounds_before bounds a ≡ bounds_before bounds b → says a ≡ says b
  alike_at a b e = ⊎_elim
      (λ (h : a < b). alike a b (up_sides bounds a b (omega arith) e))
      (λ (h : b ≤ a). sym (alike b a (up_sides bounds b a h (sym e))))
      (cases_lt a b)

  at_owner : (o q : Option ℕ) → option_map (bounds_before bounds) o ≡ option_and_then (λ a. Some (bounds_before bounds a)) q →
      option_and_then says o ≡ option_and_then says q
  at_owner None None e = refl
  at_owner None (Some b) e = absurd (cc)
  at_owner (Some a) None e = absurd (cc)
  at_owner (Some a) (Some b) e = alike_at a b (cc)

  pub carried_runs : (spans : List Span) (ss : List (Run ℕ)) (end : ℕ) (runs : List (Run A)) →
      AreRunsOf (carried (λ a. Some (bounds_before bounds a)) spans) (said_runs (bounds_before bounds) ss) → IsWithin 0 runs end →
      AreLongest runs →
      ((p : ℕ) → run_at runs p ≡ option_and_then says (run_at ss p)) → AreRunsOf (carried says spans) runs
  carried_runs spans ss end runs stretches within longest answers = record {
    end = end;
    within = within;
    answered = λ p. answers p ∙ at_owner (run_at ss p) (owner spans p) (said_at (bounds_before bounds) ss p ∙ stretches.answered p);
    longest = longest;
  }

pub same_answer : (lists : List KeptList) (n : ℕ) (bounds : List ℕ) → IsPermutation (list_bounds lists) bounds → (a b : ℕ) →
    All (Same a b) bounds →
    list_answer lists n a ≡ list_answer lists n b
same_answer lists n bounds all a b same =
    ap unless_empty (numbered_alike lists n a b
    (All-permutation (Same a b) bounds (list_bounds lists) (IsPermutation-sym (list_bounds lists) bounds all) same))

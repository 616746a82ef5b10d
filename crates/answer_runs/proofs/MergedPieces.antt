-- Merged pieces, and their values at an address.
use Rattle.std.proofs.Common.{ℕ, zero, suc, ◌+◌, ◌-◌, ◌≤◌, ◌<◌, ◌≡◌, List, [], ◌∷◌, ◌++◌, Option, Some, None, Bool, true, false, cond, leb}
use Rattle.std.proofs.Common.{ltb, ◌&&◌, refl, sym, ◌∙◌, ap, subst, arith, length, take, get_or}
use Rattle.std.specs.List.{position_from}
use Rattle.std.specs.List.Sorted.{IsNonDecreasingBy}
use Rattle.std.specs.Option.{option_or}
use Rattle.std.proofs.lemmas.Bool.{leb-true}
use Rattle.std.proofs.lemmas.Bool.Decides.{nat_tests}
use Rattle.std.proofs.lemmas.Grind.{common_steps}
use Rattle.std.proofs.lemmas.List.{take_more, get_or_default}
use Rattle.std.proofs.lemmas.List.Sorted.{IsNonDecreasingBy-push, IsNonDecreasingBy-short}
use Rattle.answer_runs.specs.declared.range.Range.{Range}
use Rattle.answer_runs.specs.declared.pieces.Piece.{Piece}
use Rattle.answer_runs.specs.Pieces.{under, IsNext}

-- One more piece.
pub under-more : (before : Option ℕ) (ps : List Piece) (p : Piece) (a : ℕ)
    → under before (ps ++ p ∷ []) a ≡ cond (leb p.start a) p.first (under before ps a)
unfolding under
under-more before [] p a = refl
under-more before (q ∷ ps) p a = under-more (cond (leb q.start a) q.first before) ps p a

none_started : (before : Option ℕ) (ps : List Piece) (a : ℕ) → ((k : ℕ) (d : Piece) → k < length ps → a < (get_or ps k d).start) →
    under before ps a ≡ before
unfolding under
none_started before [] a later = refl
none_started before (p ∷ ps) a later =
    let high : a < p.start = later 0 p (omega arith) in
    let not : leb p.start a ≡ false = grind (arith, nat_tests) in
    ap (λ b. under (cond b p.first before) ps a) not ∙ none_started before ps a (λ k d lt. later (suc k) d (omega arith))

-- The value by the number of pieces that start at or below the address.
pub under_none : (ps : List Piece) (a : ℕ) → ((k : ℕ) (d : Piece) → 0 ≤ k → k < length ps → a < (get_or ps k d).start) →
    under None ps a ≡ None
under_none ps a later = none_started None ps a (λ k d lt. later k d (omega arith) lt)

pub under_last : (before : Option ℕ) (ps : List Piece) (i a : ℕ) (d : Piece) → i < length ps → (get_or ps i d).start ≤ a
    → ((k : ℕ) (e : Piece) → i + 1 ≤ k → k < length ps → a < (get_or ps k e).start) → under before ps a ≡ (get_or ps i d).first
unfolding under
under_last before [] i a d within low later = absurd (omega arith)
under_last before (p ∷ ps) zero a d within low later =
    let is : leb p.start a ≡ true = grind (arith, nat_tests) in
    ap (λ b. under (cond b p.first before) ps a) is ∙ none_started p.first ps a (λ k e lt. later (suc k) e (omega arith) (omega arith))
under_last before (p ∷ ps) (suc i) a d within low later =
    under_last (cond (leb p.start a) p.first before) ps i a d (omega arith) low (λ k e le lt. later (suc k) e (omega arith) (omega arith))

-- The pieces of one range.
pub one_range : (r : Range) (low number a : ℕ) → low ≡ r.low → low < r.high
    → under None (record { start = low; first = Some number } ∷ record { start = r.high; first = None } ∷ []) a
    ≡ cond (leb r.low a && ltb a r.high) (Some number) None
unfolding under
one_range r low number a is some = rw is (grind (arith, nat_tests))

pub no_range : (r : Range) (number a : ℕ) → r.high ≤ r.low → None ≡ cond (leb r.low a && ltb a r.high) (Some number) None
no_range r number a none = grind (arith, nat_tests)

pub no_ranges : {X : Type 0} (p : X → Bool) (ps : List Piece) (xs : List X) (n a : ℕ) → ps ≡ [] → length xs ≡ 0 →
    under None ps a ≡ position_from p n xs
unfolding under
no_ranges p [] [] n a e l = refl
no_ranges p [] (x ∷ xs) n a e l = absurd (omega arith)
no_ranges p (q ∷ ps) xs n a e l = absurd (cc)

-- Two concatenated lists of ranges.
pub position-append : {X : Type 0} (p : X → Bool) (n : ℕ) (xs ys : List X)
    → position_from p n (xs ++ ys) ≡ option_or (position_from p n xs) (position_from p (n + length xs) ys)
position-append p n [] ys = ap (λ k. position_from p k ys) (grind arith)
position-append {X} p n (x ∷ xs) ys = by (p x)
    (position-append p (n + 1) xs ys ∙ ap (λ k. option_or (position_from p (n + 1) xs) (position_from p k ys)) (grind arith))
  where
    by : (b : Bool) → position_from p (n + 1) (xs ++ ys) ≡ option_or (position_from p (n + 1) xs)
        (position_from p (n + length (x ∷ xs)) ys)
        → cond b (Some n) (position_from p (n + 1) (xs ++ ys)) ≡ option_or (cond b (Some n) (position_from p (n + 1) xs))
        (position_from p (n + length (x ∷ xs)) ys)
    by true e = refl
    by false e = e

-- The pieces of a list up to an index: the value of the last of them is x, and the pieces after it start at or after
-- `start`.
pub record IsTaken (ps : List Piece) (i start : ℕ) (x : Option ℕ) : Type 0 where
  pub bound : i ≤ length ps
  pub now : (a : ℕ) → start ≤ a → under None (take i ps) a ≡ x
  pub next : (k : ℕ) (d : Piece) → i ≤ k → k < length ps → start ≤ (get_or ps k d).start

pub none_taken : (ps : List Piece) → IsTaken ps 0 0 None
unfolding under
none_taken ps = record { bound = omega arith; now = λ a le. refl; next = λ k d le lt. omega arith }

pub taken_more : (ps : List Piece) (i start : ℕ) (x : Option ℕ) (d : Piece) → IsNonDecreasingBy (λ p. p.start) ps → IsTaken ps i start x →
    i < length ps
    → IsTaken ps (i + 1) (get_or ps i d).start (get_or ps i d).first
taken_more ps i start x d rises taken lt = record {
  bound = omega arith;
  now = λ a le.
      ap (λ l. under None l a) (take_more ps i d lt) ∙ under-more None (take i ps) (get_or ps i d) a
      ∙ (let is : leb (get_or ps i d).start a ≡ true = grind (arith, nat_tests) in rw is refl);
  next = λ k e le within. here k e (omega arith) within;
}
  where
    here : (k : ℕ) (e : Piece) → i ≤ k → k < length ps → (get_or ps i d).start ≤ (get_or ps k e).start
    here k e le within =
        let up : (get_or ps i e).start ≤ (get_or ps k e).start = rises i k e le within in
        subst (λ (p : Piece). p.start ≤ (get_or ps k e).start) (get_or_default ps i e d lt) up

-- The pieces taken from the other list stay the same if its next piece doesn't start earlier.
pub taken_same : (ps qs : List Piece) (i j start : ℕ) (y : Option ℕ) (d : Piece) → IsNonDecreasingBy (λ p. p.start) qs →
    IsTaken qs j start y
    → IsNext ps i qs j → start ≤ (get_or ps i d).start → IsTaken qs j (get_or ps i d).start y
taken_same ps qs i j start y d rises taken first up = record {
  bound = taken.bound;
  now = λ a low. taken.now a (omega (arith, up, low));
  next = λ k e le within.
      let here : (get_or ps i d).start ≤ (get_or qs j e).start = first.1 d e (omega (arith, le, within)) in
      let more : (get_or qs j e).start ≤ (get_or qs k e).start = rises j k e le within in
      omega (arith, here, more);
}

-- The merge of two lists of pieces up to an index of each, if the last merged piece starts at `start`.
pub record AreMerged (front back pieces : List Piece) (i j start : ℕ) (x y : Option ℕ) : Type 0 where
  pub in_front : IsTaken front i start x
  pub in_back : IsTaken back j start y
  pub found : (a : ℕ) → under None pieces a ≡ option_or (under None (take i front) a) (under None (take j back) a)
  pub rises : IsNonDecreasingBy (λ p. p.start) pieces
  pub last : (d : Piece) → 0 < length pieces → (get_or pieces (length pieces - 1) d).start ≤ start

pub none_merged : (front back : List Piece) → AreMerged front back [] 0 0 0 None None
unfolding under
none_merged front back = record {
  in_front = none_taken front;
  in_back = none_taken back;
  found = λ a. refl;
  rises = IsNonDecreasingBy-short (λ p. p.start) [] (omega arith);
  last = λ d some. omega arith;
}

last-more : (ps : List Piece) (p d : Piece) → (get_or (ps ++ p ∷ []) (length (ps ++ p ∷ []) - 1) d).start ≤ p.start
last-more ps p d =
    let is : get_or (ps ++ p ∷ []) (length (ps ++ p ∷ []) - 1) d ≡ p = grind (arith, common_steps) in
    subst (λ (q : Piece). q.start ≤ p.start) (sym is) (omega arith)

module _ (front back pieces : List Piece) (i j start : ℕ) (x y : Option ℕ) (d : Piece)
    (front_rises : IsNonDecreasingBy (λ p. p.start) front) (back_rises : IsNonDecreasingBy (λ p. p.start) back)
    (merged : AreMerged front back pieces i j start x y) where
  pub more_front : IsNext front i back j
      → AreMerged front back (pieces ++ record { start = (get_or front i d).start; first = option_or (get_or front i d).first y } ∷ [])
      (i + 1) j (get_or front i d).start (get_or front i d).first y
  more_front next = record {
    in_front = taken_more front i start x d front_rises merged.in_front next.0;
    in_back = taken_same front back i j start y d back_rises merged.in_back next up;
    found = λ a. under-more None pieces both a ∙ by a (leb (get_or front i d).start a) refl
        ∙ ap (λ o. option_or o (under None (take j back) a)) (sym (under-more None (take i front) (get_or front i d) a))
        ∙ ap (λ l. option_or (under None l a) (under None (take j back) a)) (sym (take_more front i d next.0));
    rises = IsNonDecreasingBy-push (λ p. p.start) pieces both merged.rises
        (λ e some. let low = merged.last e some in omega (arith, low, up));
    last = λ e some. last-more pieces both e;
  }
    where
      both : Piece
      both = record { start = (get_or front i d).start; first = option_or (get_or front i d).first y }

      up : start ≤ (get_or front i d).start
      up = merged.in_front.next i d (omega arith) next.0

      by : (a : ℕ) (b : Bool) → b ≡ leb (get_or front i d).start a
          → cond b (option_or (get_or front i d).first y) (under None pieces a)
          ≡ option_or (cond b (get_or front i d).first (under None (take i front) a)) (under None (take j back) a)
      by a true is =
          let low : (get_or front i d).start ≤ a = leb-true _ _ (sym is) in
          ap (option_or (get_or front i d).first) (sym (merged.in_back.now a (omega (arith, low, up))))
      by a false is = merged.found a

  pub more_back : IsNext back j front i
      → AreMerged front back (pieces ++ record { start = (get_or back j d).start; first = option_or x (get_or back j d).first } ∷ [])
      i (j + 1) (get_or back j d).start x (get_or back j d).first
  more_back next = record {
    in_front = taken_same back front j i start x d front_rises merged.in_front next up;
    in_back = taken_more back j start y d back_rises merged.in_back next.0;
    found = λ a. under-more None pieces both a ∙ by a (leb (get_or back j d).start a) refl
        ∙ ap (option_or (under None (take i front) a)) (sym (under-more None (take j back) (get_or back j d) a))
        ∙ ap (λ l. option_or (under None (take i front) a) (under None l a)) (sym (take_more back j d next.0));
    rises = IsNonDecreasingBy-push (λ p. p.start) pieces both merged.rises
        (λ e some. let low = merged.last e some in omega (arith, low, up));
    last = λ e some. last-more pieces both e;
  }
    where
      both : Piece
      both = record { start = (get_or back j d).start; first = option_or x (get_or back j d).first }

      up : start ≤ (get_or back j d).start
      up = merged.in_back.next j d (omega arith) next.0

      by : (a : ℕ) (b : Bool) → b ≡ leb (get_or back j d).start a
          → cond b (option_or x (get_or back j d).first) (under None pieces a)
          ≡ option_or (under None (take i front) a) (cond b (get_or back j d).first (under None (take j back) a))
      by a true is =
          let low : (get_or back j d).start ≤ a = leb-true _ _ (sym is) in
          ap (λ o. option_or o (get_or back j d).first) (sym (merged.in_front.now a (omega (arith, low, up))))
      by a false is = merged.found a

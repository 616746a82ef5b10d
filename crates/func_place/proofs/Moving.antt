-- Moving members from one group to another.
use Rattle.std.proofs.Common.{ℕ, suc, arith, length-set, ◌≡◌, ◌≢◌, ◌<◌, List, [], ◌∷◌, ◌++◌, length, map, get_or, set, sym, ◌∙◌}
use Rattle.std.proofs.Common.{ap, append_assoc}
use Rattle.std.proofs.lemmas.List.{get_or-map, map-set, get_or-set_other}
use Rattle.std.proofs.lemmas.Grind.{common_steps}
use Rattle.std.specs.Prelude.{All}
use Rattle.std.specs.declared.collections.VecDeque.{VecDeque}
use Rattle.func_place.specs.internal.Groups.{list_at, numbered}

-- one more member moves from the front of the rest to the end of those moved
pub end_more : (many few few' many0 few0 : List ℕ) (u : ℕ) → many ++ few ≡ many0 ++ few0 → few ≡ (u ∷ []) ++ few' →
    (many ++ u ∷ []) ++ few' ≡ many0 ++ few0
end_more many few few' many0 few0 u all is = append_assoc many (u ∷ []) few' ∙ ap (λ (xs : List ℕ). many ++ xs) (sym is) ∙ all

pub front_in : (few few' numbers : List ℕ) (u number : ℕ) → few ≡ (u ∷ []) ++ few' → All (λ w. w < length numbers) few →
    (u < length numbers) × All (λ w. w < length (set numbers u number)) few'
front_in few few' numbers u number is all =
    let both : All (λ w. w < length numbers) ((u ∷ []) ++ few') = rw is at all in
    let len : length (set numbers u number) ≡ length numbers = length-set numbers u number in
    (both 0 0 (grind (arith, common_steps)), rw len (λ k d lt. both (suc k) d (grind (arith, common_steps))))

pub numbers_more : (few few' numbers : List ℕ) (u number w : ℕ) → few ≡ (u ∷ []) ++ few' → u < length numbers →
    numbered few' number (set numbers u number) w ≡ numbered few number numbers w
numbers_more few few' numbers u number w is lt = rw is (grind (arith, common_steps))

module _ {Z : Type 0} where
  pub list_from : (units : List (VecDeque ℕ Z)) (q : ℕ) (d : VecDeque ℕ Z) → q < length units → d ≡ get_or units q d →
      d.items ≡ list_at (map (λ (e : VecDeque ℕ Z). e.items) units) q
  list_from units q d lt is =
      ap (λ (e : VecDeque ℕ Z). e.items) is ∙ sym (get_or-map (λ (e : VecDeque ℕ Z). e.items) units q d [] lt)

  pub list_from_other : (units : List (VecDeque ℕ Z)) (q r : ℕ) (d e : VecDeque ℕ Z) → q < length units → q ≢ r →
      d ≡ get_or (set units r e) q d → d.items ≡ list_at (map (λ (e : VecDeque ℕ Z). e.items) units) q
  list_from_other units q r d e lt ne is = list_from units q d lt (is ∙ get_or-set_other units r q e d ne)

  pub lists-set : (units : List (VecDeque ℕ Z)) (left kept : ℕ) (d e : VecDeque ℕ Z) (both : List ℕ) → d.items ≡ [] →
      e.items ≡ both → map (λ (e : VecDeque ℕ Z). e.items) (set (set units left d) kept e)
      ≡ set (set (map (λ (e : VecDeque ℕ Z). e.items) units) left []) kept both
  lists-set units left kept d e both none is =
      map-set (λ (e : VecDeque ℕ Z). e.items) (set units left d) kept e
      ∙ ap (λ (xs : List (List ℕ)). set xs kept e.items) (map-set (λ (e : VecDeque ℕ Z). e.items) units left d)
      ∙ ap (λ (xs : List ℕ). set (set (map (λ (e : VecDeque ℕ Z). e.items) units) left xs) kept e.items) none
      ∙ ap (λ (xs : List ℕ). set (set (map (λ (e : VecDeque ℕ Z). e.items) units) left []) kept xs) is

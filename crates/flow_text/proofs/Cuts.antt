-- Ordered pairs that are cut in two by a binary search: each part is the result of a filter.
use Rattle.std.proofs.Common.{◌≡◌, ◌∙◌, ◌+◌, ◌<◌, ◌≤◌, ℕ, Bool, true, false, List, AllPairs, take, drop, get_or, arith, ap}
use Rattle.std.proofs.Common.{refl, subst, ⊎_elim}
use Rattle.std.specs.Prelude.{filter, not}
use Rattle.std.specs.List.Sorted.{IsPartitionPoint, IsPartitionedBy}
use Rattle.std.proofs.lemmas.Bool.{cases_lt}
use Rattle.std.proofs.lemmas.List.{get_or-drop, get_or-take, length-drop, length-take}
use Rattle.edge_profile.specs.PairCounts.{Counted, IsCountedBefore}
use Rattle.edge_profile.specs.Pairs.{is_before}
use Rattle.edge_profile.proofs.AscendingPairs.{before_from_test, before_test}
use Rattle.flow_infer.proofs.Runs.{back_filtered, front_filtered}
use Rattle.flow_text.proofs.PlacedFlows.{before_trans}

module _ {A : Type 0} (p : A → Bool) (xs : List A) (k : ℕ) where
  pub front_is : IsPartitionPoint (λ x. p x ≡ true) (λ x. p x ≡ false) xs k → take k xs ≡ filter p xs
  front_is point = front_filtered p xs k
      (λ j d within.
      let long = length-take k xs in
      ap p (get_or-take k xs j d (omega arith)) ∙ point.0 j d (omega arith) (omega arith))
      (λ j d within.
      let long = length-drop k xs in
      ap p (get_or-drop k xs j d) ∙ point.1 (k + j) d (omega arith) (omega arith))

  opposite : (b : Bool) → not b ≡ true → b ≡ false
  opposite true is = absurd (cc)
  opposite false is = refl

  opposite' : (b : Bool) → not b ≡ false → b ≡ true
  opposite' true is = refl
  opposite' false is = absurd (cc)

  pub back_is : IsPartitionPoint (λ x. not (p x) ≡ true) (λ x. not (p x) ≡ false) xs k → drop k xs ≡ filter p xs
  back_is point = back_filtered p xs k
      (λ j d within.
      let long = length-take k xs in
      ap p (get_or-take k xs j d (omega arith)) ∙ opposite (p (get_or xs j d)) (point.0 j d (omega arith) (omega arith)))
      (λ j d within.
      let long = length-drop k xs in
      ap p (get_or-drop k xs j d) ∙ opposite' (p (get_or xs (k + j) d)) (point.1 (k + j) d (omega arith) (omega arith)))

pub parted_after : (pairs : List Counted) → AllPairs IsCountedBefore pairs → (q : Counted) →
    IsPartitionedBy (λ p. not (is_before q p)) pairs
parted_after pairs up q i j d upto within last = ⊎_elim
    (λ (less : i < j). by (is_before q (get_or pairs i d)) refl less)
    (λ (more : j ≤ i). let same : j ≡ i = omega arith in subst (λ (k : ℕ). not (is_before q (get_or pairs k d)) ≡ true) same last)
    (cases_lt i j)
  where
    by : (b : Bool) → is_before q (get_or pairs i d) ≡ b → i < j → not b ≡ true
    by false is less = refl
    by true is less =
        let behind = before_test q (get_or pairs j d)
        (before_trans q (get_or pairs i d) (get_or pairs j d) (before_from_test q (get_or pairs i d) is) (up i j d less within)) in
        absurd (cc)

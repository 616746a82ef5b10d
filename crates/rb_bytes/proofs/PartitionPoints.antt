-- What `partition_point` gives in a list that ascends by a key: the items before it are those up to a number, or below it.
use Rattle.std.proofs.Common.{◌≡◌, ◌≤◌, ◌<◌, ℕ, Bool, true, false, List, length, sym, arith}
use Rattle.std.specs.Prelude.{slice_index_or, nat_le, nat_lt}
use Rattle.std.specs.List.Sorted.{IsNonDecreasingBy, IsPartitionPoint, IsPartitionedBy}
use Rattle.std.specs.Fn.{Called, ComputesKey}
use Rattle.std.proofs.lemmas.Bool.{leb-true, leb-false, ltb-true, ltb-false}
use Rattle.std.proofs.lemmas.List.Sorted.{IsPartitionPoint-from_clause, IsPartitionedBy-leb, IsPartitionedBy-ltb}
use Rattle.rb_bytes.proofs.RangeCounts.{count, count-partition}
use denote.Ref.{Bor}
use denote.Param.Members.{Mut}

module _ {X F : Type 0} (g : Mut F (Bor X × Unit {0}) Bool) (f : F) where
  -- The clause `partitioned` of `partition_point`, if it gives i.
  abbrev pub Splits : List X → ℕ → Type 0
  Splits xs i =
      (q : X → Bool) → ComputesKey g q f → IsPartitionedBy q xs → IsPartitionPoint (λ y. q y ≡ true) (λ y. q y ≡ false) xs i

  -- The closure gives the test of the item that it is called with.
  abbrev pub Tests : (X → Bool) → Type 0
  Tests p = (a : Bor X × Unit {0}) (r : Bool) (f' : F) → Called g f a r f' → (r ≡ p a.0.now) × (f' ≡ f)

module _ {X F : Type 0} {g : Mut F (Bor X × Unit {0}) Bool} {f : F} (n : X → ℕ) where
  pub up_to : (xs : List X) (t i : ℕ) → IsNonDecreasingBy n xs → i ≤ length xs → Splits g f xs i → Tests g f (λ x. nat_le (n x) t) →
      ((k : ℕ) (d : X) → k < i → n (slice_index_or xs k d) ≤ t)
      × ((k : ℕ) (d : X) → i ≤ k → k < length xs → t < n (slice_index_or xs k d))
  up_to xs t i up bound splits tests =
      let point = IsPartitionPoint-from_clause (λ x. nat_le (n x) t) xs i splits (IsPartitionedBy-leb n xs t up) tests in (
        (λ k d within. leb-true _ _ (point.0 k d (omega (arith, bound, within)) within)),
        (λ k d from within. leb-false _ _ (point.1 k d from within)),
      )

  pub below : (xs : List X) (t i : ℕ) → IsNonDecreasingBy n xs → i ≤ length xs → Splits g f xs i → Tests g f (λ x. nat_lt (n x) t) →
      ((k : ℕ) (d : X) → k < i → n (slice_index_or xs k d) < t)
      × ((k : ℕ) (d : X) → i ≤ k → k < length xs → t ≤ n (slice_index_or xs k d))
  below xs t i up bound splits tests =
      let point = IsPartitionPoint-from_clause (λ x. nat_lt (n x) t) xs i splits (IsPartitionedBy-ltb n xs t up) tests in (
        (λ k d within. ltb-true _ _ (point.0 k d (omega (arith, bound, within)) within)),
        (λ k d from within. ltb-false _ _ (point.1 k d from within)),
      )

  pub count-up_to : (xs : List X) (t i : ℕ) → IsNonDecreasingBy n xs → i ≤ length xs → Splits g f xs i →
      Tests g f (λ x. nat_le (n x) t) → i ≡ count (λ x. nat_le (n x) t) xs
  count-up_to xs t i up bound splits tests =
      let point = IsPartitionPoint-from_clause (λ x. nat_le (n x) t) xs i splits (IsPartitionedBy-leb n xs t up) tests in
      sym (count-partition (λ x. nat_le (n x) t) xs i bound
      (λ k d within. point.0 k d (omega (arith, bound, within)) within) (λ k d from within. point.1 k d from within))

  pub count-below : (xs : List X) (t i : ℕ) → IsNonDecreasingBy n xs → i ≤ length xs → Splits g f xs i →
      Tests g f (λ x. nat_lt (n x) t) → i ≡ count (λ x. nat_lt (n x) t) xs
  count-below xs t i up bound splits tests =
      let point = IsPartitionPoint-from_clause (λ x. nat_lt (n x) t) xs i splits (IsPartitionedBy-ltb n xs t up) tests in
      sym (count-partition (λ x. nat_lt (n x) t) xs i bound
      (λ k d within. point.0 k d (omega (arith, bound, within)) within) (λ k d from within. point.1 k d from within))

-- Lists that are partitioned by a test.
use Rattle.std.proofs.Common.{◌≡◌, ◌<◌, ◌≤◌, ◌+◌, ℕ, Bool, true, false, List, length, get_or, arith, refl, subst}
use Rattle.std.specs.List.Sorted.{IsPartitionedBy}
use Rattle.std.proofs.lemmas.List.{get_or_default}

module _ {A : Type 0} (test : A → Bool) (xs : List A) (parted : IsPartitionedBy test xs) (n : ℕ) (e : A) where
  -- If an item passes, all items before it do.
  pub passes_up_to : n < length xs → test (get_or xs n e) ≡ true → (k : ℕ) (d : A) → k < n + 1 → test (get_or xs k d) ≡ true
  passes_up_to within is k d less =
      parted k n d (omega arith) within (subst (λ (x : A). test x ≡ true) (get_or_default xs n e d within) is)

  -- If an item doesn't pass, no item after it does.
  pub fails_from : test (get_or xs n e) ≡ false → (k : ℕ) (d : A) → n ≤ k → k < length xs → test (get_or xs k d) ≡ false
  fails_from fails k d from within = by (test (get_or xs k d)) refl
    where
      here : test (get_or xs n d) ≡ false
      here = subst (λ (x : A). test x ≡ false) (get_or_default xs n e d (omega arith)) fails

      by : (b : Bool) → test (get_or xs k d) ≡ b → test (get_or xs k d) ≡ false
      by false is = is
      by true is = let yes' = parted n k d from within is in let no' = here in absurd (cc)

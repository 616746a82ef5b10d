-- Lexicographic orders by several keys, as a sort by tuples gives them.
use Rattle.std.proofs.Common.{◌≡◌, ◌∙◌, sym, subst, refl, ℕ, zero, suc, ◌+◌, ◌-◌, ◌<◌, ◌≤◌, ℤ, ◌≤ℤ◌, ◌<ℤ◌, ◌⊎◌, inl, inr, ⊎_elim}
use Rattle.std.proofs.Common.{false, List, length, slice_index_or, arith}
use Rattle.std.proofs.lemmas.Cmp.{ranked, int_ranked}
use Rattle.std.proofs.lemmas.Int.{ints}
use Rattle.std.specs.declared.cmp.Ordering.{Ordering}
use Rattle.std.specs.declared.cmp.Ordering.TheVariants.{Less, Equal, Greater}
use Rattle.std.specs.List.{AllPairs}
use Rattle.std.specs.Ordering.{MatchOrdering, nat_cmp, int_cmp, is_lt, ordering_then}

-- The meaning of a comparison that isn't less.

not_less : (o : Ordering) (A B C : Type 0) → MatchOrdering o A B C → is_lt o ≡ false → B ⊎ C
not_less Less A B C is up = absurd (cc)
not_less Equal A B C is up = inl is
not_less Greater A B C is up = inr is

pub then_not_less : (o p : Ordering) (A B C : Type 0) → MatchOrdering o A B C → is_lt (ordering_then o p) ≡ false →
    (B × (is_lt p ≡ false)) ⊎ C
then_not_less Less p A B C is up = absurd (cc)
then_not_less Equal p A B C is up = inl (is, up)
then_not_less Greater p A B C is up = inr is

pub number_up : (a b : ℕ) → is_lt (nat_cmp b a) ≡ false → a ≤ b
number_up a b up =
    ⊎_elim
    (λ (same : b ≡ a). let rises : a ≤ b = omega arith in rises)
    (λ (less : a < b). let rises : a ≤ b = omega arith in rises)
    (not_less (nat_cmp b a) _ _ _ (ranked b a (nat_cmp b a) refl) up)

pub integer_up : (a b : ℤ) → is_lt (int_cmp b a) ≡ false → a ≤ℤ b
integer_up a b up =
    ⊎_elim
    (λ (same : b ≡ a). let rises : a ≤ℤ b = omega (arith, ints) in rises)
    (λ (less : a <ℤ b). let rises : a ≤ℤ b = omega (arith, ints) in rises)
    (not_less (int_cmp b a) _ _ _ (int_ranked b a (int_cmp b a) refl) up)

-- Ordered by a number, and for equal numbers by the rest.
abbrev pub IsLess : ℕ → ℕ → Type 0 → Type 0
IsLess a b S = (a < b) ⊎ ((a ≡ b) × S)

pub then_up : (a b : ℕ) (o : Ordering) (S : Type 0) → (is_lt o ≡ false → S) → is_lt (ordering_then (nat_cmp b a) o) ≡ false →
    IsLess a b S
then_up a b o S rest up =
    ⊎_elim
    (λ (both : (b ≡ a) × (is_lt o ≡ false)). inr (sym both.0, rest both.1))
    (λ (less : a < b). inl less)
    (then_not_less (nat_cmp b a) o _ _ _ (ranked b a (nat_cmp b a) refl) up)

pub less_trans : (a b c : ℕ) (S T U : Type 0) → (S → T → U) → IsLess a b S → IsLess b c T → IsLess a c U
less_trans a b c S T U rest (inl p) (inl q) = inl (omega arith)
less_trans a b c S T U rest (inl p) (inr (e, q)) = inl (omega arith)
less_trans a b c S T U rest (inr (e, p)) (inl q) = inl (omega arith)
less_trans a b c S T U rest (inr (e, p)) (inr (f, q)) = inr (e ∙ f, rest p q)

-- What holds for neighbours holds for all pairs.

chain : {A : Type 0} (R : A → A → Type 0) → ((x y z : A) → R x y → R y z → R x z) → (xs : List A) →
    ((k : ℕ) (d : A) → k + 1 < length xs → R (slice_index_or xs k d) (slice_index_or xs (k + 1) d)) → (n i j : ℕ) (d : A) →
    j ≡ i + suc n → j < length xs → R (slice_index_or xs i d) (slice_index_or xs j d)
chain R trans xs next zero i j d gap within =
    let e : i + 1 ≡ j = omega arith in
    subst (λ (k : ℕ). R (slice_index_or xs i d) (slice_index_or xs k d)) e (next i d (omega arith))
chain R trans xs next (suc n) i j d gap within =
    trans (slice_index_or xs i d) (slice_index_or xs (i + 1) d) (slice_index_or xs j d) (next i d (omega arith))
    (chain R trans xs next n (i + 1) j d (omega arith) within)

pub AllPairs-from_next : {A : Type 0} (R : A → A → Type 0) → ((x y z : A) → R x y → R y z → R x z) → (xs : List A) →
    ((k : ℕ) (d : A) → k + 1 < length xs → R (slice_index_or xs k d) (slice_index_or xs (k + 1) d)) → AllPairs R xs
AllPairs-from_next R trans xs next i j d less within = chain R trans xs next (j - i - 1) i j d (omega arith) within

-- Pairs sorted by their first and then by their second numbers, without duplicates.
use Rattle.std.proofs.Common.{◌≡◌, ℕ, ◌<◌, inl, inr, Bool, true, List, [], ◌∷◌, ◌&&◌, ◌==◌, arith}
use Rattle.std.specs.Prelude.{AllPairs}
use Rattle.std.specs.Cmp.{IsEquivalence, IsTotalOrder, and_equiv, both_tied, nat_cmp_total, nat_eq_equiv, on_equiv, on_total}
use Rattle.std.specs.Cmp.{ranks, then_total, unsigned_ties}
use Rattle.std.specs.declared.cmp.Ordering.{Ordering}
use Rattle.std.specs.declared.cmp.Ordering.TheVariants.{Less, Equal, Greater}
use Rattle.std.specs.Ordering.{MatchOrdering, eq_by_cmp, nat_cmp, ordering_then}
use Rattle.std.specs.List.Sorted.{IsStrictlySortedBy}
use Rattle.std.proofs.lemmas.Bool.{and_parts, eqb-true}
use Rattle.std.proofs.lemmas.List.Elements.{All-from_recursion, All-weaker}
use Rattle.std.proofs.lemmas.List.Kept.{AllPairs-cons}
use Rattle.rv_code.specs.layout.Lists.{IsPairBefore}

abbrev pub pair_cmp : ℕ × ℕ → ℕ × ℕ → Ordering
pair_cmp x y = ordering_then (nat_cmp x.0 y.0) (nat_cmp x.1 y.1)

abbrev pub pair_eq : ℕ × ℕ → ℕ × ℕ → Bool
pair_eq x y = (x.0 == y.0) && (x.1 == y.1)

pub pair_total : IsTotalOrder pair_cmp
pair_total = then_total (on_total (λ (t : ℕ × ℕ). t.0) nat_cmp_total) (on_total (λ (t : ℕ × ℕ). t.1) nat_cmp_total)

pub pair_equiv : IsEquivalence pair_eq
pair_equiv = and_equiv (on_equiv (λ (t : ℕ × ℕ). t.0) nat_eq_equiv) (on_equiv (λ (t : ℕ × ℕ). t.1) nat_eq_equiv)

pub pair_ties : (x y : ℕ × ℕ) → pair_eq x y ≡ eq_by_cmp pair_cmp x y
pair_ties x y =
    both_tied (x.0 == y.0) (x.1 == y.1) (nat_cmp x.0 y.0) (nat_cmp x.1 y.1) (unsigned_ties x.0 y.0) (unsigned_ties x.1 y.1)

pub same_pair : (x y : ℕ × ℕ) → pair_eq x y ≡ true → x ≡ y
same_pair x y is =
    let (first, second) = and_parts (x.0 == y.0) (x.1 == y.1) is in
    λ i. (eqb-true x.0 y.0 first i, eqb-true x.1 y.1 second i)

less_by : (x y : ℕ × ℕ) (r s : Ordering) → MatchOrdering r (x.0 < y.0) (x.0 ≡ y.0) (y.0 < x.0) →
    MatchOrdering s (x.1 < y.1) (x.1 ≡ y.1) (y.1 < x.1) → ordering_then r s ≡ Less → IsPairBefore x y
less_by x y Less s first second is = inl first
less_by x y Equal Less first second is = inr (first, second)
less_by x y Equal Equal first second is = absurd (cc)
less_by x y Equal Greater first second is = absurd (cc)
less_by x y Greater s first second is = absurd (cc)

less_before : (x y : ℕ × ℕ) → pair_cmp x y ≡ Less → IsPairBefore x y
less_before x y is = less_by x y (nat_cmp x.0 y.0) (nat_cmp x.1 y.1) (ranks x.0 y.0) (ranks x.1 y.1) is

pub pairs_ordered : (xs : List (ℕ × ℕ)) → IsStrictlySortedBy pair_cmp xs → AllPairs IsPairBefore xs
unfolding IsStrictlySortedBy
pairs_ordered [] sorted = λ i j d less within. absurd (omega arith)
pairs_ordered (x ∷ xs) sorted =
    AllPairs-cons IsPairBefore x xs
    (All-weaker (λ y. pair_cmp x y ≡ Less) (IsPairBefore x) (less_before x) xs (All-from_recursion
    (λ y. pair_cmp x y ≡ Less) xs sorted.0))
    (pairs_ordered xs sorted.1)

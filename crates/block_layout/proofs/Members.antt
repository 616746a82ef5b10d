-- Lists of distinct numbers with the same members are permutations of each other.
use Rattle.std.proofs.Common.{◌≡◌, ◌≢◌, ◌<◌, ◌∙◌, ◌⊎◌, ℕ, zero, suc, Bool, true, false, cond, List, [], ◌∷◌, ◌++◌, length, get_or}
use Rattle.std.proofs.Common.{filter, arith, refl, ap, sym, subst, inl, inr, ⊎_elim, AllPairs, Contains}
use Rattle.std.specs.Prelude.{IsPermutation}
use Rattle.std.specs.List.{remove, range_with_len}
use Rattle.std.proofs.lemmas.Bool.{cases_eq}
use Rattle.std.proofs.lemmas.List.{get_or_default}
use Rattle.std.proofs.lemmas.List.Elements.{Contains-append_cases}
use Rattle.std.proofs.lemmas.List.FromFn.{get_or-range_with_len, length-range_with_len}
use Rattle.std.proofs.lemmas.List.Kept.{AllPairs-cons, AllPairs-filter}
use Rattle.std.proofs.lemmas.List.Sorted.{IsPermutation-refl, IsPermutation-cons, IsPermutation-trans, IsPermutation-sym}
use Rattle.std.proofs.lemmas.List.Sorted.{IsPermutation-remove, Contains-permutation}
use Rattle.std.proofs.lemmas.Grind.{common_steps}
use Rattle.rb_bytes.proofs.Permuted.{AllPairs-permutation}

abbrev pub Distinct : List ℕ → Type 0
Distinct xs = AllPairs (λ a b. a ≢ b) xs

pub none_in : (z : ℕ) → Contains [] z → ⊥
none_in z (k, within, is) = omega arith

pub in_cons : (x z : ℕ) (xs : List ℕ) → Contains (x ∷ xs) z → (x ≡ z) ⊎ Contains xs z
in_cons x z xs (zero, within, is) = inl is
in_cons x z xs (suc k, within, is) = inr (k, omega arith, is)

pub in_tail : (x z : ℕ) (xs : List ℕ) → Contains xs z → Contains (x ∷ xs) z
in_tail x z xs (k, within, is) = (suc k, omega arith, is)

pub at_head : (x : ℕ) (xs : List ℕ) → Contains (x ∷ xs) x
at_head x xs = (0, omega arith, refl)

distinct_tail : (x : ℕ) (xs : List ℕ) → Distinct (x ∷ xs) → Distinct xs
distinct_tail x xs distinct i j d less within = distinct (suc i) (suc j) d (omega arith) (omega arith)

apart_from_head : (x z : ℕ) (xs : List ℕ) → Distinct (x ∷ xs) → Contains xs z → x ≢ z
apart_from_head x z xs distinct (k, within, is) same = distinct 0 (suc k) z (omega arith) (omega arith) (same ∙ sym is)

pub same_members : (xs ys : List ℕ) → Distinct xs → Distinct ys → ((z : ℕ) → Contains xs z → Contains ys z) →
    ((z : ℕ) → Contains ys z → Contains xs z) → IsPermutation xs ys
same_members [] [] distinct distinct' to from = IsPermutation-refl []
same_members [] (y ∷ ys) distinct distinct' to from = absurd (none_in y (from y (at_head y ys)))
same_members (x ∷ xs) ys distinct distinct' to from =
    let there = to x (at_head x xs) in
    let i = there.0 in
    let moved : IsPermutation ys (x ∷ remove ys i) = IsPermutation-remove ys i x there.1 (sym there.2) in
    let rest : Distinct (x ∷ remove ys i) =
    AllPairs-permutation (λ a b. a ≢ b) (λ a b other same. other (sym same)) ys (x ∷ remove ys i) moved distinct' in
    let tail = same_members xs (remove ys i) (distinct_tail x xs distinct) (distinct_tail x (remove ys i) rest)
    (λ z listed. ⊎_elim
    (λ (same : x ≡ z). absurd (apart_from_head x z xs distinct listed same))
    (λ in_rest. in_rest)
    (in_cons x z (remove ys i) (Contains-permutation ys (x ∷ remove ys i) z moved (to z (in_tail x z xs listed)))))
    (λ z listed. ⊎_elim
    (λ (same : x ≡ z). absurd (apart_from_head x z (remove ys i) rest listed same))
    (λ in_xs. in_xs)
    (in_cons x z xs (from z (Contains-permutation (x ∷ remove ys i) ys z (IsPermutation-sym ys (x ∷ remove ys i) moved)
    (in_tail x z (remove ys i) listed))))) in
    IsPermutation-trans (x ∷ xs) (x ∷ remove ys i) ys (IsPermutation-cons x xs (remove ys i) tail)
    (IsPermutation-sym ys (x ∷ remove ys i) moved)

pub is_in : (xs : List ℕ) (z : ℕ) → Contains xs z ⊎ (Contains xs z → ⊥)
is_in [] z = inr (none_in z)
is_in (x ∷ xs) z = ⊎_elim
    (λ (same : x ≡ z). inl (subst (Contains (x ∷ xs)) same (at_head x xs)))
    (λ (other : x ≢ z). ⊎_elim
    (λ later. inl (in_tail x z xs later))
    (λ (none : Contains xs z → ⊥). inr (λ listed. ⊎_elim other none (in_cons x z xs listed)))
    (is_in xs z))
    (cases_eq x z)

pub distinct_append : (xs ys : List ℕ) → Distinct xs → Distinct ys →
    ((z : ℕ) → Contains xs z → Contains ys z → ⊥) → Distinct (xs ++ ys)
distinct_append [] ys one other apart = other
distinct_append (x ∷ xs) ys one other apart =
    AllPairs-cons (λ a b. a ≢ b) x (xs ++ ys)
    (λ k d within same. ⊎_elim
    (λ in_xs. apart_from_head x (get_or (xs ++ ys) k d) xs one in_xs same)
    (λ in_ys. apart x (at_head x xs) (subst (Contains ys) (sym same) in_ys))
    (Contains-append_cases xs ys (get_or (xs ++ ys) k d)
    (k, within, get_or_default (xs ++ ys) k (get_or (xs ++ ys) k d) d within)))
    (distinct_append xs ys (distinct_tail x xs one) other (λ z listed. apart z (in_tail x z xs listed)))

-- Numbers below a bound that pass a test.

kept : (p : ℕ → Bool) (x z : ℕ) (xs ys : List ℕ) (b : Bool) → p x ≡ b → p z ≡ true → (x ≡ z) ⊎ Contains ys z →
    Contains (cond b (x ∷ ys) ys) z
kept p x z xs ys true test is (inl same) = subst (Contains (x ∷ ys)) same (at_head x ys)
kept p x z xs ys true test is (inr later) = in_tail x z ys later
kept p x z xs ys false test is (inl same) = let t : p x ≡ p z = ap p same in absurd (cc)
kept p x z xs ys false test is (inr later) = later

pub in_filter : (p : ℕ → Bool) (xs : List ℕ) (z : ℕ) → Contains xs z → p z ≡ true → Contains (filter p xs) z
in_filter p [] z listed is = absurd (none_in z listed)
in_filter p (x ∷ xs) z listed is =
    kept p x z xs (filter p xs) (p x) refl is
    (⊎_elim (λ same. inl same) (λ later. inr (in_filter p xs z later is)) (in_cons x z xs listed))

passed : (p : ℕ → Bool) (x z : ℕ) (ys : List ℕ) (b : Bool) → p x ≡ b → Contains (cond b (x ∷ ys) ys) z →
    ((x ≡ z) × (p z ≡ true)) ⊎ Contains ys z
passed p x z ys false test listed = inr listed
passed p x z ys true test listed = grind (arith, common_steps, ⊎_elim, in_cons)

pub from_filter : (p : ℕ → Bool) (xs : List ℕ) (z : ℕ) → Contains (filter p xs) z → Contains xs z × (p z ≡ true)
from_filter p [] z listed = absurd (none_in z listed)
from_filter p (x ∷ xs) z listed = ⊎_elim
    (λ (is : (x ≡ z) × (p z ≡ true)). (subst (Contains (x ∷ xs)) is.0 (at_head x xs), is.1))
    (λ later. let rest = from_filter p xs z later in (in_tail x z xs rest.0, rest.1))
    (passed p x z (filter p xs) (p x) refl listed)

pub in_range : (n z : ℕ) → z < n → Contains (range_with_len 0 n) z
in_range n z less =
    let long : length (range_with_len 0 n) ≡ n = length-range_with_len 0 n in
    (z, omega arith, get_or-range_with_len 0 n z z less ∙ omega arith)

pub from_range : (n z : ℕ) → Contains (range_with_len 0 n) z → z < n
from_range n z (k, within, is) = grind (arith, common_steps, length-range_with_len, get_or-range_with_len)

distinct_range : (n : ℕ) → Distinct (range_with_len 0 n)
distinct_range n i j d less within same = grind (arith, common_steps, length-range_with_len, get_or-range_with_len)

pub distinct_filter : (p : ℕ → Bool) (n : ℕ) → Distinct (filter p (range_with_len 0 n))
distinct_filter p n = AllPairs-filter (λ a b. a ≢ b) p (range_with_len 0 n) (distinct_range n)

-- How often a number occurs in a list.
use Rattle.std.proofs.Common.{ℕ, zero, suc, ◌≡◌, ◌≢◌, ◌<◌, ◌≤◌, ◌+◌, ◌*◌, ⊎_elim, Bool, true, false, List, [], ◌∷◌, ◌++◌, length}
use Rattle.std.proofs.Common.{get_or, arith, refl, sym, ◌∙◌, ap}
use Rattle.std.specs.Prelude.{◌==◌, if◌then◌else◌, sum_by, filter}
use Rattle.std.specs.List.{range_with_len, flat_map, remove}
use Rattle.std.specs.List.Sorted.{IsPermutation}
use Rattle.std.proofs.lemmas.Grind.{common_steps}
use Rattle.std.proofs.lemmas.Bool.{cases_eq, cases_Bool}
use Rattle.std.proofs.lemmas.List.Sums.{sum_by-cons, sum_by-append}
use Rattle.std.proofs.lemmas.List.Sorted.{sum_by-IsPermutation, IsPermutation-refl, IsPermutation-cons, IsPermutation-trans}
use Rattle.std.proofs.lemmas.List.Sorted.{IsPermutation-sym, IsPermutation-remove}
use Rattle.func_place.specs.Clusters.{has_unit}

abbrev pub one_if : Bool → ℕ
one_if b = if b then 1 else 0

unfoldable pub times : ℕ → List ℕ → ℕ
times u xs = sum_by (λ v. one_if (v == u)) xs

pub times-nil : (u : ℕ) → times u [] ≡ 0
unfolding times
times-nil u = refl

pub times-cons : (u x : ℕ) (xs : List ℕ) → times u (x ∷ xs) ≡ (one_if (x == u)) + times u xs
unfolding times
times-cons u x xs = sum_by-cons (λ v. one_if (v == u)) x xs

pub times-append : (u : ℕ) (xs ys : List ℕ) → times u (xs ++ ys) ≡ times u xs + times u ys
unfolding times
times-append u xs ys = sum_by-append (λ v. one_if (v == u)) xs ys

pub times-IsPermutation : (u : ℕ) (xs ys : List ℕ) → IsPermutation xs ys → times u ys ≡ times u xs
unfolding times
times-IsPermutation u xs ys p = sum_by-IsPermutation (λ v. one_if (v == u)) xs ys p

pub sum-times : (u : ℕ) (xs : List ℕ) → sum_by (λ v. one_if (v == u)) xs ≡ times u xs
unfolding times
sum-times u xs = refl

same_one : (x : ℕ) → (one_if (x == x)) ≡ 1
same_one x = grind (arith, common_steps)

other_none : (x u : ℕ) → x ≢ u → (one_if (x == u)) ≡ 0
other_none x u ne = grind (arith, common_steps)

pub times-same : (x : ℕ) (xs : List ℕ) → times x (x ∷ xs) ≡ 1 + times x xs
times-same x xs = times-cons x x xs ∙ ap (λ (n : ℕ). n + times x xs) (same_one x)

pub times-other : (u x : ℕ) (xs : List ℕ) → x ≢ u → times u (x ∷ xs) ≡ times u xs
times-other u x xs ne = let c = times-cons u x xs in let none = other_none x u ne in omega arith

pub times-one : (u x : ℕ) → 0 < times u (x ∷ []) → x ≡ u
times-one u x some = ⊎_elim (λ (e : x ≡ u). e) (λ (ne : x ≢ u).
    let o = times-other u x [] ne in
    let n = times-nil u in
    absurd (omega arith)) (cases_eq x u)

pub times-flat_map : (u : ℕ) (f : ℕ → List ℕ) (xs : List ℕ) → times u (flat_map f xs) ≡ sum_by (λ x. times u (f x)) xs
times-flat_map u f [] = times-nil u
times-flat_map u f (x ∷ xs) = times-append u (f x) (flat_map f xs) ∙ ap (λ (n : ℕ). times u (f x) + n) (times-flat_map u f xs)
    ∙ sym (sum_by-cons (λ (y : ℕ). times u (f y)) x xs)

pub times-filter_in : (p : ℕ → Bool) (u : ℕ) (xs : List ℕ) → p u ≡ true → times u (filter p xs) ≡ times u xs
times-filter_in p u [] h = refl
times-filter_in p u (x ∷ xs) h = ⊎_elim
    (λ (k : p x ≡ true). rw k
    (times-cons u x (filter p xs) ∙ ap (λ (n : ℕ). (one_if (x == u)) + n) (times-filter_in p u xs h) ∙ sym (times-cons u x xs)))
    (λ (k : p x ≡ false). rw k (
    let ne : x ≢ u = λ e. not_both (p u) h (ap p (sym e) ∙ k) in
    times-filter_in p u xs h ∙ sym (times-other u x xs ne)))
    (cases_Bool (p x))
  where
    not_both : (b : Bool) → b ≡ true → b ≡ false → ⊥
    not_both b i j = cc

pub times-filter_out : (p : ℕ → Bool) (u : ℕ) (xs : List ℕ) → p u ≡ false → times u (filter p xs) ≡ 0
times-filter_out p u [] h = times-nil u
times-filter_out p u (x ∷ xs) h = ⊎_elim
    (λ (k : p x ≡ true). rw k (
    let ne : x ≢ u = λ e. not_both (p u) (ap p (sym e) ∙ k) h in
    times-other u x (filter p xs) ne ∙ times-filter_out p u xs h))
    (λ (k : p x ≡ false). rw k (times-filter_out p u xs h))
    (cases_Bool (p x))
  where
    not_both : (b : Bool) → b ≡ true → b ≡ false → ⊥
    not_both b i j = cc

range_out : (u a n : ℕ) → u < a → times u (range_with_len a n) ≡ 0
range_out u a zero lt = times-nil u
range_out u a (suc n) lt =
    times-other u a (range_with_len (a + 1) n) (λ e. absurd (omega arith)) ∙ range_out u (a + 1) n (omega arith)

range_past : (u a n : ℕ) → a + n ≤ u → times u (range_with_len a n) ≡ 0
range_past u a zero ge = times-nil u
range_past u a (suc n) ge =
    times-other u a (range_with_len (a + 1) n) (λ e. absurd (omega arith)) ∙ range_past u (a + 1) n (omega arith)

range_from : (u a n : ℕ) → a ≤ u → u < a + n → times u (range_with_len a n) ≡ 1
range_from u a zero le lt = absurd (omega arith)
range_from u a (suc n) le lt = ⊎_elim
    (λ (e : a ≡ u). rw e (times-same u (range_with_len (u + 1) n) ∙ ap (λ (k : ℕ). 1 + k) (range_out u (u + 1) n (omega arith))))
    (λ (ne : a ≢ u). times-other u a (range_with_len (a + 1) n) ne ∙ range_from u (a + 1) n (omega arith) (omega arith))
    (cases_eq a u)

pub times-range_in : (u n : ℕ) → u < n → times u (range_with_len 0 n) ≡ 1
times-range_in u n lt = range_from u 0 n (omega arith) (omega arith)

pub times-range_out : (u n : ℕ) → n ≤ u → times u (range_with_len 0 n) ≡ 0
times-range_out u n ge = range_past u 0 n (omega arith)

-- a member occurs at some index
pub stands_at : (u : ℕ) (xs : List ℕ) → 0 < times u xs → (k : ℕ) × (k < length xs) × ((d : ℕ) → get_or xs k d ≡ u)
stands_at u [] some = absurd (let z = times-nil u in omega arith)
stands_at u (x ∷ xs) some = ⊎_elim (λ (e : x ≡ u). (0, omega arith, λ d. e))
    (λ (ne : x ≢ u).
    let k = stands_at u xs (let t = times-other u x xs ne in omega arith) in
    (suc k.0, omega (arith, k.1), λ d. k.2 d)) (cases_eq x u)

pub times-get_or : (xs : List ℕ) (k d : ℕ) → k < length xs → 0 < times (get_or xs k d) xs
times-get_or [] k d lt = absurd (omega arith)
times-get_or (x ∷ xs) zero d lt = let t = times-same x xs in omega arith
times-get_or (x ∷ xs) (suc k) d lt =
    let t = times-cons (get_or xs k d) x xs in
    let rest = times-get_or xs k d (omega arith) in omega arith

-- lists with the same members, each equally often, are permutations
pub permutation_from_times : (xs ys : List ℕ) → ((u : ℕ) → times u xs ≡ times u ys) → IsPermutation xs ys
permutation_from_times [] [] same = IsPermutation-refl []
permutation_from_times [] (y ∷ ys) same = absurd (let a = same y in let b = times-same y ys in let c = times-nil y in omega arith)
permutation_from_times (x ∷ xs) ys same =
    let k = stands_at x ys (let a = same x in let b = times-same x xs in omega arith) in
    let moved : IsPermutation ys (x ∷ remove ys k.0) = IsPermutation-remove ys k.0 x k.1 (sym (k.2 x)) in
    let rest : IsPermutation xs (remove ys k.0) = permutation_from_times xs (remove ys k.0) (λ u.
    let p = times-IsPermutation u ys (x ∷ remove ys k.0) moved in
    let c = times-cons u x (remove ys k.0) in
    let d = times-cons u x xs in
    let e = same u in
    omega arith) in
    IsPermutation-trans (x ∷ xs) (x ∷ remove ys k.0) ys (IsPermutation-cons x xs (remove ys k.0) rest)
    (IsPermutation-sym ys (x ∷ remove ys k.0) moved)

-- membership as a test
none_has : (u : ℕ) → has_unit [] u ≡ true → ⊥
none_has u h = absurd (grind (arith, common_steps))

first_has : (x : ℕ) (xs : List ℕ) → has_unit (x ∷ xs) x ≡ true
first_has x xs = grind (arith, common_steps)

later_has : (x u : ℕ) (xs : List ℕ) → x ≢ u → has_unit (x ∷ xs) u ≡ has_unit xs u
later_has x u xs ne = grind (arith, common_steps)

pub has-times : (xs : List ℕ) (u : ℕ) → 0 < times u xs → has_unit xs u ≡ true
has-times [] u some = absurd (let z = times-nil u in omega arith)
has-times (x ∷ xs) u some = ⊎_elim
    (λ (e : x ≡ u). rw e (first_has u xs))
    (λ (ne : x ≢ u). later_has x u xs ne ∙ has-times xs u (let t = times-other u x xs ne in omega arith))
    (cases_eq x u)

pub times-has : (xs : List ℕ) (u : ℕ) → has_unit xs u ≡ true → 0 < times u xs
times-has [] u h = absurd (none_has u h)
times-has (x ∷ xs) u h = ⊎_elim
    (λ (e : x ≡ u). rw e (let t = times-same u xs in omega arith))
    (λ (ne : x ≢ u). let t = times-other u x xs ne in let rest = times-has xs u (sym (later_has x u xs ne) ∙ h) in omega arith)
    (cases_eq x u)

-- Sums.

pub sum-agree : (f g : ℕ → ℕ) (xs : List ℕ) → ((x : ℕ) → 0 < times x xs → f x ≡ g x) → sum_by f xs ≡ sum_by g xs
sum-agree f g [] same = refl
sum-agree f g (x ∷ xs) same =
    let here = same x (let t = times-same x xs in omega arith) in
    let rest = sum-agree f g xs (λ y some. same y (let t = times-cons y x xs in omega arith)) in
    sum_by-cons f x xs ∙ (let e : f x + sum_by f xs ≡ g x + sum_by g xs = omega arith in e) ∙ sym (sum_by-cons g x xs)

pub sum-zero : (f : ℕ → ℕ) (xs : List ℕ) → ((x : ℕ) → 0 < times x xs → f x ≡ 0) → sum_by f xs ≡ 0
sum-zero f [] none = refl
sum-zero f (x ∷ xs) none =
    let here = none x (let t = times-same x xs in omega arith) in
    let rest = sum-zero f xs (λ y some. none y (let t = times-cons y x xs in omega arith)) in
    let c = sum_by-cons f x xs in
    omega arith

pub sum-plus : (f g : ℕ → ℕ) (xs : List ℕ) → sum_by (λ x. f x + g x) xs ≡ sum_by f xs + sum_by g xs
sum-plus f g [] = refl
sum-plus f g (x ∷ xs) =
    let rest = sum-plus f g xs in
    let a = sum_by-cons (λ (y : ℕ). f y + g y) x xs in
    let b = sum_by-cons f x xs in
    let c = sum_by-cons g x xs in
    omega arith

-- the value of one number, as often as it occurs
one_value : (x c v : ℕ) → x ≡ c → (if c == x then v else 0) ≡ v
one_value x c v e = grind (arith, common_steps)

no_value : (x c v : ℕ) → x ≢ c → (if c == x then v else 0) ≡ 0
no_value x c v ne = grind (arith, common_steps)

pub sum-at : (c v : ℕ) (xs : List ℕ) → sum_by (λ x. if c == x then v else 0) xs ≡ v * times c xs
sum-at c v [] = let z = times-nil c in rw z (omega arith)
sum-at c v (x ∷ xs) =
    let rest = sum-at c v xs in
    let a = sum_by-cons (λ (y : ℕ). if c == y then v else 0) x xs in
    ⊎_elim
    (λ (e : x ≡ c).
    let here = one_value x c v e in
    let t : times c (x ∷ xs) ≡ 1 + times c xs = rw e (times-same c xs) in
    rw t (omega arith))
    (λ (ne : x ≢ c). let here = no_value x c v ne in let t = times-other c x xs ne in rw t (omega arith))
    (cases_eq x c)

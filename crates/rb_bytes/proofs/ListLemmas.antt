-- Options and lists: results of searches, lists of lists, maps over lists, and lists whose elements are related
-- pairwise.
use Rattle.std.proofs.Common.{◌≡◌, ℕ, zero, suc, ◌<◌, List, [], ◌∷◌, ◌++◌, length, map, Option, Some, None, Bool, true, false}
use Rattle.std.proofs.Common.{◌+◌, cond, refl, sym, ap, ◌∙◌, subst, arith, inl, inr, ◌⊎◌, ⊎_elim, All, get_or, ◌≤◌, take, sum_by}
use Rattle.std.specs.Prelude.{AllPairs, Contains, IfSome, find, flat_map, slice_index_or, ◌||◌, slice_index, replicate, slice_get}
use Rattle.std.specs.List.{list_any, range_with_len}
use Rattle.std.specs.List.Sorted.{IsNonDecreasingBy}
use Rattle.std.proofs.lemmas.Bool.{cases_lt, cases_order}
use Rattle.std.proofs.lemmas.Grind.{common_steps}
use Rattle.std.proofs.lemmas.List.Sums.{sum_by-cons}
use Rattle.std.proofs.lemmas.Option.{slice_get-get_or}
use Rattle.std.proofs.lemmas.List.{get_or-map, get_or_default, length-map}
use Rattle.std.proofs.lemmas.List.Elements.{Contains-append_cases, Contains-append_left, Contains-append_right, Contains-get_or}
use Rattle.std.proofs.lemmas.List.Kept.{AllPairs-cons}
use Rattle.rb_bytes.proofs.Searches.{find-finds}
use Rattle.rb_bytes.proofs.Members.{Contains-cons_cases, Contains-there}

-- What holds for the value of an option holds for x, if x is the value.
pub if_found : {A : Type 0} (P : A → Type 0) (o : Option A) (x : A) → o ≡ Some x → IfSome o P → P x
if_found {A} P o x e h = subst (λ (o : Option A). IfSome o P) e h

-- Searches.

-- A search that finds nothing: no element passes.
pub find_none : {X : Type 0} (p : X → Bool) (xs : List X) (x : X) → find p xs ≡ None → Contains xs x → p x ≡ true → ⊥
find_none p xs x e is_in passes = let (y, found) = find-finds p xs x is_in passes in absurd (cc)

pub none_any : {X : Type 0} (f : X → Bool) (cells : List X) → find f cells ≡ None → list_any f cells ≡ false
none_any f [] e = refl
none_any {X} f (c ∷ cs) e = by (f c) e (none_any f cs)
  where
    by : (b : Bool) → cond b (Some c) (find f cs) ≡ None → (find f cs ≡ None → list_any f cs ≡ false) →
        b || list_any f cs ≡ false
    by true k rest = absurd (cc)
    by false k rest = rest k

pub only_one : {X : Type 0} (y x : X) → Contains (y ∷ []) x → y ≡ x
only_one y x is_in =
    elim (Contains-cons_cases y [] x is_in) [ inl same ↦ same | inr k ↦ absurd (let l = k.1 in omega (arith, l)) ]

-- Lists of lists.

pub in_flat : {X Y : Type 0} (f : X → List Y) (xs : List X) (x : X) (y : Y) → Contains xs x → Contains (f x) y →
    Contains (flat_map f xs) y
in_flat f [] x y x_in y_in = let l = x_in.1 in absurd (omega (arith, l))
in_flat {X} {Y} f (z ∷ zs) x y x_in y_in = by (Contains-cons_cases z zs x x_in) (λ k. in_flat f zs x y k y_in)
  where
    by : (z ≡ x) ⊎ Contains zs x → (Contains zs x → Contains (flat_map f zs) y) → Contains (f z ++ flat_map f zs) y
    by (inl same) rest = Contains-append_left (f z) (flat_map f zs) y (subst (λ (t : X). Contains (f t) y) (sym same) y_in)
    by (inr k) rest = Contains-append_right (f z) (flat_map f zs) y (rest k)

pub from_flat : {X Y : Type 0} (f : X → List Y) (xs : List X) (y : Y) → Contains (flat_map f xs) y →
    (x : X) × Contains xs x × Contains (f x) y
from_flat f [] y is_in = let l = is_in.1 in absurd (omega (arith, l))
from_flat {X} {Y} f (z ∷ zs) y is_in = by (Contains-append_cases (f z) (flat_map f zs) y is_in) (λ k. from_flat f zs y k)
  where
    by : Contains (f z) y ⊎ Contains (flat_map f zs) y →
        (Contains (flat_map f zs) y → (x : X) × Contains zs x × Contains (f x) y) →
        (x : X) × Contains (z ∷ zs) x × Contains (f x) y
    by (inl k) rest = (z, (zero, omega arith, refl), k)
    by (inr k) rest = let (x, x_in, y_in) = rest k in (x, Contains-there z zs x x_in, y_in)

-- Maps over lists.

pub in_map : {X Y : Type 0} (f : X → Y) (xs : List X) (x : X) → Contains xs x → Contains (map f xs) (f x)
in_map f xs x (k, within, is) =
    let len = length-map xs f in
    (k, omega (arith, len, within), get_or-map f xs k x (f x) within ∙ ap f is)

pub from_map : {X Y : Type 0} (f : X → Y) (xs : List X) (y : Y) → Contains (map f xs) y → (x : X) × Contains xs x × (f x ≡ y)
from_map f [] y is_in = let l = is_in.1 in absurd (omega (arith, l))
from_map {X} {Y} f (x ∷ xs) y is_in = by (Contains-cons_cases (f x) (map f xs) y is_in) (λ k. from_map f xs y k)
  where
    by : (f x ≡ y) ⊎ Contains (map f xs) y → (Contains (map f xs) y → (z : X) × Contains xs z × (f z ≡ y)) →
        (z : X) × Contains (x ∷ xs) z × (f z ≡ y)
    by (inl here) rest = (x, (zero, omega arith, refl), here)
    by (inr k) rest = let (z, z_in, e) = rest k in (z, Contains-there x xs z z_in, e)

pub pairs_map : {X Y : Type 0} (R : Y → Y → Type 0) (f : X → Y) (xs : List X) → AllPairs (λ x y. R (f x) (f y)) xs →
    AllPairs R (map f xs)
pairs_map R f [] pairs = λ i j d less within. absurd (omega (arith, within))
pairs_map {X} {Y} R f (x ∷ xs) pairs = λ i j d less within.
    let len = length-map (x ∷ xs) f in
    let at_i = get_or-map f (x ∷ xs) i x d (omega (arith, len, less, within)) in
    let at_j = get_or-map f (x ∷ xs) j x d (omega (arith, len, within)) in
    subst (λ (y : Y). R y (get_or (map f (x ∷ xs)) j d)) (sym at_i)
    (subst (λ (y : Y). R (f (get_or (x ∷ xs) i x)) y) (sym at_j) (pairs i j x less (omega (arith, len, within))))

pub pairs_in : {X : Type 0} (R S : X → X → Type 0) (xs : List X) → ((x y : X) → Contains xs x → Contains xs y → R x y → S x y) →
    AllPairs R xs → AllPairs S xs
pairs_in R S xs f pairs = λ i j d less within.
    f (get_or xs i d) (get_or xs j d) (Contains-get_or xs i d (omega (arith, less, within))) (Contains-get_or xs j d within)
    (pairs i j d less within)

-- Lists in which each element is related to each later one.

pub all_of : {X : Type 0} (P : X → Type 0) (xs : List X) → ((x : X) → Contains xs x → P x) → All P xs
all_of P xs f = λ k d within. f (get_or xs k d) (Contains-get_or xs k d within)

module _ {X : Type 0} (R : X → X → Type 0) where
  pairs_tail : (x : X) (xs : List X) → AllPairs R (x ∷ xs) → AllPairs R xs
  pairs_tail x xs pairs = λ i j d less within. pairs (suc i) (suc j) d (omega arith) (omega arith)

  pairs_head : (x y : X) (xs : List X) → AllPairs R (x ∷ xs) → Contains xs y → R x y
  pairs_head x y xs pairs (k, within, is) = subst (R x) is (pairs zero (suc k) y (omega arith) (omega (arith, within)))

  pub pairs_append : (xs ys : List X) → AllPairs R xs → AllPairs R ys → ((x y : X) → Contains xs x → Contains ys y → R x y) →
      AllPairs R (xs ++ ys)
  pairs_append [] ys first second between = second
  pairs_append (x ∷ xs) ys first second between =
      AllPairs-cons R x (xs ++ ys)
      (all_of (R x) (xs ++ ys) (λ y y_in. by y (Contains-append_cases xs ys y y_in)))
      (pairs_append xs ys (pairs_tail x xs first) second (λ z y z_in y_in. between z y (Contains-there x xs z z_in) y_in))
    where
      by : (y : X) → Contains xs y ⊎ Contains ys y → R x y
      by y (inl here) = pairs_head x y xs first here
      by y (inr there) = between x y (zero, omega arith, refl) there

  pub pairs_flat : {Y : Type 0} (f : Y → List X) (ys : List Y) → ((y : Y) → Contains ys y → AllPairs R (f y)) →
      AllPairs (λ y z. (p q : X) → Contains (f y) p → Contains (f z) q → R p q) ys → AllPairs R (flat_map f ys)
  pairs_flat f [] within between = λ i j d less inside. absurd (omega (arith, inside))
  pairs_flat f (y ∷ ys) within between =
      pairs_append (f y) (flat_map f ys) (within y (zero, omega arith, refl))
      (pairs_flat f ys (λ z z_in. within z (Contains-there y ys z z_in))
      (λ i j d less inside. between (suc i) (suc j) d (omega arith) (omega arith)))
      (λ p q p_in q_in.
      let (z, z_in, q_in_z) = from_flat f ys q q_in in
      later z z_in p q p_in q_in_z)
    where
      later : (z : _) → Contains ys z → (p q : X) → Contains (f y) p → Contains (f z) q → R p q
      later z (k, inside, is) =
          subst (λ z. (p q : X) → Contains (f y) p → Contains (f z) q → R p q) is
          (between zero (suc k) z (omega arith) (omega (arith, inside)))

-- Lists whose elements differ pairwise.

same_item : {X : Type 0} (xs : List X) (j : ℕ) (x y : X) → j < length xs → slice_index_or xs j x ≡ slice_index_or xs j y
same_item xs j x y h = get_or_default xs j x y h

-- Two members that are related in neither order are equal.
pub one_of : {X : Type 0} (R : X → X → Type 0) (xs : List X) (x y : X) → AllPairs R xs → Contains xs x → Contains xs y →
    (R x y → ⊥) → (R y x → ⊥) → x ≡ y
one_of {X} R xs x y pairs (i, i_in, i_is) (j, j_in, j_is) not_xy not_yx =
    elim (cases_order i j) [
      | inl same ↦ sym i_is ∙ ap (λ (k : ℕ). slice_index_or xs k x) same ∙ same_item xs j x y j_in ∙ j_is
      | inr apart ↦ elim apart [
        | inl less ↦ absurd (not_xy (pair i j less i_is (same_item xs j x y j_in ∙ j_is) (pairs i j x less j_in)))
        | inr more ↦ absurd (not_yx (pair2 j i more (same_item xs j x y j_in ∙ j_is) i_is (pairs j i x more i_in)))
      ]
    ]
  where
    pair : (i j : ℕ) → i < j → slice_index_or xs i x ≡ x → slice_index_or xs j x ≡ y →
        R (slice_index_or xs i x) (slice_index_or xs j x) → R x y
    pair i j l a b h = subst (λ (t : X). R x t) b (subst (λ (t : X). R t (slice_index_or xs j x)) a h)

    pair2 : (j i : ℕ) → j < i → slice_index_or xs j x ≡ y → slice_index_or xs i x ≡ x →
        R (slice_index_or xs j x) (slice_index_or xs i x) → R y x
    pair2 j i l a b h = subst (λ (t : X). R y t) b (subst (λ (t : X). R t (slice_index_or xs i x)) a h)

pub zeros : (k n : ℕ) → slice_index (replicate k 0) n ≡ 0
zeros zero n = refl
zeros (suc k) zero = refl
zeros (suc k) (suc n) = zeros k n

pub slice_get_found : {A : Type 0} (xs : List A) (i : ℕ) → i < length xs → (x : A) × (slice_get xs i ≡ Some x)
slice_get_found [] i within = absurd (omega arith)
slice_get_found (x ∷ xs) zero within = (x, refl)
slice_get_found (x ∷ xs) (suc i) within = slice_get_found xs i (omega arith)

-- An element of a list that isn't empty.
pub any_element : {X : Type 0} (xs : List X) (k : ℕ) → k < length xs → X
any_element [] k within = absurd (omega arith)
any_element (x ∷ xs) k within = x

-- An index of a member.
pub contains_at : {X : Type 0} (xs : List X) (x : X) → Contains xs x → (k : ℕ) × (slice_get xs k ≡ Some x)
contains_at xs x (k, within, is) = (k, slice_get-get_or xs k x within ∙ ap Some is)

pub taken_less : {X : Type 0} (n : ℕ) (xs : List X) → length (take n xs) ≤ n
taken_less n xs = grind (arith, common_steps)

-- A sum over a map.
pub sum_by-map : {X Y : Type 0} (f : Y → ℕ) (g : X → Y) (xs : List X) → sum_by f (map g xs) ≡ sum_by (λ x. f (g x)) xs
sum_by-map f g [] = refl
sum_by-map f g (x ∷ xs) =
    let a = sum_by-cons f (g x) (map g xs) in
    let b = sum_by-cons (λ x. f (g x)) x xs in
    let c = sum_by-map f g xs in
    omega (arith, a, b, c)

-- A range with one number more.
pub range_more : (a n : ℕ) → range_with_len a (suc n) ≡ range_with_len a n ++ (a + n) ∷ []
range_more a zero = ap (λ (x : ℕ). x ∷ []) (let e : a ≡ a + 0 = omega arith in e)
range_more a (suc n) =
    ap (λ (l : List ℕ). a ∷ l) (range_more (a + 1) n)
    ∙ ap (λ (x : ℕ). a ∷ (range_with_len (a + 1) n ++ x ∷ [])) (let e : a + 1 + n ≡ a + suc n = omega arith in e)

-- A list of numbers in which each is less than the next.
pub rising : (xs : List ℕ) → AllPairs (λ a b. a < b) xs → IsNonDecreasingBy (λ a. a) xs
rising xs up i j d upto within =
    ⊎_elim
    (λ (less : i < j). let r = up i j d less within in omega arith)
    (λ (more : j ≤ i). let e : i ≡ j = omega arith in let s = ap (λ (k : ℕ). slice_index_or xs k d) e in omega arith)
    (cases_lt i j)

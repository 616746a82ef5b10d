-- The members of groups, and the numbers found by the groups that contain an address.
use Rattle.std.proofs.Common.{◌≡◌, ◌∙◌, ◌+◌, ◌<◌, ◌==◌, ◌||◌, ◌&&◌, ◌++◌, ◌∷◌, [], ℕ, zero, suc, Bool, true, false, List, Option, Some}
use Rattle.std.proofs.Common.{None, refl, sym, ap, arith, length, map, filter}
use Rattle.std.specs.Prelude.{if◌then◌else◌, flat_map, slice_get}
use Rattle.std.specs.Global.{Vec}
use Rattle.std.specs.List.{list_any, range_with_len}
use Rattle.std.specs.List.Sorted.{IsStrictlyIncreasing}
use Rattle.std.specs.Option.{option_map_or}
use Rattle.std.proofs.lemmas.Bool.Decides.{nat_tests}
use Rattle.std.proofs.lemmas.List.Folds.{list_any-append}
use Rattle.std.proofs.lemmas.Option.{slice_get_within}
use Rattle.answer_runs.proofs.Ascending.{AreBelow, ascends_from, range_filter}
use Rattle.cover_lists.specs.declared.cover_tree.Cover.{Cover}
use Rattle.cover_lists.specs.declared.groups.RangedEntry.{RangedEntry}
use Rattle.cover_lists.specs.CoverIndex.{members_in, is_member, is_held}
use Rattle.cover_lists.specs.CoverTree.{holds}
use Rattle.cover_lists.specs.Groups.{group_holds}
use Rattle.cover_lists.proofs.SmallSteps.{or_false, or_true, and_true, and_false}

-- One more entry

zero_suc : (n : ℕ) → (zero == suc n) ≡ false
zero_suc n = grind (arith, nat_tests)

suc_zero : (n : ℕ) → (suc n == zero) ≡ false
suc_zero n = grind (arith, nat_tests)

suc_suc : (m n : ℕ) → (suc m == suc n) ≡ (m == n)
suc_suc m n = grind (arith, nat_tests)

member_push : (rs : List RangedEntry) (r : RangedEntry) (g k : ℕ) →
    is_member (rs ++ r ∷ []) g k ≡ (is_member rs g k || ((g == r.group) && (length rs == k)))
member_push [] r g zero = same (g == r.group)
  where
    same : (b : Bool) → b ≡ (b && true)
    same true = refl
    same false = refl
member_push [] r g (suc k) = sym (ap (λ (b : Bool). (g == r.group) && b) (zero_suc k) ∙ and_false (g == r.group))
member_push (x ∷ rs) r g zero =
    sym (ap (λ (b : Bool). (g == x.group) || ((g == r.group) && b)) (suc_zero (length rs))
    ∙ ap (λ (b : Bool). (g == x.group) || b) (and_false (g == r.group)) ∙ or_false (g == x.group))
member_push (x ∷ rs) r g (suc k) =
    member_push rs r g k ∙ ap (λ (b : Bool). is_member rs g k || ((g == r.group) && b)) (sym (suc_suc (length rs) k))

pub members_more : (rs : List RangedEntry) (r : RangedEntry) (old new : List (Vec ℕ)) (i : ℕ) → i ≡ length rs →
    ((g k : ℕ) → list_any (λ m. m == k) (members_in old g) ≡ is_member rs g k) →
    ((g : ℕ) → members_in new g ≡ (if g == r.group then members_in old g ++ i ∷ [] else members_in old g)) →
    (g k : ℕ) → list_any (λ m. m == k) (members_in new g) ≡ is_member (rs ++ r ∷ []) g k
members_more rs r old new i is before made g k =
    ap (list_any (λ m. m == k)) (made g) ∙ step (g == r.group) (before g k) ∙ sym (member_push rs r g k)
  where
    step : (b : Bool) → list_any (λ m. m == k) (members_in old g) ≡ is_member rs g k →
        list_any (λ m. m == k) (if b then members_in old g ++ i ∷ [] else members_in old g) ≡ (is_member rs g k || (b && (length rs == k)))
    step true e = list_any-append (λ m. m == k) (members_in old g) (i ∷ [])
        ∙ ap (λ (b : Bool). b || ((i == k) || false)) e
        ∙ ap (λ (b : Bool). is_member rs g k || b) (or_false (i == k) ∙ ap (λ (n : ℕ). n == k) is)
    step false e = e ∙ sym (or_false (is_member rs g k))

-- The members of the groups that contain an address

any_flat : {X : Type 0} (p : ℕ → Bool) (f : X → List ℕ) (xs : List X) → list_any p (flat_map f xs) ≡ list_any (λ x. list_any p (f x)) xs
any_flat p f [] = refl
any_flat p f (x ∷ xs) = list_any-append p (f x) (flat_map f xs) ∙ ap (λ (b : Bool). list_any p (f x) || b) (any_flat p f xs)

any_same : {X : Type 0} (p q : X → Bool) (xs : List X) → ((x : X) → p x ≡ q x) → list_any p xs ≡ list_any q xs
any_same p q [] e = refl
any_same p q (x ∷ xs) e = (λ i. e x i || any_same p q xs e i)

pub any_map : {X : Type 0} (p : ℕ → Bool) (f : X → ℕ) (xs : List X) → list_any p (map f xs) ≡ list_any (λ x. p (f x)) xs
any_map p f [] = refl
any_map p f (x ∷ xs) = ap (λ (b : Bool). p (f x) || b) (any_map p f xs)

pub any_filter : {X : Type 0} (t h : X → Bool) (xs : List X) → list_any t (filter h xs) ≡ list_any (λ x. t x && h x) xs
any_filter t h [] = refl
any_filter t h (x ∷ xs) = step (h x) (any_filter t h xs)
  where
    step : (c : Bool) → list_any t (filter h xs) ≡ list_any (λ x. t x && h x) xs →
        list_any t (if c then x ∷ filter h xs else filter h xs) ≡ ((t x && c) || list_any (λ x. t x && h x) xs)
    step true e = ap (λ (b : Bool). b || list_any t (filter h xs)) (sym (and_true (t x))) ∙ ap (λ (b : Bool). (t x && true) || b) e
    step false e = e ∙ sym (ap (λ (b : Bool). b || list_any (λ x. t x && h x) xs) (and_false (t x)))

none_any : (xs : List ℕ) → list_any (λ _. false) xs ≡ false
none_any [] = refl
none_any (x ∷ xs) = none_any xs

pub among_found : (covers tree : List Cover) (ranged : List RangedEntry) (members : List (Vec ℕ)) (a k : ℕ) (groups all : List ℕ) →
    ((g a : ℕ) → group_holds tree g a ≡ group_holds covers g a) →
    ((g k : ℕ) → list_any (λ m. m == k) (members_in members g) ≡ is_member ranged g k) →
    groups ≡ map (λ (c : Cover). c.group) (filter (holds a) tree) → all ≡ flat_map (members_in members) groups →
    list_any (λ m. m == k) all ≡ is_held covers ranged a k
among_found covers tree ranged members a k groups all held are found joined =
    ap (list_any (λ m. m == k)) joined ∙ any_flat (λ m. m == k) (members_in members) groups
    ∙ any_same (λ g. list_any (λ m. m == k) (members_in members g)) (λ g. is_member ranged g k) groups (λ g. are g k)
    ∙ by_entry (slice_get ranged k)
  where
    by_entry : (o : Option RangedEntry) → list_any (λ g. option_map_or (λ (r : RangedEntry). g == r.group) o false) groups
        ≡ option_map_or (λ (r : RangedEntry). group_holds covers r.group a) o false
    by_entry None = none_any groups
    by_entry (Some r) = ap (list_any (λ g. g == r.group)) found
        ∙ any_map (λ g. g == r.group) (λ (c : Cover). c.group) (filter (holds a) tree)
        ∙ any_filter (λ (c : Cover). c.group == r.group) (holds a) tree ∙ held r.group a

-- Ascending numbers are those of a range that are among them

pub held_within : (covers : List Cover) (ranged : List RangedEntry) (a k : ℕ) → is_held covers ranged a k ≡ true → k < length ranged
held_within covers ranged a k e = by_entry (slice_get ranged k) refl e
  where
    by_entry : (o : Option RangedEntry) → slice_get ranged k ≡ o →
        option_map_or (λ (r : RangedEntry). group_holds covers r.group a) o false ≡ true → k < length ranged
    by_entry None is e = absurd (cc)
    by_entry (Some r) is e = slice_get_within ranged k r is

any_later : (q x : ℕ) (xs : List ℕ) → list_any (λ o. o == q) xs ≡ true → list_any (λ o. o == q) (x ∷ xs) ≡ true
any_later q x xs e = ap (λ (b : Bool). (x == q) || b) e ∙ or_true (x == q)

any_first : (x : ℕ) (xs : List ℕ) → list_any (λ o. o == x) (x ∷ xs) ≡ true
any_first x xs = grind (arith, nat_tests)

below_of : (n : ℕ) (xs : List ℕ) → ((q : ℕ) → list_any (λ o. o == q) xs ≡ true → q < n) → AreBelow (0 + n) xs
below_of n [] h = tt
below_of n (x ∷ xs) h = (let g = h x (any_first x xs) in omega arith, below_of n xs (λ q e. h q (any_later q x xs e)))

pub numbers_are : (p : ℕ → Bool) (n : ℕ) (ks : List ℕ) → IsStrictlyIncreasing ks → ((q : ℕ) → list_any (λ o. o == q) ks ≡ p q) →
    ((q : ℕ) → p q ≡ true → q < n) → ks ≡ filter p (range_with_len 0 n)
numbers_are p n ks rising same within =
    sym (range_filter p n 0 ks (ascends_from 0 ks rising (λ h. omega arith)) (below_of n ks (λ q e. within q (sym (same q) ∙ e)))
    (λ q h l. same q))

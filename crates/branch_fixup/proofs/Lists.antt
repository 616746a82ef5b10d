-- Items of lists, by their indices.
use Rattle.std.proofs.Common.{◌≡◌, ℕ, zero, suc, ◌+◌, ◌<◌, List, [], ◌∷◌, ◌++◌, Some, Bool, true, false, cond, refl, sym}
use Rattle.std.proofs.Common.{ap, ◌∙◌, subst, arith, inl, inr, ◌⊎◌, take, drop}
use Rattle.std.specs.Prelude.{Contains, slice_get, flat_map, find, is_some}
use Rattle.std.proofs.lemmas.List.Elements.{Contains-append_left, Contains-append_right, Contains-append_cases}
use Rattle.std.proofs.lemmas.Option.{same_Some}
use Rattle.rb_bytes.proofs.Members.{Contains-nil}

pub at_drop : {X : Type 0} (n : ℕ) (xs : List X) (k m : ℕ) → m ≡ n + k → slice_get (drop n xs) k ≡ slice_get xs m
at_drop zero xs k m e = ap (slice_get xs) (let h : k ≡ m = omega (arith, e) in h)
at_drop (suc n) [] k m e = refl
at_drop (suc n) (x ∷ xs) k zero e = absurd (omega (arith, e))
at_drop (suc n) (x ∷ xs) k (suc m) e = at_drop n xs k m (omega (arith, e))

pub at_take : {X : Type 0} (n : ℕ) (xs : List X) (k : ℕ) → k < n → slice_get (take n xs) k ≡ slice_get xs k
at_take zero xs k h = absurd (omega (arith, h))
at_take (suc n) [] k h = refl
at_take (suc n) (x ∷ xs) zero h = refl
at_take (suc n) (x ∷ xs) (suc k) h = at_take n xs k (omega (arith, h))

pub take_in : {X : Type 0} (n : ℕ) (xs : List X) (k : ℕ) (x : X) → slice_get (take n xs) k ≡ Some x → k < n
take_in zero xs k x h = absurd (cc)
take_in (suc n) [] k x h = absurd (cc)
take_in (suc n) (y ∷ xs) zero x h = omega arith
take_in (suc n) (y ∷ xs) (suc k) x h = let i = take_in n xs k x h in omega (arith, i)

pub take_one_more : {X : Type 0} (n : ℕ) (xs : List X) (x : X) → slice_get xs n ≡ Some x → take (suc n) xs ≡ take n xs ++ x ∷ []
take_one_more n [] x h = absurd (cc)
take_one_more zero (y ∷ xs) x h = ap (λ (z : _). z ∷ []) (same_Some y x h)
take_one_more (suc n) (y ∷ xs) x h = ap (λ (zs : List _). y ∷ zs) (take_one_more n xs x h)

-- Lists of lists.

pub flat_at : {A B : Type 0} (f : A → List B) (xs : List A) (i : ℕ) (a : A) (b : B) → slice_get xs i ≡ Some a →
    Contains (f a) b → Contains (flat_map f xs) b
flat_at f [] i a b h c = absurd (cc)
flat_at f (x ∷ xs) zero a b h c = Contains-append_left (f x) (flat_map f xs) b
    (subst (λ (y : _). Contains (f y) b) (sym (same_Some x a h)) c)
flat_at f (x ∷ xs) (suc i) a b h c = Contains-append_right (f x) (flat_map f xs) b (flat_at f xs i a b h c)

-- the list that contains an item, and the item's index in it
pub record InFlat {A B : Type 0} (f : A → List B) (xs : List A) (b : B) : Type 0 where
  pub i : ℕ
  pub a : A
  pub at : slice_get xs i ≡ Some a
  pub has : Contains (f a) b

pub at_flat : {A B : Type 0} (f : A → List B) (xs : List A) (b : B) → Contains (flat_map f xs) b → InFlat f xs b
at_flat f [] b c = absurd (Contains-nil b c)
at_flat f (x ∷ xs) b c = elim (Contains-append_cases (f x) (flat_map f xs) b c) [
  | inl here ↦ record { i = 0; a = x; at = refl; has = here }
  | inr later ↦ let r = at_flat f xs b later in record { i = suc r.i; a = r.a; at = r.at; has = r.has }
]

-- Finding.

pub record Found {X : Type 0} (p : X → Bool) (xs : List X) : Type 0 where
  pub k : ℕ
  pub x : X
  pub at : slice_get xs k ≡ Some x
  pub passes : p x ≡ true

found_there : {X : Type 0} (p : X → Bool) (y : X) (ys : List X) → Found p ys → Found p (y ∷ ys)
found_there p y ys f = record { k = suc f.k; x = f.x; at = f.at; passes = f.passes }

-- an item passes, or none does
pub look : {X : Type 0} (p : X → Bool) (xs : List X) → Found p xs ⊎ ((k : ℕ) (x : X) → slice_get xs k ≡ Some x → p x ≡ false)
look p [] = inr (λ k x h. absurd (cc))
look p (y ∷ ys) = by (p y) refl (look p ys)
  where
    by : (b : Bool) → p y ≡ b → Found p ys ⊎ ((k : ℕ) (x : _) → slice_get ys k ≡ Some x → p x ≡ false) →
        Found p (y ∷ ys) ⊎ ((k : ℕ) (x : _) → slice_get (y ∷ ys) k ≡ Some x → p x ≡ false)
    by true e r = inl (record { k = 0; x = y; at = refl; passes = e })
    by false e (inl f) = inl (found_there p y ys f)
    by false e (inr n) = inr none
      where
        none : (k : ℕ) (x : _) → slice_get (y ∷ ys) k ≡ Some x → p x ≡ false
        none zero x h = ap p (sym (same_Some y x h)) ∙ e
        none (suc k) x h = n k x h

found_by : {X : Type 0} (p : X → Bool) (y : X) (ys : List X) (b : Bool) → p y ≡ b →
    (is_some (find p ys) ≡ true → Found p ys) → is_some (cond b (Some y) (find p ys)) ≡ true → Found p (y ∷ ys)
found_by p y ys true e more h = record { k = 0; x = y; at = refl; passes = e }
found_by p y ys false e more h = found_there p y ys (more h)

pub find_found : {X : Type 0} (p : X → Bool) (xs : List X) → is_some (find p xs) ≡ true → Found p xs
find_found p [] h = absurd (cc)
find_found p (y ∷ ys) h = found_by p y ys (p y) refl (find_found p ys) h

some_by : {X : Type 0} (p : X → Bool) (y : X) (ys : List X) (b : Bool) → (b ≡ false → is_some (find p ys) ≡ true) →
    is_some (cond b (Some y) (find p ys)) ≡ true
some_by p y ys true more = refl
some_by p y ys false more = more refl

pub found_find : {X : Type 0} (p : X → Bool) (xs : List X) (k : ℕ) (x : X) → slice_get xs k ≡ Some x → p x ≡ true →
    is_some (find p xs) ≡ true
found_find p [] k x h t = absurd (cc)
found_find p (y ∷ ys) zero x h t = some_by p y ys (p y) (λ f. absurd (let e : p y ≡ true = ap p (same_Some y x h)
    ∙ t in let c : true ≡ false = sym e ∙ f in cc))
found_find p (y ∷ ys) (suc k) x h t = some_by p y ys (p y) (λ f. found_find p ys k x h t)

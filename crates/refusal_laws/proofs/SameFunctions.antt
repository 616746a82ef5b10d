-- Two lists of functions with the same addresses and instructions. They may keep their instructions at other places in
-- memory, so they needn't be equal values; what is asked of functions is the same of both.
use Rattle.std.proofs.Common.{◌≡◌, ◌∙◌, ◌+◌, refl, sym, ap, ℕ, zero, suc, Bool, true, false, List, [], ◌∷◌, Option, None, Some}
use Rattle.std.proofs.Common.{length, map, flat_map, option_map, if◌then◌else◌}
use Rattle.std.specs.Prelude.{IsSomeAnd, find, nat_lt, not, position, slice_get}
use Rattle.std.specs.List.{list_any, prefix_len}
use Rattle.std.specs.Option.{option_map_or}
use Rattle.std.proofs.lemmas.List.{length-map}
use Rattle.rv_code.specs.declared.placed.Func.{Func}
use Rattle.rv_code.specs.declared.placed.Placed.{Placed}
use Rattle.rv_code.specs.layout.Flow.{insts_of}

-- Calls over a list of images.

module _ {X Y A : Type 0} (v : X → Y) where
  pub at_image : (F : Y → A) (d : A) (xs : List X) (k : ℕ) →
      option_map_or (λ x. F (v x)) (slice_get xs k) d ≡ option_map_or F (slice_get (map v xs) k) d
  at_image F d [] k = refl
  at_image F d (x ∷ xs) zero = refl
  at_image F d (x ∷ xs) (suc k) = at_image F d xs k

  -- what is asked of the place of an element, by its image
  pub same_at : (xs ys : List X) → map v xs ≡ map v ys → (F : Y → A) (d : A) (k : ℕ) →
      option_map_or (λ x. F (v x)) (slice_get xs k) d ≡ option_map_or (λ x. F (v x)) (slice_get ys k) d
  same_at xs ys same F d k =
      at_image F d xs k ∙ ap (λ (zs : List Y). option_map_or F (slice_get zs k) d) same ∙ sym (at_image F d ys k)

heads : {Y : Type 0} (x y : Y) (xs ys : List Y) → x ∷ xs ≡ y ∷ ys → x ≡ y
heads x y xs ys same = cc

tails : {Y : Type 0} (x y : Y) (xs ys : List Y) → x ∷ xs ≡ y ∷ ys → xs ≡ ys
tails x y xs ys same = cc

none-some : {Y : Type 0} (y : Y) → ◌≡◌ {A = Option Y} None (Some y) → ⊥
none-some y is = absurd (cc)

same_Some : {Y : Type 0} (x y : Y) → ◌≡◌ {A = Option Y} (Some x) (Some y) → x ≡ y
same_Some x y is = cc

module _ {X Y : Type 0} (v : X → Y) where
  pub found : (test : Y → Bool) (xs : List X) → option_map v (find (λ x. test (v x)) xs) ≡ find test (map v xs)
  found test [] = refl
  found test (x ∷ xs) = by (test (v x)) (found test xs)
    where
      by : (b : Bool) → option_map v (find (λ y. test (v y)) xs) ≡ find test (map v xs) →
          option_map v (if b then Some x else find (λ y. test (v y)) xs) ≡ (if b then Some (v x) else find test (map v xs))
      by true rest = refl
      by false rest = rest

  pub same_found : (xs ys : List X) → map v xs ≡ map v ys → (test : Y → Bool) →
      option_map v (find (λ x. test (v x)) xs) ≡ option_map v (find (λ x. test (v x)) ys)
  same_found xs ys same test = found test xs ∙ ap (find test) same ∙ sym (found test ys)

  passed : (test : Y → Bool) (xs : List X) → prefix_len (λ x. test (v x)) xs ≡ prefix_len test (map v xs)
  passed test [] = refl
  passed test (x ∷ xs) = ap (λ (n : ℕ). if test (v x) then 1 + n else 0) (passed test xs)

  placed : (test : Y → Bool) (xs : List X) → position (λ x. test (v x)) xs ≡ position test (map v xs)
  placed test xs =
      let size = sym (length-map xs v) in λ i.
      let at = passed (λ y. not (test y)) xs i in if nat_lt at (size i) then Some at else None

  pub same_position : (xs ys : List X) → map v xs ≡ map v ys → (test : Y → Bool) →
      position (λ x. test (v x)) xs ≡ position (λ x. test (v x)) ys
  same_position xs ys same test = placed test xs ∙ ap (position test) same ∙ sym (placed test ys)

  any : (test : Y → Bool) (xs : List X) → list_any (λ x. test (v x)) xs ≡ list_any test (map v xs)
  any test [] = refl
  any test (x ∷ xs) = rw (any test xs) refl

  pub same_any : (xs ys : List X) → map v xs ≡ map v ys → (test : Y → Bool) →
      list_any (λ x. test (v x)) xs ≡ list_any (λ x. test (v x)) ys
  same_any xs ys same test = any test xs ∙ ap (list_any test) same ∙ sym (any test ys)

  -- the element of the other list at the same place
  pub twin : (xs ys : List X) → map v xs ≡ map v ys → (k : ℕ) (x : X) → slice_get xs k ≡ Some x →
      (y : X) × (slice_get ys k ≡ Some y) × (v x ≡ v y)
  twin [] ys same k x is = absurd (none-some x is)
  twin (z ∷ xs) [] same k x is = absurd (cc)
  twin (z ∷ xs) (y ∷ ys) same zero x is = (y, refl, ap v (sym (same_Some z x is)) ∙ heads (v z) (v y) (map v xs) (map v ys) same)
  twin (z ∷ xs) (y ∷ ys) same (suc k) x is = twin xs ys (tails (v z) (v y) (map v xs) (map v ys) same) k x is

  -- what is said of the element at a place
  pub carry_some : (P Q : X → Type 0) → ((x y : X) → v x ≡ v y → P x → Q y) → (xs ys : List X) → map v xs ≡ map v ys →
      (k : ℕ) → IsSomeAnd (slice_get xs k) P → IsSomeAnd (slice_get ys k) Q
  carry_some P Q carry [] ys same k has = absurd has
  carry_some P Q carry (x ∷ xs) [] same k has = absurd (cc)
  carry_some P Q carry (x ∷ xs) (y ∷ ys) same zero has = carry x y (heads (v x) (v y) (map v xs) (map v ys) same) has
  carry_some P Q carry (x ∷ xs) (y ∷ ys) same (suc k) has =
      carry_some P Q carry xs ys (tails (v x) (v y) (map v xs) (map v ys) same) k has

-- Functions.

-- what a function is, wherever its instructions are kept
abbrev pub View : Type 0
View = ℕ × ℕ × Bool × List Placed

abbrev pub view : Func → View
view f = (f.start, f.end, f.whole, f.insts.items)

module _ (fs gs : List Func) (same : map view fs ≡ map view gs) where
  pub same_size : length fs ≡ length gs
  same_size = sym (length-map fs view) ∙ ap length same ∙ length-map gs view

  flat : (hs : List Func) → insts_of hs ≡ flat_map (λ (v : View). v.3) (map view hs)
  flat [] = refl
  flat (h ∷ hs) = rw (flat hs) refl

  pub same_insts : insts_of fs ≡ insts_of gs
  same_insts = flat fs ∙ ap (flat_map (λ (v : View). v.3)) same ∙ sym (flat gs)

-- The elements of a list that pass a test, by their numbers.
use Rattle.std.proofs.Common.{◌≡◌, ◌∙◌, ◌+◌, ◌∷◌, [], ℕ, zero, suc, Bool, true, false, List, Option, Some, refl, sym, ap, arith, drop}
use Rattle.std.proofs.Common.{◌<◌, length, map, filter, take, get_or}
use Rattle.std.proofs.lemmas.List.{take_more}
use Rattle.std.proofs.lemmas.List.Elements.{filter_map-append}
use Rattle.std.specs.Prelude.{if◌then◌else◌, filter_map, flat_map, option_map, slice_get, ◌++◌}
use Rattle.std.specs.List.{cons_option, range_with_len}
use Rattle.std.specs.Option.{option_map_or}

-- The first element after some.
first_behind : {X : Type 0} (xs : List X) (j : ℕ) (r : X) (rs : List X) → drop j xs ≡ r ∷ rs →
    (slice_get xs j ≡ Some r) × (drop (j + 1) xs ≡ rs)
first_behind [] zero r rs e = absurd (cc)
first_behind [] (suc j) r rs e = absurd (cc)
first_behind {X} (x ∷ xs) zero r rs e = (ap first e, ap rest e)
  where
    first : List X → Option X
    first l = slice_get l 0

    rest : List X → List X
    rest l = drop 1 l
first_behind (x ∷ xs) (suc j) r rs e =
    let p = first_behind xs j r rs e in
    let next : suc j + 1 ≡ suc (j + 1) = omega arith in
    (p.0, ap (λ (n : ℕ). drop n (x ∷ xs)) next ∙ p.1)

module _ {X : Type 0} (test : X → Bool) (xs : List X) where
  abbrev passes : ℕ → Bool
  passes k = option_map_or test (slice_get xs k) false

  passing_from : (rs : List X) (j : ℕ) → drop j xs ≡ rs →
      map (slice_get xs) (filter passes (range_with_len j (length rs))) ≡ map (λ (x : X). Some x) (filter test rs)
  passing_from [] j e = refl
  passing_from (r ∷ rs) j e =
      let p = first_behind xs j r rs e in
      ap (λ (b : Bool). map (slice_get xs) (if b then j ∷ more else more)) (ap (λ (o : Option X). option_map_or test o false) p.0)
      ∙ step (test r) p.0 (passing_from rs (j + 1) p.1)
    where
      more : List ℕ
      more = filter passes (range_with_len (j + 1) (length rs))

      step : (b : Bool) → slice_get xs j ≡ Some r → map (slice_get xs) more ≡ map (λ (x : X). Some x) (filter test rs) →
          map (slice_get xs) (if b then j ∷ more else more)
          ≡ map (λ (x : X). Some x) (if b then r ∷ filter test rs else filter test rs)
      step true here same = (λ i. here i ∷ same i)
      step false here same = same

  pub passing : map (slice_get xs) (filter passes (range_with_len 0 (length xs))) ≡ map (λ (x : X). Some x) (filter test xs)
  passing = passing_from xs 0 refl

-- The results for them

fused_options : {A B C : Type 0} (g : A → B) (h : B → Option C) (xs : List A) → filter_map h (map g xs) ≡ filter_map (λ x. h (g x)) xs
fused_options g h [] = refl
fused_options {C} g h (x ∷ xs) = ap (λ (l : List C). cons_option (h (g x)) l) (fused_options g h xs)

fused_lists : {A B C : Type 0} (g : A → B) (h : B → List C) (xs : List A) → flat_map h (map g xs) ≡ flat_map (λ x. h (g x)) xs
fused_lists g h [] = refl
fused_lists {C} g h (x ∷ xs) = ap (λ (l : List C). h (g x) ++ l) (fused_lists g h xs)

all_options : {X Y : Type 0} (f : X → Y) (xs : List X) → filter_map (option_map f) (map (λ (x : X). Some x) xs) ≡ map f xs
all_options f [] = refl
all_options {Y} f (x ∷ xs) = ap (λ (l : List Y). f x ∷ l) (all_options f xs)

all_lists : {X Y : Type 0} (f : X → List Y) (xs : List X) → flat_map (λ (o : Option X). option_map_or f o []) (map (λ (x : X). Some x) xs)
    ≡ flat_map f xs
all_lists f [] = refl
all_lists {Y} f (x ∷ xs) = ap (λ (l : List Y). f x ++ l) (all_lists f xs)

pub mapped_by_number : {X Y : Type 0} (f : X → Y) (test : X → Bool) (xs : List X) →
    filter_map (λ k. option_map f (slice_get xs k)) (filter (λ k. option_map_or test (slice_get xs k) false) (range_with_len 0 (length xs)))
    ≡ map f (filter test xs)
mapped_by_number f test xs =
    sym (fused_options (slice_get xs) (option_map f) (filter (passes test xs) (range_with_len 0 (length xs))))
    ∙ ap (filter_map (option_map f)) (passing test xs) ∙ all_options f (filter test xs)

pub listed_by_number : {X Y : Type 0} (f : X → List Y) (test : X → Bool) (xs : List X) →
    flat_map (λ k. option_map_or f (slice_get xs k) []) (filter (λ k. option_map_or test (slice_get xs k) false)
    (range_with_len 0 (length xs)))
    ≡ flat_map f (filter test xs)
listed_by_number {X} {Y} f test xs =
    sym (fused_lists (slice_get xs) (λ (o : Option X). option_map_or f o []) (filter (passes test xs) (range_with_len 0 (length xs))))
    ∙ ap (flat_map (λ (o : Option X). option_map_or f o [])) (passing test xs) ∙ all_lists f (filter test xs)

-- For the elements with some numbers, with one more number.
pub picked_more : {X Y : Type 0} (f : X → Option Y) (ns : List X) (i : ℕ) (d : X) (old new : List Y) → i < length ns →
    old ≡ filter_map f (take i ns) → new ≡ old ++ cons_option (f (get_or ns i d)) [] → new ≡ filter_map f (take (i + 1) ns)
picked_more {X} {Y} f ns i d old new h before made =
    made ∙ ap (λ (l : List Y). l ++ cons_option (f (get_or ns i d)) []) before
    ∙ sym (ap (filter_map f) (take_more ns i d h) ∙ filter_map-append f (take i ns) (get_or ns i d ∷ []))

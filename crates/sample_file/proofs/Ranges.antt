-- Lists that are made of the numbers from 0 on, one number at a time.
use Rattle.std.proofs.Common.{◌≡◌, ◌∙◌, ◌<◌, ℕ, ◌+◌, Bool, true, length, get_or, take, List, [], ◌∷◌, ◌++◌, map, flat_map, refl, sym, ap}
use Rattle.std.proofs.Common.{append_assoc, append-nil, zero-add}
use Rattle.std.specs.Prelude.{cond}
use Rattle.std.specs.List.{range_with_len, filter}
use Rattle.std.proofs.lemmas.List.{take_more, map-append}
use Rattle.std.proofs.lemmas.List.Elements.{filter_more}
use Rattle.std.proofs.lemmas.Grind.{flat_map-append}
use Rattle.std.proofs.lemmas.List.FromFn.{map-range_with_len_more}
use Rattle.sample_file.specs.SampleText.{own_lines, call_line, function_lines}

map_same : {X : Type 0} (xs : List X) → map (λ x. x) xs ≡ xs
map_same [] = refl
map_same (x ∷ xs) = ap (λ ys. x ∷ ys) (map_same xs)

range_more : (n : ℕ) → range_with_len 0 (n + 1) ≡ range_with_len 0 n ++ n ∷ []
range_more n = sym (map_same (range_with_len 0 (n + 1))) ∙ map-range_with_len_more (λ k. k) 0 n n (zero-add n)
    ∙ ap (λ xs. xs ++ n ∷ []) (map_same (range_with_len 0 n))

pub flat_map-range_more : {X : Type 0} (f : ℕ → List X) (n : ℕ) →
    flat_map f (range_with_len 0 (n + 1)) ≡ flat_map f (range_with_len 0 n) ++ f n
flat_map-range_more f n = ap (λ xs. flat_map f xs) (range_more n) ∙ flat_map-append f (range_with_len 0 n) (n ∷ [])
    ∙ ap (λ xs. flat_map f (range_with_len 0 n) ++ xs) (append-nil (f n))

-- the lines of one more function
pub lines_more : (n k : ℕ) (t0 t1 t2 : List ℕ) → t0 ≡ flat_map (function_lines n) (range_with_len 0 k) → t1 ≡ t0 ++ own_lines k →
    t2 ≡ t1 ++ call_line n k → t2 ≡ flat_map (function_lines n) (range_with_len 0 (k + 1))
lines_more n k t0 t1 t2 e0 e1 e2 = e2 ∙ ap (λ t. t ++ call_line n k) e1 ∙ append_assoc t0 (own_lines k) (call_line n k)
    ∙ ap (λ t. t ++ function_lines n k) e0 ∙ sym (flat_map-range_more (function_lines n) k)

-- Loops that compare the items of a list with items that are made of numbers.

pub same_more : {X : Type 0} (xs ys : List X) (i : ℕ) (d : X) → i < length xs → i < length ys → get_or xs i d ≡ get_or ys i d →
    take i xs ≡ take i ys → take (i + 1) xs ≡ take (i + 1) ys
same_more xs ys i d lx ly item seen = take_more xs i d lx ∙ ap (λ zs. zs ++ get_or xs i d ∷ []) seen
    ∙ ap (λ z. take i ys ++ z ∷ []) item ∙ sym (take_more ys i d ly)

pub cells_more : {Y : Type 0} (h : ℕ → Y) (xs : List Y) (i k : ℕ) (d : Y) → i < length xs →
    take i xs ≡ map h (range_with_len 0 k) → get_or xs i d ≡ h k → take (i + 1) xs ≡ map h (range_with_len 0 (k + 1))
cells_more h xs i k d lx seen item = take_more xs i d lx ∙ ap (λ zs. zs ++ get_or xs i d ∷ []) seen
    ∙ ap (λ z. map h (range_with_len 0 k) ++ z ∷ []) item ∙ sym (map-range_with_len_more h 0 k k (zero-add k))

pub shapes_more : {X Y : Type 0} (g : X → Y) (h : ℕ → Y) (xs : List X) (i k : ℕ) (d : X) → i < length xs →
    map g (take i xs) ≡ map h (range_with_len 0 k) → g (get_or xs i d) ≡ h k →
    map g (take (i + 1) xs) ≡ map h (range_with_len 0 (k + 1))
shapes_more g h xs i k d lx seen item = ap (λ zs. map g zs) (take_more xs i d lx)
    ∙ map-append g (take i xs) (get_or xs i d ∷ []) ∙ ap (λ zs. zs ++ g (get_or xs i d) ∷ []) seen
    ∙ ap (λ z. map h (range_with_len 0 k) ++ z ∷ []) item ∙ sym (map-range_with_len_more h 0 k k (zero-add k))

pub kept_more : {X Y : Type 0} (g : X → Y) (t : X → Bool) (h : ℕ → Y) (xs : List X) (i k : ℕ) (d : X) → i < length xs →
    t (get_or xs i d) ≡ true → map g (filter t (take i xs)) ≡ map h (range_with_len 0 k) → g (get_or xs i d) ≡ h k →
    map g (filter t (take (i + 1) xs)) ≡ map h (range_with_len 0 (k + 1))
kept_more g t h xs i k d lx passes seen item = ap (λ zs. map g zs) (filter_more t xs i d lx)
    ∙ ap (λ b. map g (filter t (take i xs) ++ cond b (get_or xs i d ∷ []) [])) passes
    ∙ map-append g (filter t (take i xs)) (get_or xs i d ∷ []) ∙ ap (λ zs. zs ++ g (get_or xs i d) ∷ []) seen
    ∙ ap (λ z. map h (range_with_len 0 k) ++ z ∷ []) item ∙ sym (map-range_with_len_more h 0 k k (zero-add k))

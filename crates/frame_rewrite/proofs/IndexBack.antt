-- The index that is made of the kept parts of entries is the index of the entries.
use Rattle.std.proofs.Common.{ℕ, suc, ◌+◌, ◌*◌, ◌≤◌, ◌<◌, ◌≡◌, List, [], ◌∷◌, ◌++◌, refl, sym, ◌∙◌, ap, subst, arith, length, map, get_or, set}
use Rattle.std.proofs.Common.{flat_map, length-append}
use Rattle.std.specs.Prelude.{IsPermutation, AllPairs}
use Rattle.std.specs.List.{swap}
use Rattle.std.specs.List.Sorted.{IsNonDecreasingBy, apply_swaps, SwapsInRange}
use Rattle.std.proofs.lemmas.Grind.{common_steps}
use Rattle.std.proofs.Math.ListN.{get_or-map as mapped-item}
use Rattle.std.proofs.lemmas.List.{get_or-map, map-set}
use Rattle.std.proofs.lemmas.List.Folds.{flat_map-map}
use Rattle.byteorder.specs.Endian.{little_bytes}
use Rattle.cfi_rows.specs.declared.frame_table.Fde.{Fde as ReadFde}
use Rattle.cfi_rows.specs.Entries.{Fde}
use Rattle.cfi_rows.specs.ReadEntries.{fde_of}
use Rattle.frame_rewrite.specs.Index.{IsIndexOf, pair_bytes, distance, distance_bytes}
use Rattle.frame_rewrite.proofs.IndexSearch.{leads-to}
use Rattle.frame_rewrite.proofs.NumbersBack.{length-little}

-- the pair of a kept part of an entry
abbrev pub pairs_of : ℕ → ℕ → ReadFde → List ℕ
pairs_of at index f = pair_bytes at index f.start f.place

map-swap : {X Y : Type 0} (f : X → Y) (xs : List X) (i j : ℕ) → map f (swap xs i j) ≡ swap (map f xs) i j
map-swap f [] i j = refl
map-swap f (x ∷ xs) i j =
    map-set f (set (x ∷ xs) i (get_or (x ∷ xs) j x)) j (get_or (x ∷ xs) i x)
    ∙ ap (λ ys. set ys j (f (get_or (x ∷ xs) i x))) (map-set f (x ∷ xs) i (get_or (x ∷ xs) j x))
    ∙ ap (λ y. set (set (map f (x ∷ xs)) i (f (get_or (x ∷ xs) j x))) j y) (sym (mapped-item f (x ∷ xs) i x))
    ∙ ap (λ y. set (set (map f (x ∷ xs)) i y) j (get_or (map f (x ∷ xs)) i (f x))) (sym (mapped-item f (x ∷ xs) j x))

map-swaps : {X Y : Type 0} (f : X → Y) (xs : List X) (moves : List (ℕ × ℕ))
    → map f (apply_swaps xs moves) ≡ apply_swaps (map f xs) moves
map-swaps f xs [] = refl
map-swaps f xs (m ∷ ms) = map-swap f (apply_swaps xs ms) m.0 m.1 ∙ ap (λ ys. swap ys m.0 m.1) (map-swaps f xs ms)

length-map : {X Y : Type 0} (f : X → Y) (xs : List X) → length (map f xs) ≡ length xs
length-map f xs = grind (arith, common_steps)

ascends : (zs : List Fde) (kept : List ReadFde) → map fde_of zs ≡ kept → IsNonDecreasingBy (λ f. f.start) kept
    → AllPairs (λ (f g : Fde). f.start ≤ g.start) zs
ascends zs kept e up i j d before inside =
    let l : length kept ≡ length zs = ap length (sym e) ∙ length-map fde_of zs in
    let read = λ (k : ℕ) (h : k < length zs). ap (λ (f : ReadFde). f.start)
    (ap (λ ys. get_or ys k (fde_of d)) (sym e) ∙ get_or-map fde_of zs k d (fde_of d) h) in
    ordered _ _ _ _ (read i (omega arith)) (read j inside) (up i j (fde_of d) (omega arith) (omega arith)) where
      ordered : (a b c d : ℕ) → a ≡ b → c ≡ d → a ≤ c → b ≤ d
      ordered a b c d e f h = omega arith

pairs-same : (at index : ℕ) (zs : List Fde) (kept : List ReadFde) → map fde_of zs ≡ kept
    → flat_map (pairs_of at index) kept ≡ flat_map (λ (f : Fde). pair_bytes at index f.start f.place) zs
pairs-same at index zs kept e = ap (flat_map (pairs_of at index)) (sym e) ∙ flat_map-map (pairs_of at index) fde_of zs

pub index-of : (at index : ℕ) (list : List Fde) (were kept : List ReadFde) (bytes : List ℕ) → map fde_of list ≡ were
    → IsPermutation were kept → IsNonDecreasingBy (λ f. f.start) kept
    → bytes ≡ (1 ∷ 0x1b ∷ 0x03 ∷ 0x3b ∷ []) ++ distance_bytes at (index + 4) ++ little_bytes 4 (length kept) ++ flat_map
    (pairs_of at index) kept → IsIndexOf at index list bytes
index-of at index list were kept bytes e p up is =
    let same : map fde_of (apply_swaps list p.moves) ≡ kept = map-swaps fde_of list p.moves
    ∙ ap (λ ys. apply_swaps ys p.moves) e ∙ sym p.is in
    let l : length were ≡ length list = ap length (sym e) ∙ length-map fde_of list in
    let m : length kept ≡ length (apply_swaps list p.moves) = ap length (sym same)
    ∙ length-map fde_of (apply_swaps list p.moves) in
    let swapped : IsPermutation list (apply_swaps list p.moves) =
    record { moves = p.moves; below = subst (λ (n : ℕ). SwapsInRange n p.moves) l p.below; is = refl } in
    let rise = ascends (apply_swaps list p.moves) kept same up in
    record {
      sorted = apply_swaps list p.moves;
      same = swapped;
      ascend = rise;
      leads = leads-to list (apply_swaps list p.moves) swapped rise;
      bytes_are = is
          ∙ ap (λ (n : ℕ). (1 ∷ 0x1b ∷ 0x03 ∷ 0x3b ∷ []) ++ distance_bytes at (index + 4) ++ little_bytes 4 n ++ flat_map
          (pairs_of at index) kept) m
          ∙ ap (λ (l : List ℕ). (1 ∷ 0x1b ∷ 0x03 ∷ 0x3b ∷ []) ++ distance_bytes at (index + 4) ++ little_bytes 4
          (length (apply_swaps list p.moves)) ++ l) (pairs-same at index (apply_swaps list p.moves) kept same);
    }

pairs-size : (at index : ℕ) (kept : List ReadFde) → length (flat_map (pairs_of at index) kept) ≡ 8 * length kept
pairs-size at index [] = refl
pairs-size at index (f ∷ fs) =
    let e = length-append (pairs_of at index f) (flat_map (pairs_of at index) fs) in
    let p = length-append (little_bytes 4 (distance f.start index)) (little_bytes 4 (distance (at + f.place) index)) in
    sums _ _ _ _ _ (length fs) e p (length-little 4 (distance f.start index))
    (length-little 4 (distance (at + f.place) index)) (pairs-size at index fs) where
      sums : (t u a b c n : ℕ) → t ≡ u + c → u ≡ a + b → a ≡ 4 → b ≡ 4 → c ≡ 8 * n → t ≡ 8 * suc n
      sums t u a b c n e f g h k = omega arith

pub index-size : (at index : ℕ) (list : List Fde) (were kept : List ReadFde) (head a b bytes : List ℕ)
    → map fde_of list ≡ were → length kept ≡ length were
    → length head ≡ 4 → length a ≡ 4 → length b ≡ 4 → bytes ≡ head ++ a ++ b ++ flat_map (pairs_of at index) kept
    → length bytes ≡ 12 + 8 * length list
index-size at index list were kept head a b bytes e p h x y is =
    let l : length were ≡ length list = ap length (sym e) ∙ length-map fde_of list in
    sums _ _ _ _ _ _ _ (length kept) (length list) (ap length is
    ∙ length-append (head ++ a ++ b) (flat_map (pairs_of at index) kept)) (length-append (head ++ a) b)
    (length-append head a) h x y
    (pairs-size at index kept) (p ∙ l) where
      sums : (t u v h a b c n m : ℕ) → t ≡ u + c → u ≡ v + b → v ≡ h + a → h ≡ 4 → a ≡ 4 → b ≡ 4 → c ≡ 8 * n → n ≡ m
          → t ≡ 12 + 8 * m
      sums t u v h a b c n m e f g i j k l o = omega arith

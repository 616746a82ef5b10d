-- The need of all entries, from the numbers that are counted for each.
use Rattle.std.proofs.Common.{◌≡◌, ℕ, ◌+◌, ◌*◌, Bool, List, [], ◌∷◌, ap, arith, refl}
use Rattle.std.specs.Prelude.{flat_map, sum_by}
use Rattle.std.specs.List.Sorted.{IsPermutation}
use Rattle.rv_code.specs.declared.placed.Block.{Block}
use Rattle.rv_code.specs.declared.placed.Func.{Func}
use Rattle.cfi_rows.specs.declared.frame_table.Fde.{Fde}
use Rattle.area_room.specs.EntryNeeds.{entries_need, has_inst_in, is_strictly_between, pieces_of, size_of}
use Rattle.rb_bytes.proofs.RangeCounts.{count, count-cons, count-permutation}

-- The order of bounds doesn't matter.
pub entries_need-permutation : (funcs : List Func) (blocks : List Block) (xs ys : List ℕ) (entries : List Fde) →
    IsPermutation xs ys → entries_need funcs blocks ys entries ≡ entries_need funcs blocks xs entries
entries_need-permutation funcs blocks xs ys entries same = ap (λ (f : Fde → ℕ). sum_by f entries) (λ i f. one f i) where
  one : (f : Fde) → pieces_of funcs blocks ys f * size_of f ≡ pieces_of funcs blocks xs f * size_of f
  one f =
      ap (λ (n : ℕ). (count (has_inst_in funcs f.start f.end) blocks + f.rows + n) * size_of f)
      (count-permutation (is_strictly_between f.start f.end) xs ys same)

-- both bounds of each entry
pub count_bounds : {X : Type 0} (start end : X → ℕ) (p : ℕ → Bool) (xs : List X) →
    count p (flat_map (λ x. start x ∷ end x ∷ []) xs) ≡ count (λ x. p (start x)) xs + count (λ x. p (end x)) xs
count_bounds start end p [] = refl
count_bounds start end p (x ∷ xs) =
    let a = count-cons p (start x) (end x ∷ flat_map (λ x. start x ∷ end x ∷ []) xs) in
    let b = count-cons p (end x) (flat_map (λ x. start x ∷ end x ∷ []) xs) in
    let c = count-cons (λ x. p (start x)) x xs in
    let d = count-cons (λ x. p (end x)) x xs in
    let e = count_bounds start end p xs in
    omega (arith, a, b, c, d, e)

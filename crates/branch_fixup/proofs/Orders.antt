-- A plan's order: each index of a list, once.
use Rattle.std.proofs.Common.{◌≡◌, ◌≢◌, ℕ, zero, suc, ◌+◌, ◌<◌, List, [], ◌∷◌, ◌++◌, length, Some, sym, ap, ◌∙◌, arith}
use Rattle.std.proofs.Common.{inl, inr, All, zero-add}
use Rattle.std.specs.Prelude.{slice_get, AllPairs}
use Rattle.std.specs.List.{range_with_len}
use Rattle.std.proofs.lemmas.Bool.{cases_order}
use Rattle.std.proofs.lemmas.List.FromFn.{length-range_with_len, get_or-range_with_len}
use Rattle.std.proofs.lemmas.List.Elements.{All-contains}
use Rattle.std.proofs.lemmas.List.Sorted.{All-permutation, Contains-permutation, length_permutation}
use Rattle.std.proofs.lemmas.Option.{slice_get_within, get_or_from_slice_get}
use Rattle.rb_bytes.proofs.Permuted.{AllPairs-permutation}
use Rattle.rb_bytes.proofs.ListLemmas.{contains_at}
use Rattle.rv_code.specs.declared.placed.Block.{Block}
use Rattle.rv_code.specs.layout.BlockOrders.{HasAllBlocks}
use Rattle.rv_code.proofs.lists.Follows.{at_contains}

range_below : (n : ℕ) → All (λ x. x < n) (range_with_len 0 n)
range_below n = λ k d within. let l = length-range_with_len 0 n in let e =
    get_or-range_with_len 0 n k d (omega (arith, within, l)) in omega (arith, within, l, e)

range_differ : (n : ℕ) → AllPairs (λ x y. x ≢ y) (range_with_len 0 n)
range_differ n = λ i j d less within.
    let l = length-range_with_len 0 n in
    let e = get_or-range_with_len 0 n i d (omega (arith, less, within, l)) in
    let f = get_or-range_with_len 0 n j d (omega (arith, within, l)) in
    λ same. absurd (omega (arith, less, e, f, same))

pub order_length : (blocks : List Block) (order : List ℕ) → HasAllBlocks blocks order → length order ≡ length blocks
order_length blocks order is = length_permutation (range_with_len 0 (length blocks)) order is
    ∙ length-range_with_len 0 (length blocks)

pub order_within : (blocks : List Block) (order : List ℕ) → HasAllBlocks blocks order → (k m : ℕ) →
    slice_get order k ≡ Some m → m < length blocks
order_within blocks order is k m at =
    All-contains (λ x. x < length blocks) order m (All-permutation (λ x. x < length blocks)
    (range_with_len 0 (length blocks)) order is (range_below (length blocks))) (at_contains order k m at)

pub order_has : (blocks : List Block) (order : List ℕ) → HasAllBlocks blocks order → (m : ℕ) → m < length blocks →
    (k : ℕ) × (slice_get order k ≡ Some m)
order_has blocks order is m within =
    let l = length-range_with_len 0 (length blocks) in
    contains_at order m (Contains-permutation (range_with_len 0 (length blocks)) order m is
    (m, omega (arith, within, l), get_or-range_with_len 0 (length blocks) m m within ∙ zero-add m))

pub order_differ : (blocks : List Block) (order : List ℕ) → HasAllBlocks blocks order → AllPairs (λ x y. x ≢ y) order
order_differ blocks order is = AllPairs-permutation (λ (x y : ℕ). x ≢ y) (λ x y ne e. ne (sym e))
    (range_with_len 0 (length blocks)) order is (range_differ (length blocks))

pub order_once : (blocks : List Block) (order : List ℕ) → HasAllBlocks blocks order → (i j m n : ℕ) →
    slice_get order i ≡ Some m → slice_get order j ≡ Some n → m ≡ n → i ≡ j
order_once blocks order is i j m n at_i at_j e = elim (cases_order i j) [
  | inl same ↦ same
  | inr apart ↦ elim apart [
    | inl less ↦
        let ne = order_differ blocks order is i j 0 less (slice_get_within order j n at_j) in
        absurd (ne (get_or_from_slice_get order i m 0 at_i ∙ e ∙ sym (get_or_from_slice_get order j n 0 at_j)))
    | inr more ↦
        let ne = order_differ blocks order is j i 0 more (slice_get_within order i m at_i) in
        absurd (ne (get_or_from_slice_get order j n 0 at_j ∙ sym e ∙ sym (get_or_from_slice_get order i m 0 at_i)))
  ]
]

pub order_all_within : (blocks : List Block) (order : List ℕ) → HasAllBlocks blocks order → All (λ m. m < length blocks) order
order_all_within blocks order is = All-permutation (λ x. x < length blocks) (range_with_len 0 (length blocks)) order is
    (range_below (length blocks))

-- An order that has each index once is a permutation.

pub range_more : (a n : ℕ) → range_with_len a (suc n) ≡ range_with_len a n ++ (a + n) ∷ []
range_more a zero = ap (λ (x : ℕ). x ∷ []) (let e : a ≡ a + 0 = omega arith in e)
range_more a (suc n) =
    ap (λ (l : List ℕ). a ∷ l) (range_more (a + 1) n)
    ∙ ap (λ (x : ℕ). a ∷ (range_with_len (a + 1) n ++ x ∷ [])) (let e : a + 1 + n ≡ a + suc n = omega arith in e)

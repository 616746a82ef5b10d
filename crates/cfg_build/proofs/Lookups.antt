-- Searches for numbers in ascending lists, for blocks by their start addresses, and for the pairs of a jump.
use Rattle.std.proofs.Common.{◌≡◌, ◌∙◌, sym, ap, refl, ℕ, ◌+◌, ◌-◌, ◌<◌, ◌≤◌, ⊎_elim, true, false, nat_le, nat_lt, List}
use Rattle.std.proofs.Common.{Option, Some, None, take, drop, length, slice_index_or, arith}
use Rattle.std.specs.Prelude.{◌↔◌, AllPairs, Contains, slice_get}
use Rattle.std.specs.List.Sorted.{IsNonDecreasingBy, IsPartitionPoint}
use Rattle.std.proofs.lemmas.Bool.{cases_lt, leb-true, leb-false, ltb-true, ltb-false}
use Rattle.std.proofs.lemmas.List.{get_or-drop, get_or-take, length-drop, length-take}
use Rattle.std.proofs.lemmas.Option.{same_Some, slice_get_read}
use Rattle.rv_code.specs.declared.placed.Block.{Block}
use Rattle.rv_code.specs.layout.Lists.{IsPairBefore}
use Rattle.cfg_build.specs.EdgeLists.{IsBlockAt}
use Rattle.rb_bytes.proofs.Options.{of_some, some_and}

-- An element by its index, as a Vec gives it.
pub at_index : {A : Type 0} (xs : List A) (i : ℕ) (x : A) → i < length xs → x ≡ slice_index_or xs i x → slice_get xs i ≡ Some x
at_index xs i x within is = slice_get_read xs (length xs) i x refl within is

-- Blocks.

module _ (blocks : List Block) (starts : List ℕ) (func a place : ℕ) (b : Block) where
  pub block_other : slice_get blocks place ≡ Some b → ((k : ℕ) → (Some place ≡ Some k) ↔ (slice_get starts k ≡ Some a)) →
      (b.func ≡ func → ⊥) → (t : ℕ) → (◌≡◌ {A = Option ℕ} None (Some t)) ↔ IsBlockAt blocks starts func a t
  block_other at is other t = (
    (λ none. absurd (cc)),
    (λ begins.
        let same : place ≡ t = same_Some place t ((is t).1 begins.begins) in
        let here = of_some (λ b. func ≡ b.func) (slice_get blocks t) b (ap (slice_get blocks) (sym same)
        ∙ at) begins.one_function in
        absurd (other (sym here))),
  )

  pub block_same : slice_get blocks place ≡ Some b → ((k : ℕ) → (Some place ≡ Some k) ↔ (slice_get starts k ≡ Some a)) →
      b.func ≡ func → (t : ℕ) → (Some place ≡ Some t) ↔ IsBlockAt blocks starts func a t
  block_same at is same t = (
    (λ some. record {
      begins = (is t).0 some;
      one_function =
          some_and (λ b. func ≡ b.func) (slice_get blocks t) b (ap (slice_get blocks) (sym (same_Some place t some))
          ∙ at) (sym same);
    }),
    (λ begins. (is t).1 begins.begins),
  )

-- The pairs of a jump.

pub pairs_rise : (xs : List (ℕ × ℕ)) → AllPairs IsPairBefore xs → IsNonDecreasingBy (λ e. e.0) xs
pairs_rise xs up i j d upto within =
    ⊎_elim
    (λ (less : i < j). ⊎_elim
    (λ (below : (slice_index_or xs i d).0 < (slice_index_or xs j d).0). omega arith)
    (λ (same, below). omega arith)
    (up i j d less within))
    (λ (more : j ≤ i).
    let e : i ≡ j = omega arith in
    let s = ap (λ (k : ℕ). (slice_index_or xs k d).0) e in
    omega arith)
    (cases_lt i j)

pub pairs_between : (xs upto pairs : List (ℕ × ℕ)) (n m jump : ℕ) → upto ≡ take n xs → pairs ≡ drop m upto → n ≤ length xs →
    IsPartitionPoint (λ e. nat_le e.0 jump ≡ true) (λ e. nat_le e.0 jump ≡ false) xs n →
    IsPartitionPoint (λ e. nat_lt e.0 jump ≡ true) (λ e. nat_lt e.0 jump ≡ false) upto m →
    (e : ℕ × ℕ) → Contains pairs e ↔ (Contains xs e × (e.0 ≡ jump))
pairs_between xs upto pairs n m jump front back bound high low e = (into, out)
  where
    upto_len : length upto ≡ n
    upto_len = let l = length-take n xs in let l' = ap length front in omega arith

    pairs_len : length pairs ≡ n - m
    pairs_len = let l = length-drop m upto in let l' = ap length back in let l'' = upto_len in omega arith

    in_back : (k : ℕ) → slice_index_or pairs k e ≡ slice_index_or upto (m + k) e
    in_back k = ap (λ (ys : List (ℕ × ℕ)). slice_index_or ys k e) back ∙ get_or-drop m upto k e

    in_front : (k : ℕ) → k < n → slice_index_or upto k e ≡ slice_index_or xs k e
    in_front k early = ap (λ (ys : List (ℕ × ℕ)). slice_index_or ys k e) front ∙ get_or-take n xs k e early

    into : Contains pairs e → Contains xs e × (e.0 ≡ jump)
    into (k, within, there) =
        let len = pairs_len in
        let len' = upto_len in
        let early : m + k < n = omega arith in
        let at : slice_index_or upto (m + k) e ≡ e = sym (in_back k) ∙ there in
        let at' : slice_index_or xs (m + k) e ≡ e = sym (in_front (m + k) early) ∙ at in
        let upper = leb-true _ _ (high.0 (m + k) e (omega arith) early) in
        let lower = ltb-false _ _ (low.1 (m + k) e (omega arith) (omega arith)) in
        let first = ap (λ (x : ℕ × ℕ). x.0) at in
        let first' = ap (λ (x : ℕ × ℕ). x.0) at' in
        ((m + k, omega arith, at'), omega arith)

    out : Contains xs e × (e.0 ≡ jump) → Contains pairs e
    out ((k, within, there), same) =
        let len = pairs_len in
        let len' = upto_len in
        let first = ap (λ (x : ℕ × ℕ). x.0) there in
        let early : k < n = ⊎_elim
        (λ (less : k < n). less)
        (λ (more : n ≤ k). absurd (let above = leb-false _ _ (high.1 k e more within) in omega arith))
        (cases_lt k n) in
        let at : slice_index_or upto k e ≡ e = in_front k early ∙ there in
        let first' = ap (λ (x : ℕ × ℕ). x.0) at in
        let late : m ≤ k = ⊎_elim
        (λ (less : k < m). absurd (let below = ltb-true _ _ (low.0 k e (omega arith) less) in omega arith))
        (λ (more : m ≤ k). more)
        (cases_lt k m) in
        let e' : m + (k - m) ≡ k = omega arith in
        (k - m, omega arith, in_back (k - m) ∙ ap (λ (j : ℕ). slice_index_or upto j e) e' ∙ at)

-- The blocks of a function are those of a range.
use Rattle.std.proofs.Common.{◌≡◌, ◌∙◌, ◌+◌, ◌-◌, ◌<◌, ◌≤◌, ℕ, true, false, List, AllPairs, length, get_or, arith, ap, sym, take, drop}
use Rattle.std.proofs.Common.{map, nat_le, nat_lt, ⊎_elim, refl, suc, zero, ◌++◌, [], ◌∷◌, append-nil, append_assoc, flat_map}
use Rattle.std.specs.List.{range_with_len}
use Rattle.std.specs.List.Sorted.{IsNonDecreasingBy, IsPartitionPoint}
use Rattle.std.proofs.lemmas.Grind.{flat_map-append}
use Rattle.std.proofs.lemmas.Bool.{cases_lt, leb-false, ltb-true}
use Rattle.std.proofs.lemmas.List.{ext_get_or, get_or-drop, get_or-take, length-drop, length-take}
use Rattle.std.proofs.lemmas.List.FromFn.{get_or-range_with_len, length-range_with_len}
use Rattle.rv_code.specs.declared.placed.Block.{Block}
use Rattle.rv_code.specs.layout.BlockOrders.{blocks_of_function, func_of_block}
use Rattle.rv_code.specs.layout.Blocks.{IsBefore}
use Rattle.flow_infer.specs.declared.flow.Link.{Link}
use Rattle.flow_infer.specs.Links.{IsLinkBefore, counted_ends, func_of_ends}
use Rattle.flow_infer.proofs.RepairedLists.{func_at_place}
use Rattle.flow_infer.proofs.Runs.{ordered_rise, run_filtered}
use Rattle.flow_text.proofs.FlowOrder.{unmapped}

-- Ranges of numbers.

pub range_more : (a n : ℕ) → range_with_len a (suc n) ≡ range_with_len a n ++ (a + n) ∷ []
range_more a zero = ap (λ (x : ℕ). x ∷ []) (let e : a ≡ a + 0 = omega arith in e)
range_more a (suc n) =
    ap (λ (l : List ℕ). a ∷ l) (range_more (a + 1) n)
    ∙ ap (λ (x : ℕ). a ∷ (range_with_len (a + 1) n ++ x ∷ [])) (let e : a + 1 + n ≡ a + suc n = omega arith in e)

-- the text for a range with one more number
pub lines_more : (f : ℕ → List ℕ) (first place : ℕ) (old text new : List ℕ) → first ≤ place →
    text ≡ old ++ flat_map f (range_with_len first (place - first)) → new ≡ text ++ f place →
    new ≡ old ++ flat_map f (range_with_len first (place + 1 - first))
lines_more f first place old text new upto so_far more =
    let n : ℕ = place - first in
    let next : range_with_len first (place + 1 - first) ≡ range_with_len first n ++ place ∷ [] =
    ap (range_with_len first) (let e : place + 1 - first ≡ suc n = omega arith in e) ∙ range_more first n
    ∙ ap (λ k. range_with_len first n ++ k ∷ []) (let e : first + n ≡ place = omega arith in e) in
    more ∙ ap (λ t. t ++ f place) so_far
    ∙ append_assoc old (flat_map f (range_with_len first n)) (f place)
    ∙ ap (λ ls. old ++ (flat_map f (range_with_len first n) ++ ls)) (sym (append-nil (f place)))
    ∙ sym (ap (λ ls. old ++ ls) (flat_map-append f (range_with_len first n) (place ∷ [])))
    ∙ sym (ap (λ ks. old ++ flat_map f ks) next)

pub lines_up : (f : ℕ → List ℕ) (place : ℕ) (text new : List ℕ) → text ≡ flat_map f (range_with_len 0 place) →
    new ≡ text ++ f place → new ≡ flat_map f (range_with_len 0 (place + 1))
lines_up f place text new so_far more =
    lines_more f 0 place [] text new (omega arith)
    (so_far ∙ ap (λ n. flat_map f (range_with_len 0 n)) (let e : place ≡ place - 0 = omega arith in e)) more
    ∙ ap (λ n. flat_map f (range_with_len 0 n)) (let e : place + 1 - 0 ≡ place + 1 = omega arith in e)

no_block : Block
no_block = record { func = 0; first = 0; last = 0 }

pub funcs_up : (blocks : List Block) → AllPairs IsBefore blocks → IsNonDecreasingBy (λ b. b.func) blocks
funcs_up blocks = ordered_rise IsBefore (λ b. b.func)
    (λ b c. ⊎_elim (λ (less : b.func < c.func). omega arith) (λ (same, less). omega arith)) blocks

-- links in order have their functions in order
pub links_up : (blocks : List Block) (links : List Link) → AllPairs (IsLinkBefore blocks) (map counted_ends links) →
    IsNonDecreasingBy (λ l. func_of_ends blocks (counted_ends l)) links
links_up blocks links up = ordered_rise (λ l m. IsLinkBefore blocks (counted_ends l) (counted_ends m))
    (λ l. func_of_ends blocks (counted_ends l))
    (λ l m. ⊎_elim (λ (less : func_of_ends blocks (counted_ends l) < func_of_ends blocks (counted_ends m)). omega arith)
    (λ (same, less). omega arith))
    links (unmapped (IsLinkBefore blocks) counted_ends links up)

module _ (blocks : List Block) (f first end : ℕ) (within : first ≤ length blocks) (inside : end ≤ length blocks)
    (low : IsPartitionPoint (λ b. nat_lt b.func f ≡ true) (λ b. nat_lt b.func f ≡ false) blocks first)
    (high : IsPartitionPoint (λ b. nat_le b.func f ≡ true) (λ b. nat_le b.func f ≡ false) blocks end) where
  pub range_order : first ≤ end
  range_order = ⊎_elim
      (λ (late : end < first).
      let a = ltb-true _ _ (low.0 end no_block (omega arith) late) in
      let b = leb-false _ _ (high.1 end no_block (omega arith) (omega arith)) in
      absurd (omega arith))
      (λ (early : first ≤ end). early)
      (cases_lt end first)

  abbrev places : List ℕ
  places = range_with_len 0 (length blocks)

  many : length places ≡ length blocks
  many = length-range_with_len 0 (length blocks)

  func_at : (j d : ℕ) → j < length places → func_of_block blocks (get_or places j d) ≡ (get_or blocks j no_block).func
  func_at j d within =
      let all = many in
      ap (func_of_block blocks) (get_or-range_with_len 0 (length blocks) j d (omega arith) ∙ (let e : 0 + j ≡ j = omega arith in e))
      ∙ func_at_place blocks j no_block (omega arith)

  upto : IsPartitionPoint (λ k. nat_le (func_of_block blocks k) f ≡ true) (λ k. nat_le (func_of_block blocks k) f ≡ false) places end
  upto = (
    (λ j d from less. ap (λ n. nat_le n f) (func_at j d (let all = many in omega arith)) ∙ high.0 j no_block from less),
    (λ j d from within. ap (λ n. nat_le n f) (func_at j d within) ∙ high.1 j no_block from (let all = many in omega arith)),
  )

  at_take : (j d : ℕ) → j < length (take end places) →
      func_of_block blocks (get_or (take end places) j d) ≡ (get_or blocks j no_block).func
  at_take j d within =
      let long = length-take end places in
      ap (func_of_block blocks) (get_or-take end places j d (omega arith)) ∙ func_at j d (omega arith)

  lower : IsPartitionPoint (λ k. nat_lt (func_of_block blocks k) f ≡ true) (λ k. nat_lt (func_of_block blocks k) f ≡ false)
      (take end places) first
  lower = (
    (λ j d from less. ap (λ n. nat_lt n f) (at_take j d (let long = length-take end places in let all = many in
        let up = range_order in omega arith))
        ∙ low.0 j no_block from less),
    (λ j d from within. ap (λ n. nat_lt n f) (at_take j d within)
        ∙ low.1 j no_block from (let long = length-take end places in let all = many in omega arith)),
  )

  range_is : range_with_len first (end - first) ≡ drop first (take end places)
  range_is =
      let all = many in
      let long = length-take end places in
      let left = length-drop first (take end places) in
      let short = length-range_with_len first (end - first) in
      ext_get_or 0 (range_with_len first (end - first)) (drop first (take end places)) (omega arith)
      (λ i within.
      let here : get_or (range_with_len first (end - first)) i 0 ≡ first + i =
      get_or-range_with_len first (end - first) i 0 (omega arith) in
      let a = get_or-drop first (take end places) i 0 in
      let b = get_or-take end places (first + i) 0 (omega arith) in
      let c : get_or places (first + i) 0 ≡ 0 + (first + i) = get_or-range_with_len 0 (length blocks) (first + i) 0 (omega arith) in
      omega arith)

  pub blocks_between : range_with_len first (end - first) ≡ blocks_of_function blocks f
  blocks_between =
      range_is
      ∙ run_filtered (func_of_block blocks) f places (take end places) (drop first (take end places)) end first refl refl
      (let all = many in omega arith) upto lower

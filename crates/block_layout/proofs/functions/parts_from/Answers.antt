use Rattle.std.proofs.Common.{◌≡◌, ◌⊎◌, ◌<◌, ◌≤◌, ℕ, List, [], All, Contains, inl, inr, ⊎_elim, slice_index, length, subst, sym, arith}
use Rattle.std.proofs.lemmas.Bool.{cases_lt}
use Rattle.rv_code.specs.layout.Lists.{ListsNumbers}
use Rattle.block_layout.specs.Walks.{links_of}
use Rattle.block_layout.proofs.Splitting.{hot_between, split_of}
use Rattle.block_layout.proofs.functions.parts_from.Goals as goal

pub cold_part-requires-clause-hot : goal.cold_part-requires-clause-hot
cold_part-requires-clause-hot c =
    let end = c.end_of-end.result in
    let hot = c.in_ok-hot.hot.items in
    let some : (c.args.start < end) ⊎ (hot ≡ []) = ⊎_elim
    (λ (less : c.args.start < end). inl less)
    (λ (le : end ≤ c.args.start). inr (c.in_ok-hot.ensures.none (λ k low high. absurd (omega arith))))
    (cases_lt c.args.start end) in
    subst (λ (ks : List ℕ). All (λ k. (c.args.start ≤ k) × (k < end)) ks) (sym c.deref.ensures.value)
    (hot_between c.args.blocks.now (links_of c.args.links.now)
    (λ k. slice_index c.args.weights.now k) c.args.func c.args.start end c.end_of-end.ensures.blocks c.requires.inner
    hot c.in_ok-hot.ensures some)

pub returns-clause-parts : goal.returns-clause-parts
returns-clause-parts c =
    let end = c.end_of-end.result in
    let hot = c.in_ok-hot.hot.items in
    let some : (c.args.start < end) ⊎ (hot ≡ []) = ⊎_elim
    (λ (less : c.args.start < end). inl less)
    (λ (le : end ≤ c.args.start). inr (c.in_ok-hot.ensures.none (λ k low high. absurd (omega arith))))
    (cases_lt c.args.start end) in
    let left =
    subst (λ (ks : List ℕ). ListsNumbers (λ k. ((c.args.start ≤ k) × (k < end)) × (Contains ks k → ⊥)) c.in_ok-cold.cold.items)
    c.deref.ensures.value c.in_ok-cold.ensures in
    split_of c.args.blocks.now (links_of c.args.links.now)
    (λ k. slice_index c.args.weights.now k) c.args.func c.args.start end c.end_of-end.ensures.blocks c.requires.inner
    (length c.args.links.now.next.items) c.requires.links.between c.in_ok-hot.hot.items c.in_ok-cold.cold.items
    c.in_ok-hot.ensures some left

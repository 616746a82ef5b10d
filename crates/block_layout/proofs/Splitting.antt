-- The parts of functions, from the chains of a range of blocks.
use Rattle.std.proofs.Common.{◌≡◌, ◌≢◌, ◌<◌, ◌≤◌, ◌++◌, ◌∙◌, ◌⊎◌, ℕ, zero, suc, List, [], ◌∷◌, length, get_or}
use Rattle.std.proofs.Common.{map, flat_map, arith, ap, sym, subst, inl, inr, ⊎_elim, All, AllPairs, Contains, add-one}
use Rattle.std.proofs.lemmas.List.{get_or_default, get_or-map, length-map}
use Rattle.std.proofs.lemmas.List.Elements.{All-append, All-nil, All-head, All-tail, Contains-get_or}
use Rattle.std.proofs.lemmas.List.Folds.{flat_map-map}
use Rattle.std.proofs.lemmas.Grind.{common_steps}
use Rattle.rv_code.specs.declared.placed.Block.{Block}
use Rattle.rv_code.specs.layout.Lists.{ListsNumbers}
use Rattle.block_layout.specs.HotAndCold.{IsHotOrEmpty, AreSplit}
use Rattle.block_layout.specs.Links.{Links, IsChain}
use Rattle.block_layout.specs.Parts.{Chain, IsOf, IsFirstBlock, IsHotChain, IsChainBefore, IsHotPart, greatest}
use Rattle.block_layout.specs.Walks.{AreBetween, AreFrom, AreInner, AreHotBetween, IsHotList, IsUpTo, chain_of, chain_heads}
use Rattle.block_layout.specs.declared.hot_chains.HotChain.{HotChain}
use Rattle.block_layout.proofs.ChainLists.{same_chain}
use Rattle.block_layout.proofs.Disjoint.{all_blocks}

-- the blocks of a chain are in one function
chain_of_func : (blocks : List Block) (p : Links) → AreInner blocks p → (f h : ℕ) (xs : List ℕ) → IsChain p h xs → IsOf blocks f h
    → (k : ℕ) → k < length xs → IsOf blocks f (get_or xs k 0)
chain_of_func blocks p inner f h xs chain is zero within = subst (IsOf blocks f) (sym chain.begins) is
chain_of_func blocks p inner f h xs chain is (suc k) within =
    inner (get_or xs k 0) (get_or xs (suc k) 0) f (rw (← add-one) (chain.follows k (omega arith)))
    (chain_of_func blocks p inner f h xs chain is k (omega arith))

module _ (blocks : List Block) (p : Links) (weight : ℕ → ℕ) (f start end : ℕ) (from : AreFrom blocks f start end)
    (inner : AreInner blocks p) where
  between : (h : ℕ) (xs : List ℕ) → IsChain p h xs → start ≤ h → h < end → All (λ k. (start ≤ k) × (k < end)) xs
  between h xs chain low high k d within =
      let is = chain_of_func blocks p inner f h xs chain (from.inside h low high) k within in
      subst (λ (x : ℕ). (start ≤ x) × (x < end)) (get_or_default xs k 0 d within) (from.all (get_or xs k 0) is)

  joined : (cs : List HotChain) → All (λ c. (start ≤ c.head) × (c.head < end) × IsChain p c.head c.blocks.items) cs
      → All (λ k. (start ≤ k) × (k < end)) (flat_map (λ c. c.blocks.items) cs)
  joined [] all = All-nil (λ k. (start ≤ k) × (k < end))
  joined (c ∷ cs) all =
      let first = All-head (λ (e : HotChain). (start ≤ e.head) × (e.head < end) × IsChain p e.head e.blocks.items) c cs all in
      All-append (λ k. (start ≤ k) × (k < end)) c.blocks.items (flat_map (λ e. e.blocks.items) cs)
      (between c.head c.blocks.items first.2 first.0 first.1)
      (joined cs (All-tail (λ (e : HotChain). (start ≤ e.head) × (e.head < end) × IsChain p e.head e.blocks.items) c cs all))

  -- the blocks of a hot part are in the range
  list_between : (part : List ℕ) → start < end → IsHotList p weight start end part → All (λ k. (start ≤ k) × (k < end)) part
  list_between part some is =
      subst (λ (ks : List ℕ). All (λ k. (start ≤ k) × (k < end)) ks) (sym is.part_is)
      (All-append (λ k. (start ≤ k) × (k < end)) is.first (flat_map (λ c. c.blocks.items) is.others)
      (between start is.first is.first_is (omega arith) some)
      (joined is.others (λ k d within.
      let c = is.chains.only (get_or is.others k d) (Contains-get_or is.others k d within) in
      let after = c.after in
      (omega arith, c.before, c.chain))))

  pub hot_between : (part : List ℕ) → IsHotOrEmpty p weight start end part → (start < end) ⊎ (part ≡ []) →
      All (λ k. (start ≤ k) × (k < end)) part
  hot_between part is (inr none) = grind (arith, common_steps)
  hot_between part is (inl some) = grind (arith, common_steps, ⊎_elim, list_between)

  -- the first block of the function
  first_here : start < end → IsFirstBlock blocks start
  first_here some = grind (arith, common_steps)

  not_first : (h : ℕ) → start < h → h < end → IsFirstBlock blocks h → ⊥
  not_first h after before is = grind (arith, common_steps)

  module _ (others : List HotChain) (are : AreHotBetween p weight start end others) (sorted : AllPairs IsUpTo others)
      (some : start < end) where
    hot_chain : (c : HotChain) → Contains others c → IsHotChain blocks weight p f (chain_of c)
    hot_chain c listed =
        let is = are.only c listed in
        let after = is.after in
        record {
          chain = is.chain;
          of = from.inside c.head (omega arith) is.before;
          not_first = not_first c.head is.after is.before;
          hot = let heavy = is.weight_is in let hot' = is.hot in omega arith;
        }

    only : (x : Chain) → Contains (map chain_of others) x → IsHotChain blocks weight p f x
    only x (k, within, at) =
        let inside : k < length others = let same : length (map chain_of others) ≡ length others = simp length-map in
        omega arith in
        let c = get_or others k (any others k inside) in
        let item : get_or (map chain_of others) k x ≡ chain_of c = get_or-map chain_of others k (any others k inside) x inside in
        subst (IsHotChain blocks weight p f) (sym item ∙ at) (hot_chain c (Contains-get_or others k (any others k inside) inside))
      where
        any : (cs : List HotChain) (k : ℕ) → k < length cs → HotChain
        any [] k within = absurd (omega arith)
        any (c ∷ cs) k within = c

    each : (x : Chain) → IsHotChain blocks weight p f x → Contains (map chain_of others) x
    each x is =
        let range = from.all x.0 is.of in
        let low = range.0 in
        let apart : start ≢ x.0 = λ same. is.not_first (subst (IsFirstBlock blocks) same (first_here some)) in
        found (are.each x.0 x.1 (omega arith) range.1 is.chain is.hot)
      where
        found : Contains (chain_heads others) x.0 → Contains (map chain_of others) x
        found (k, within, at) =
            let inside : k < length others = let same : length (chain_heads others) ≡ length others =
            simp length-map in omega arith in
            let d = any others k inside in
            let c = get_or others k d in
            let head : c.head ≡ x.0 = sym (get_or-map (λ (e : HotChain). e.head) others k d x.0 inside) ∙ at in
            let own = are.only c (Contains-get_or others k d inside) in
            let blocks' : c.blocks.items ≡ x.1 =
            same_chain (subst (λ (h : ℕ). IsChain p h c.blocks.items) head own.chain) is.chain in
            let same : chain_of c ≡ x = λ i. (head i, blocks' i) in
            let long : k < length (map chain_of others) = let e : length (map chain_of others) ≡ length others =
            simp length-map in omega arith in
            (k, long, get_or-map chain_of others k d x inside ∙ same)
          where
            any : (cs : List HotChain) (k : ℕ) → k < length cs → HotChain
            any [] k within = absurd (omega arith)
            any (c ∷ cs) k within = c

    ordered : AllPairs (IsChainBefore weight) (map chain_of others)
    ordered i j x less within =
        let inside : j < length others = let same : length (map chain_of others) ≡ length others = simp length-map in
        omega arith in
        let d = any others j inside in
        let c = get_or others i d in
        let e = get_or others j d in
        let one : get_or (map chain_of others) i x ≡ chain_of c = get_or-map chain_of others i d x (omega arith) in
        let other : get_or (map chain_of others) j x ≡ chain_of e = get_or-map chain_of others j d x inside in
        let own = are.only c (Contains-get_or others i d (omega arith)) in
        let own' = are.only e (Contains-get_or others j d inside) in
        rw (one, other) (before c e own.weight_is own'.weight_is (are.apart i j d less inside) (sorted i j d less inside))
      where
        any : (cs : List HotChain) (k : ℕ) → k < length cs → HotChain
        any [] k within = absurd (omega arith)
        any (c ∷ cs) k within = c

        before : (c e : HotChain) → c.weight ≡ greatest weight c.blocks.items → e.weight ≡ greatest weight e.blocks.items
            → (c.head ≡ e.head → ⊥) → IsUpTo c e → IsChainBefore weight (chain_of c) (chain_of e)
        before c e one other apart (inl more) = inl (omega arith)
        before c e one other apart (inr (same, le)) = inr (sym one ∙ same ∙ other, omega (arith, le, apart))

  hot_part_of : (part : List ℕ) → start < end → IsHotList p weight start end part → IsHotPart blocks weight p f part
  hot_part_of part some is = record {
    first = (start, is.first);
    others = map chain_of is.others;
    part_is = is.part_is ∙ ap (λ (ks : List ℕ). is.first ++ ks) (sym (flat_map-map (λ (c : Chain). c.1) chain_of is.others));
    first_is = is.first_is;
    first_of = from.inside start (omega arith) some;
    first_block = first_here some;
    others_are = record {
      only = only is.others is.chains is.sorted some;
      each = each is.others is.chains is.sorted some;
      ordered = ordered is.others is.chains is.sorted some;
    };
  }

  -- both parts
  pub split_of : (n : ℕ) → AreBetween n p → (hot cold : List ℕ) → IsHotOrEmpty p weight start end hot → (start < end) ⊎ (hot ≡ [])
      → ListsNumbers (λ k. ((start ≤ k) × (k < end)) × (Contains hot k → ⊥)) cold → AreSplit blocks weight p f hot cold
  split_of n links hot cold is some left = record {
    hot_part = λ k own heavy. let range = from.all k own in
        let low = range.0 in
        hot_part_of hot (let high = range.1 in omega arith) (is.hot k range.0 range.1 heavy);
    no_part = λ none. is.none (λ k low high. none k (from.inside k low high));
    cold_part = record {
      only = λ k listed. let old = left.only k listed in (from.inside k old.0.0 old.0.1, old.1);
      each = λ k own. left.each k (from.all k own.0, own.1);
      ordered = left.ordered;
    };
    all = all_blocks n p links blocks weight f start end from hot cold is (hot_between hot is some) left;
  }

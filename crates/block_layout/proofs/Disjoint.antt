-- Chains share no block, and the parts of a function contain each of its blocks exactly once.
use Rattle.std.proofs.Common.{◌≡◌, ◌≢◌, ◌<◌, ◌≤◌, ◌+◌, ◌-◌, ◌∙◌, ℕ, suc, true, List, [], ◌∷◌, ◌++◌, Option, Some, None, length}
use Rattle.std.proofs.Common.{get_or, flat_map, arith, refl, ap, sym, subst, ⊎_elim, All, AllPairs, Contains}
use Rattle.std.specs.Prelude.{◌==◌, IsPermutation, slice_get}
use Rattle.std.specs.List.{range_with_len}
use Rattle.std.specs.Option.{option_map_or}
use Rattle.std.proofs.lemmas.Bool.{cases_eq, cases_lt, eq-eqb, eqb-true}
use Rattle.std.proofs.lemmas.List.{get_or_default}
use Rattle.std.proofs.lemmas.List.Elements.{All-head, All-tail, All-contains, Contains-append_left, Contains-append_right}
use Rattle.std.proofs.lemmas.List.Elements.{Contains-append_cases, Contains-get_or}
use Rattle.std.proofs.lemmas.Option.{slice_get-get_or}
use Rattle.std.proofs.lemmas.Grind.{common_steps}
use Rattle.rv_code.specs.declared.placed.Block.{Block}
use Rattle.rv_code.specs.layout.Lists.{ListsNumbers}
use Rattle.rv_code.specs.layout.BlockOrders.{blocks_of_function}
use Rattle.block_layout.specs.HotAndCold.{IsHotOrEmpty}
use Rattle.block_layout.specs.Links.{Links, IsChain}
use Rattle.block_layout.specs.Parts.{IsOf}
use Rattle.block_layout.specs.Walks.{AreBetween, AreFrom, IsHotList}
use Rattle.block_layout.specs.declared.hot_chains.HotChain.{HotChain}
use Rattle.block_layout.proofs.Members.{Distinct, none_in, same_members, is_in, distinct_append, in_filter, from_filter, in_range}
use Rattle.block_layout.proofs.Members.{from_range, distinct_filter}
use Rattle.block_layout.proofs.Paths.{IsPath, IsWithin, as_path, meet, once}
use Rattle.block_layout.proofs.Starting.{nothing, IsOf-within}
use Rattle.block_layout.proofs.Firsts.{IsOf-get_or, get_or-IsOf}

meet_first : {n : ℕ} {p : Links} {g h : ℕ} {xs ys : List ℕ} → IsWithin n p → p.prev g ≡ None → IsPath p g xs → IsPath p h ys
    → (i m : ℕ) → i ≤ m → i < length xs → m < length ys → get_or xs i 0 ≡ get_or ys m 0 → g ≡ h
meet_first {n} {p} {g} {h} {xs} {ys} w none a b i m le ix my e =
    let at : get_or ys (m - i) 0 ≡ g = meet w none a b i m le ix my e in
    ⊎_elim
    (λ (same : m - i ≡ 0). sym at ∙ rw same b.begins)
    (λ (ne : m - i ≢ 0).
    let r : (m - i - 1) + 1 ≡ m - i = omega arith in
    let s : p.next (get_or ys (m - i - 1) 0) ≡ Some (get_or ys (m - i) 0) = rw r at (b.follows (m - i - 1) (omega arith)) in
    let t : p.prev (get_or ys (m - i) 0) ≡ Some (get_or ys (m - i - 1) 0) = w.back _ _ s in
    let u : p.prev (get_or ys (m - i) 0) ≡ p.prev g = ap p.prev at in
    absurd (cc))
    (cases_eq (m - i) 0)

-- a block of concatenated chains is in one of them
pub record InOne (cs : List HotChain) (z : ℕ) : Type 0 where
  pub chain : HotChain
  pub place : ℕ
  pub inside : place < length cs
  pub is : get_or cs place chain ≡ chain
  pub has : Contains chain.blocks.items z

in_one : (cs : List HotChain) (z : ℕ) → Contains (flat_map (λ c. c.blocks.items) cs) z → InOne cs z
in_one [] z listed = absurd (none_in z listed)
in_one (c ∷ cs) z listed = ⊎_elim
    (λ first. record { chain = c; place = 0; inside = omega arith; is = refl; has = first })
    (λ later.
    let rest = in_one cs z later in
    let inside' = rest.inside in
    record { chain = rest.chain; place = suc rest.place; inside = omega arith; is = rest.is; has = rest.has })
    (Contains-append_cases c.blocks.items (flat_map (λ d. d.blocks.items) cs) z listed)

module _ (n : ℕ) (p : Links) (links : AreBetween n p) where
  within : IsWithin n p
  within = record { inside = λ s t e. (links.inside s t e).1; back = links.back }

  distinct_chain : (h : ℕ) (xs : List ℕ) → IsChain p h xs → Distinct xs
  distinct_chain h xs chain i j d less inside same =
      once within chain.first (as_path chain) i j less inside
      (sym (get_or_default xs i d 0 (omega arith)) ∙ same ∙ get_or_default xs j d 0 inside)

  -- chains that share a block begin with the same block
  one_chain : (g h : ℕ) (xs ys : List ℕ) → IsChain p g xs → IsChain p h ys → (z : ℕ) → Contains xs z → Contains ys z → g ≡ h
  one_chain g h xs ys a b z (i, ix, at) (m, my, at') =
      let e : get_or xs i 0 ≡ get_or ys m 0 = get_or_default xs i 0 z ix ∙ at ∙ sym at' ∙ get_or_default ys m z 0 my in
      ⊎_elim
      (λ (less : m < i). sym (meet_first within b.first (as_path b) (as_path a) m i (omega arith) my ix (sym e)))
      (λ (le : i ≤ m). meet_first within a.first (as_path a) (as_path b) i m le ix my e)
      (cases_lt m i)

  distinct_joined : (cs : List HotChain) → All (λ c. IsChain p c.head c.blocks.items) cs →
      AllPairs (λ c d. (c.head ≡ d.head) → ⊥) cs → Distinct (flat_map (λ c. c.blocks.items) cs)
  distinct_joined [] all apart = λ i j d less inside. absurd (omega arith)
  distinct_joined (c ∷ cs) all apart =
      let own = All-head (λ (d : HotChain). IsChain p d.head d.blocks.items) c cs all in
      distinct_append c.blocks.items (flat_map (λ d. d.blocks.items) cs) (distinct_chain c.head c.blocks.items own)
      (distinct_joined cs (All-tail (λ (d : HotChain). IsChain p d.head d.blocks.items) c cs all)
      (λ i j d less inside. apart (suc i) (suc j) d (omega arith) (omega arith)))
      (λ z first later.
      let other = in_one cs z later in
      let inside' = other.inside in
      let chain : IsChain p other.chain.head other.chain.blocks.items =
      subst (λ (d : HotChain). IsChain p d.head d.blocks.items) other.is (all (suc other.place) other.chain (omega arith)) in
      let differ : (c.head ≡ other.chain.head) → ⊥ =
      subst (λ (d : HotChain). (c.head ≡ d.head) → ⊥) other.is
      (apart 0 (suc other.place) other.chain (omega arith) (omega arith)) in
      differ (one_chain c.head other.chain.head c.blocks.items other.chain.blocks.items own chain z first other.has))

  pub distinct_hot : (weight : ℕ → ℕ) (start end : ℕ) (part : List ℕ) → IsHotList p weight start end part → Distinct part
  distinct_hot weight start end part is =
      subst Distinct (sym is.part_is)
      (distinct_append is.first (flat_map (λ c. c.blocks.items) is.others) (distinct_chain start is.first is.first_is)
      (distinct_joined is.others
      (λ k d inside. (is.chains.only (get_or is.others k d) (Contains-get_or is.others k d inside)).chain) is.chains.apart)
      (λ z first later.
      let other = in_one is.others z later in
      let c = is.chains.only other.chain (other.place, other.inside, other.is) in
      let same = one_chain start other.chain.head is.first other.chain.blocks.items is.first_is c.chain z first other.has in
      let after = c.after in
      omega arith))

-- the test that a block is in a function
of_test : (blocks : List Block) (f k : ℕ) → IsOf blocks f k →
    (option_map_or (λ (b : Block). b.func) (slice_get blocks k) 0 == f) ≡ true
of_test blocks f k is = grind (arith, common_steps, get_or-IsOf, nothing, eq-eqb, slice_get-get_or)

of_from_test : (blocks : List Block) (f k : ℕ) → k < length blocks →
    (option_map_or (λ (b : Block). b.func) (slice_get blocks k) 0 == f) ≡ true → IsOf blocks f k
of_from_test blocks f k inside test =
    let own = eqb-true (option_map_or (λ (b : Block). b.func) (slice_get blocks k) 0) f test in
    IsOf-get_or blocks f k nothing inside
    (sym (ap (λ (o : Option Block). option_map_or (λ (b : Block). b.func) o 0) (slice_get-get_or blocks k nothing inside)) ∙ own)

pub all_blocks : (n : ℕ) (p : Links) → AreBetween n p → (blocks : List Block) (weight : ℕ → ℕ) (f start end : ℕ)
    → AreFrom blocks f start end → (hot cold : List ℕ)
    → IsHotOrEmpty p weight start end hot → All (λ k. (start ≤ k) × (k < end)) hot
    → ListsNumbers (λ k. ((start ≤ k) × (k < end)) × (Contains hot k → ⊥)) cold
    → IsPermutation (blocks_of_function blocks f) (hot ++ cold)
all_blocks n p links blocks weight f start end from hot cold is between left =
    same_members (blocks_of_function blocks f) (hot ++ cold)
    (distinct_filter (λ k. option_map_or (λ b. b.func) (slice_get blocks k) 0 == f) (length blocks))
    (distinct_append hot cold hot_once cold_once (λ z in_hot in_cold. (left.only z in_cold).1 in_hot)) to back
  where
    hot_once : Distinct hot
    hot_once = ⊎_elim
        (λ list. distinct_hot n p links weight start end hot list)
        (λ (none : hot ≡ []). subst Distinct (sym none) (λ i j d less inside. absurd (omega arith)))
        is.either

    cold_once : Distinct cold
    cold_once i j d less inside same = let up = left.ordered i j d less inside in omega arith

    to : (z : ℕ) → Contains (blocks_of_function blocks f) z → Contains (hot ++ cold) z
    to z listed =
        let passes =
        from_filter (λ k. option_map_or (λ b. b.func) (slice_get blocks k) 0 == f) (range_with_len 0 (length blocks)) z listed in
        let own = of_from_test blocks f z (from_range (length blocks) z passes.0) passes.1 in
        ⊎_elim
        (λ in_hot. Contains-append_left hot cold z in_hot)
        (λ (none : Contains hot z → ⊥). Contains-append_right hot cold z (left.each z (from.all z own, none)))
        (is_in hot z)

    back : (z : ℕ) → Contains (hot ++ cold) z → Contains (blocks_of_function blocks f) z
    back z listed =
        let range : (start ≤ z) × (z < end) = ⊎_elim
        (λ in_hot. All-contains (λ k. (start ≤ k) × (k < end)) hot z between in_hot)
        (λ in_cold. (left.only z in_cold).0)
        (Contains-append_cases hot cold z listed) in
        let own = from.inside z range.0 range.1 in
        in_filter (λ k. option_map_or (λ b. b.func) (slice_get blocks k) 0 == f) (range_with_len 0 (length blocks)) z
        (in_range (length blocks) z (IsOf-within blocks f z own)) (of_test blocks f z own)

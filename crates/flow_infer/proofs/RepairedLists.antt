-- Links of functions, one function after another.
use Rattle.std.proofs.Common.{◌≡◌, ◌∙◌, sym, ap, subst, refl, ℕ, ◌+◌, ◌-◌, ◌<◌, ◌≤◌, inl, inr, ⊎_elim, List, [], ◌∷◌, ◌++◌}
use Rattle.std.proofs.Common.{AllPairs, Option, Some, None, get_or, length, map, arith}
use Rattle.std.specs.Prelude.{Contains, IsSomeAnd, slice_get}
use Rattle.std.specs.Option.{option_map_or}
use Rattle.std.proofs.lemmas.Bool.{cases_lt, cases_order}
use Rattle.std.proofs.lemmas.List.Elements.{All-contains, Contains-append_cases, Contains-append_left, Contains-append_right}
use Rattle.std.proofs.lemmas.Option.{slice_get-get_or, slice_get_within}
use Rattle.rb_bytes.proofs.ListLemmas.{pairs_append}
use Rattle.rv_code.specs.declared.placed.Block.{Block}
use Rattle.rv_code.specs.layout.BlockOrders.{func_of_block}
use Rattle.rv_code.specs.layout.Blocks.{IsBefore}
use Rattle.rv_code.specs.layout.Lists.{ListsAll}
use Rattle.rv_code.specs.layout.ProgramCode.{ProgramCode}
use Rattle.flow_infer.specs.declared.flow.Flow.{Flow}
use Rattle.flow_infer.specs.declared.flow.Link.{Link}
use Rattle.flow_infer.specs.declared.source.Source.{Source}
use Rattle.flow_infer.specs.Flows.{bare}
use Rattle.flow_infer.specs.Heights.{IsSettled}
use Rattle.flow_infer.specs.Links.{AreEnds, CountedEnds, IsLinkBefore, a_block, counted_ends}
use Rattle.flow_infer.specs.Repairing.{AreRepaired}
use Rattle.flow_infer.specs.Repairs.{IsRepaired}
use Rattle.flow_infer.proofs.LeastChange.{lowers_least}
use Rattle.flow_infer.specs.Sources.{AreLinksWithin, AreSources, IsCodeOf, IsFunctionFrom, IsFunctionRange, IsLinkWithin, PartsFunctions}

-- Functions of blocks in order.

pub func_at_place : (blocks : List Block) (k : ℕ) (d : Block) → k < length blocks → func_of_block blocks k ≡ (get_or blocks k d).func
func_at_place blocks k d within = ap (λ (o : Option Block). option_map_or (λ (b : Block). b.func) o 0) (slice_get-get_or blocks k d within)

no_block : Block
no_block = record { func = 0; first = 0; last = 0 }

module _ (blocks : List Block) (up : AllPairs IsBefore blocks) where
  pub funcs_rise : (j k : ℕ) → j ≤ k → k < length blocks → func_of_block blocks j ≤ func_of_block blocks k
  funcs_rise j k upto within = ⊎_elim
      (λ (less : j < k).
      let a = func_at_place blocks j no_block (omega arith) in
      let b = func_at_place blocks k no_block within in
      ⊎_elim
      (λ (below : (get_or blocks j no_block).func < (get_or blocks k no_block).func). omega arith)
      (λ (same, before). omega arith)
      (up j k no_block less within))
      (λ (more : k ≤ j). let e : j ≡ k = omega arith in let s = ap (func_of_block blocks) e in omega arith)
      (cases_lt j k)

  module _ (first end : ℕ) (function : IsFunctionFrom blocks first end) where
    later_func : (k : ℕ) → end ≤ k → k < length blocks → func_of_block blocks first < func_of_block blocks k
    later_func k from within =
        let inside : end < length blocks = omega arith in
        let some = function.some in
        let a = funcs_rise first end (omega arith) inside in
        let b = funcs_rise end k from within in
        elim (cases_order (func_of_block blocks first) (func_of_block blocks end)) [
          | inl same ↦ absurd (function.next inside (sym same))
          | inr apart ↦ elim apart [
            | inl below ↦ omega arith
            | inr above ↦ absurd (omega arith)
          ]
        ]

    pub parted_after : PartsFunctions blocks first → PartsFunctions blocks end
    parted_after parted j k before from within = ⊎_elim
        (λ (early : j < first). let some = function.some in parted j k early (omega arith) within)
        (λ (late : first ≤ j).
        let same = function.same j late before in
        let more = later_func k from within in
        omega arith)
        (cases_lt j first)

    pub range_of : PartsFunctions blocks first → IsFunctionRange blocks first end
    range_of parted = record { some = function.some; within = function.within; one = function.same; all = all }
      where
        all : (k : ℕ) → k < length blocks → func_of_block blocks k ≡ func_of_block blocks first → (first ≤ k) × (k < end)
        all k within same = (
          ⊎_elim
              (λ (early : k < first). absurd (
              let some = function.some in
              let bound = function.within in
              let less = parted k first early (omega arith) (omega arith) in
              omega arith))
              (λ (late : first ≤ k). late)
              (cases_lt k first),
          ⊎_elim
              (λ (inside : k < end). inside)
              (λ (past : end ≤ k). absurd (let more = later_func k past within in omega arith))
              (cases_lt k end),
        )

-- Concatenated lists.

ends_of_bare : (links : List Link) → map counted_ends links ≡ map counted_ends (map bare links)
ends_of_bare [] = refl
ends_of_bare (l ∷ ls) = ap (λ es. counted_ends l ∷ es) (ends_of_bare ls)

ends_append : (xs ys : List Link) → map counted_ends (map bare xs ++ map bare ys) ≡ map counted_ends xs ++ map counted_ends ys
ends_append [] ys = sym (ends_of_bare ys)
ends_append (x ∷ xs) ys = ap (λ es. counted_ends x ∷ es) (ends_append xs ys)

module _ (s : Source) (sources : AreSources s) where
  listed_joined : (first end : ℕ) (links chunk new : List Link) → first ≤ end → end ≤ length s.blocks.now →
      PartsFunctions s.blocks.now first → map bare new ≡ map bare links ++ map bare chunk →
      AreLinksWithin s 0 first links → AreLinksWithin s first end chunk → AreLinksWithin s 0 end new
  listed_joined first end links chunk new upto within parted same old more code of =
      subst (ListsAll (IsLinkWithin code s 0 end) (IsLinkBefore s.blocks.now))
      (sym (ends_of_bare new ∙ ap (map counted_ends) same ∙ ends_append links chunk))
      (record { only = only; each = each; ordered = ordered })
    where
      xs : List CountedEnds
      xs = map counted_ends links

      ys : List CountedEnds
      ys = map counted_ends chunk

      a : ListsAll (IsLinkWithin code s 0 first) (IsLinkBefore s.blocks.now) (map counted_ends links)
      a = old code of

      b : ListsAll (IsLinkWithin code s first end) (IsLinkBefore s.blocks.now) (map counted_ends chunk)
      b = more code of

      only : (e : CountedEnds) → Contains (map counted_ends links ++ map counted_ends chunk) e → IsLinkWithin code s 0 end e
      only e is_in = ⊎_elim
          (λ early. let w = a.only e early in
          record { link = w.link; from = w.from; to = let to = w.to in omega arith })
          (λ late. let w = b.only e late in record { link = w.link; from = omega arith; to = w.to })
          (Contains-append_cases (map counted_ends links) (map counted_ends chunk) e is_in)

      each : (e : CountedEnds) → IsLinkWithin code s 0 end e → Contains (map counted_ends links ++ map counted_ends chunk) e
      each e w = ⊎_elim
          (λ (early : a_block e.0 e.1 < first). Contains-append_left (map counted_ends links) (map counted_ends chunk) e
          (a.each e (record { link = w.link; from = w.from; to = early })))
          (λ (late : first ≤ a_block e.0 e.1). Contains-append_right (map counted_ends links) (map counted_ends chunk) e
          (b.each e (record { link = w.link; from = late; to = w.to })))
          (cases_lt (a_block e.0 e.1) first)

      ordered : AllPairs (IsLinkBefore s.blocks.now) (map counted_ends links ++ map counted_ends chunk)
      ordered = pairs_append (IsLinkBefore s.blocks.now) (map counted_ends links) (map counted_ends chunk) a.ordered b.ordered
          (λ d e early late.
          let v = a.only d early in
          let w = b.only e late in
          let to = w.to in
          inl (parted (a_block d.0 d.1) (a_block e.0 e.1) v.to w.from (omega arith)))

  pub repaired_next : (old new : Flow) (links : List Link) (first end : ℕ) → first ≡ length old.prices.items →
      IsFunctionFrom s.blocks.now first end → AreLinksWithin s first end links →
      (IsSettled old.links.items old.prices.items → IsSettled new.links.items new.prices.items) →
      length new.prices.items + 1 ≡ length old.prices.items + (end - first + 1) →
      map bare new.links.items ≡ map bare old.links.items ++ map bare links → AreRepaired s old → AreRepaired s new
  repaired_next old new links first end at function more settles priced same was = record {
    settled = settles was.settled;
    listed = subst (λ (n : ℕ). AreLinksWithin s 0 n new.links.items) (sym all) (listed_joined first end old.links.items links
        new.links.items (let some = function.some in omega arith) function.within parted same
        (subst (λ (n : ℕ). AreLinksWithin s 0 n old.links.items) (sym at) was.listed) more);
    within = let bound = function.within in let e = all in omega arith;
    parted = subst (PartsFunctions s.blocks.now) (sym all) (parted_after s.blocks.now sources.stretches.ordered first end function parted);
  }
    where
      parted : PartsFunctions s.blocks.now first
      parted = subst (PartsFunctions s.blocks.now) (sym at) was.parted

      all : length new.prices.items ≡ end
      all = let some = function.some in omega (arith, at, priced, some)

  block_inside : (code : ProgramCode) (o p : Option ℕ) → AreEnds code s.blocks.now s.edges.now o p → a_block o p < length s.blocks.now
  block_inside code (Some k) (Some t) edge =
      (All-contains (λ (e : ℕ × ℕ). (e.0 < length s.blocks.now) × (e.1 < length s.blocks.now)) s.edges.now (k, t)
      sources.joined.within edge).0
  block_inside code None (Some k) ends = there _ (slice_get s.blocks.now k) k refl ends
    where
      there : (P : Block → Type 0) (o : Option Block) (k : ℕ) → slice_get s.blocks.now k ≡ o → IsSomeAnd o P → k < length s.blocks.now
      there P None k is holds = absurd holds
      there P (Some b) k is holds = slice_get_within s.blocks.now k b is
  block_inside code (Some k) None ends = there _ (slice_get s.blocks.now k) k refl ends
    where
      there : (P : Block → Type 0) (o : Option Block) (k : ℕ) → slice_get s.blocks.now k ≡ o → IsSomeAnd o P → k < length s.blocks.now
      there P None k is holds = absurd holds
      there P (Some b) k is holds = slice_get_within s.blocks.now k b is
  block_inside code None None ends = absurd ends

  pub repaired_all : (code : ProgramCode) (flow : Flow) → IsCodeOf code s → length flow.prices.items ≡ length s.blocks.now →
      AreRepaired s flow → IsRepaired code s.blocks.now s.edges.now s.pairs.now flow
  repaired_all code flow of all was = record {
    links = record {
      only = λ e is_in. ((was.listed code of).only e is_in).link;
      each = λ e link. (was.listed code of).each e
          (record { link = link; from = omega arith; to = let inside = block_inside code e.0 e.1 link.0 in omega arith });
      ordered = (was.listed code of).ordered;
    };
    balances = was.settled.balances;
    priced = all;
    hold = was.settled.hold;
    lowers = lowers_least flow.links.items was.settled.costs.0 was.settled.balances was.settled.costs.2;
  }

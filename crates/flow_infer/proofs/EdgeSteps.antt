-- Listing the edges from one block, one after another.
use Rattle.std.proofs.Common.{◌≡◌, ◌∙◌, sym, ap, subst, refl, ℕ, ◌+◌, ◌-◌, ◌<◌, ◌≤◌, inl, inr, ⊎_elim, List, ◌++◌}
use Rattle.std.proofs.Common.{All, AllPairs, Option, Some, None, get_or, length, arith}
use Rattle.std.specs.Prelude.{◌==◌, ◌↔◌, Contains, filter, slice_get}
use Rattle.std.specs.Option.{option_map_or, option_to_list}
use Rattle.std.proofs.lemmas.Bool.{cases_lt, eq-eqb, eqb-true}
use Rattle.std.proofs.lemmas.List.{get_or_default}
use Rattle.std.proofs.lemmas.List.Elements.{All-contains, Contains-get_or, filter_passes}
use Rattle.std.proofs.lemmas.List.Kept.{AllPairs-filter}
use Rattle.std.proofs.lemmas.Option.{slice_get-get_or, slice_get_past, same_Some}
use Rattle.rv_code.specs.layout.BlockOrders.{func_of_block}
use Rattle.rv_code.specs.layout.Lists.{IsPairBefore}
use Rattle.rv_code.specs.layout.ProgramCode.{ProgramCode}
use Rattle.rb_bytes.proofs.Searches.{Contains-filter, Contains-from_filter}
use Rattle.flow_infer.specs.declared.flow.Link.{Link}
use Rattle.flow_infer.specs.declared.source.Source.{Source}
use Rattle.flow_infer.specs.Heights.{AreAmong, IsAmong}
use Rattle.flow_infer.specs.Links.{link_count, rank}
use Rattle.flow_infer.specs.Sources.{AreLinksUpto, AreSources, IsCodeOf, IsFunctionRange, IsLinkIn, IsLinkWithin, link_if}
use Rattle.flow_infer.proofs.LinkLists.{all_pushed, rank_same, same_upto, step_upto}

-- the rank of the target of the i-th edge, or a rank after all n blocks
abbrev pub reach : ℕ → List (ℕ × ℕ) → ℕ → ℕ
reach n es i = option_map_or (λ e. e.1 + 1) (slice_get es i) (n + 1)

seconds_rise : (block : ℕ) (es : List (ℕ × ℕ)) → AllPairs IsPairBefore es → All (λ e. e.0 ≡ block) es → (i j : ℕ) (d : ℕ × ℕ) →
    i ≤ j → j < length es → (get_or es i d).1 ≤ (get_or es j d).1
seconds_rise block es up one i j d upto within = ⊎_elim
    (λ (less : i < j).
    let a : (get_or es i d).0 ≡ block = one i d (omega arith) in
    let b : (get_or es j d).0 ≡ block = one j d within in
    ⊎_elim
    (λ (before : (get_or es i d).0 < (get_or es j d).0). omega arith)
    (λ (same, before). omega arith)
    (up i j d less within))
    (λ (more : j ≤ i).
    let e : i ≡ j = omega arith in
    let s = ap (λ (k : ℕ). (get_or es k d).1) e in
    omega arith)
    (cases_lt i j)

reach_at : (n : ℕ) (es : List (ℕ × ℕ)) (k : ℕ) (d : ℕ × ℕ) → k < length es → reach n es k ≡ (get_or es k d).1 + 1
reach_at n es k d within = ap (λ (o : Option (ℕ × ℕ)). option_map_or (λ (e : ℕ × ℕ). e.1 + 1) o (n + 1)) (slice_get-get_or es k d within)

reach_past : (n : ℕ) (es : List (ℕ × ℕ)) → reach n es (length es) ≡ n + 1
reach_past n es =
    ap (λ (o : Option (ℕ × ℕ)). option_map_or (λ (e : ℕ × ℕ). e.1 + 1) o (n + 1)) (slice_get_past es (length es) (omega arith))

-- the edges from a block
abbrev pub es_of : Source → ℕ → List (ℕ × ℕ)
es_of s block = filter (λ e. e.0 == block) s.edges.now

module _ (s : Source) (sources : AreSources s) (block : ℕ) (inside : block < length s.blocks.now) where
  abbrev n : ℕ
  n = length s.blocks.now

  abbrev es : List (ℕ × ℕ)
  es = es_of s block

  up : AllPairs IsPairBefore es
  up = AllPairs-filter IsPairBefore (λ e. e.0 == block) s.edges.now sources.joined.ordered

  one : All (λ e. e.0 ≡ block) es
  one i d within = eqb-true (get_or es i d).0 block (filter_passes (λ e. e.0 == block) s.edges.now i d within)

  edge_in : (k : ℕ) (d : ℕ × ℕ) → k < length es → Contains s.edges.now (get_or es k d)
  edge_in k d within = Contains-from_filter (λ e. e.0 == block) s.edges.now (get_or es k d) (Contains-get_or es k d within)

  pub target_inside : (k : ℕ) (d : ℕ × ℕ) → k < length es → (get_or es k d).1 < length s.blocks.now
  target_inside k d within =
      (All-contains (λ (e : ℕ × ℕ). (e.0 < length s.blocks.now) × (e.1 < length s.blocks.now)) s.edges.now (get_or es k d)
      sources.joined.within (edge_in k d within)).1

  module _ (first end : ℕ) (range : IsFunctionRange s.blocks.now first end) (from : first ≤ block) (to : block < end) where
    target_home : (k : ℕ) (d : ℕ × ℕ) → k < length es → (first ≤ (get_or es k d).1) × ((get_or es k d).1 < end)
    target_home k d within =
        let same = All-contains (λ (e : ℕ × ℕ). func_of_block s.blocks.now e.0 ≡ func_of_block s.blocks.now e.1) s.edges.now
        (get_or es k d) sources.joined.one_function (edge_in k d within) in
        let home = ap (func_of_block s.blocks.now) (one k d within) in
        range.all (get_or es k d).1 (target_inside k d within) (sym same ∙ home ∙ range.one block from to)

    -- a link from this block to a block is one of its edges
    edge_at : (code : ProgramCode) (o : Option ℕ) (t c : ℕ) → IsLinkIn code s (o, Some t, c) → o ≡ Some block → Contains es (block, t)
    edge_at code None t c link same = absurd (cc)
    edge_at code (Some k) t c link same =
        let e : k ≡ block = same_Some k block same in
        Contains-filter (λ e. e.0 == block) s.edges.now (block, t)
        (subst (λ (j : ℕ). Contains s.edges.now (j, t)) e link.0) (eq-eqb block block refl)

    -- No link from the block is before the k-th edge and after the edges before it.
    none_between : (q k : ℕ) (code : ProgramCode) (o p : Option ℕ) (c : ℕ) → IsLinkIn code s (o, p, c) → rank o ≡ block + 1 →
        0 < q → q ≤ rank p → rank p < reach n es k →
        ((j t : ℕ) (d : ℕ × ℕ) → j < length es → (get_or es j d).1 ≡ t → q ≤ t + 1 → k ≤ j) → ⊥
    none_between q k code o None c link at_o some low high late = absurd (omega arith)
    none_between q k code o (Some t) c link at_o some low high late =
        let (j, within, there) = edge_at code o t c link (rank_same o (Some block) at_o) in
        let second : (get_or es j (block, t)).1 ≡ t = ap (λ (e : ℕ × ℕ). e.1) there in
        let after : k ≤ j = late j t (block, t) within second low in
        let rising = seconds_rise block es up one k j (block, t) after within in
        let reached = reach_at n es k (block, t) (omega arith) in
        omega arith

    skip_to : (q k : ℕ) (links : List Link) → 0 < q → q ≤ reach n es k →
        ((j t : ℕ) (d : ℕ × ℕ) → j < length es → (get_or es j d).1 ≡ t → q ≤ t + 1 → k ≤ j) →
        AreLinksUpto s first end (block + 1) q links → AreLinksUpto s first end (block + 1) (reach n es k) links
    skip_to q k links some upto late = same_upto s first end range (block + 1) q (block + 1) (reach n es k) links
        (λ code of e within. (
          (λ below. ⊎_elim (λ (less : rank e.0 < block + 1). inl less) (λ (same, less). inr (same, omega arith)) below),
          (λ below. ⊎_elim (λ (less : rank e.0 < block + 1). inl less)
              (λ (same, less). ⊎_elim (λ (early : rank e.1 < q). inr (same, early))
              (λ (low : q ≤ rank e.1). absurd (none_between q k code e.0 e.1 e.2 within.link same some low less late))
              (cases_lt (rank e.1) q))
              below),
        ))

    pub edges_begin : (links : List Link) → AreLinksUpto s first end (block + 1) 1 links →
        AreLinksUpto s first end (block + 1) (reach n es 0) links
    edges_begin links = skip_to 1 0 links (omega arith) (at (slice_get es 0)) (λ j t d within second low. omega arith)
      where
        at : (o : Option (ℕ × ℕ)) → 1 ≤ option_map_or (λ e. e.1 + 1) o (n + 1)
        at None = omega arith
        at (Some e) = omega arith

    pub edge_next : (k : ℕ) (d : ℕ × ℕ) (count : ℕ) (links new : List Link) → k < length es →
        count ≡ link_count s.funcs.now s.blocks.now s.pairs.now (Some block) (Some (get_or es k d).1) →
        new ≡ links ++ option_to_list (link_if (Some block) (Some (get_or es k d).1) (Some count)) →
        AreLinksUpto s first end (block + 1) (reach n es k) links → AreLinksUpto s first end (block + 1) (reach n es (k + 1)) new
    edge_next k d count links new within is pushed old = skip_to (t + 1 + 1) (k + 1) new (omega arith) low late (step_upto s first end
        range (block + 1) (t + 1) (Some block) (Some t) (Some count) links new refl refl from to link pushed
        (subst (λ (q : ℕ). AreLinksUpto s first end (block + 1) q links) (reach_at n es k d within) old))
      where
        t : ℕ
        t = (get_or es k d).1

        edge : Contains s.edges.now (block, t)
        edge = let same : get_or es k d ≡ (block, t) = λ i. (one k d within i, t) in
            subst (Contains s.edges.now) same (edge_in k d within)

        link : (code : ProgramCode) → IsCodeOf code s → (c : ℕ) → (Some count ≡ Some c) ↔ IsLinkIn code s (Some block, Some t, c)
        link code of c =
            let value : count ≡ link_count code.funcs s.blocks.now s.pairs.now (Some block) (Some t) =
            is ∙ ap (λ fs. link_count fs s.blocks.now s.pairs.now (Some block) (Some t)) (sym of.funcs) in (
              (λ same. (edge, sym (same_Some count c same) ∙ value)),
              (λ (there, counted). ap (λ (m : ℕ). Some m) (value ∙ sym counted)),
            )

        low : t + 1 + 1 ≤ reach n es (k + 1)
        low = ⊎_elim
            (λ (more : k + 1 < length es).
            let next = reach_at n es (k + 1) d more in
            let before = up k (k + 1) d (omega arith) more in
            let a = one k d within in
            let b = one (k + 1) d more in
            ⊎_elim (λ (less : (get_or es k d).0 < (get_or es (k + 1) d).0). omega arith) (λ (same, less). omega arith) before)
            (λ (past : length es ≤ k + 1).
            let e : k + 1 ≡ length es = omega arith in
            let last : reach n es (k + 1) ≡ n + 1 = ap (reach n es) e ∙ reach_past n es in
            let there = target_inside k d within in
            omega arith)
            (cases_lt (k + 1) (length es))

        late : (j u : ℕ) (f : ℕ × ℕ) → j < length es → (get_or es j f).1 ≡ u → t + 1 + 1 ≤ u + 1 → k + 1 ≤ j
        late j u f here second above = ⊎_elim
            (λ (early : j < k + 1).
            let rising = seconds_rise block es up one j k f (omega arith) within in
            let same = ap (λ (e : ℕ × ℕ). e.1) (get_or_default es k d f within) in
            absurd (omega arith))
            (λ (later : k + 1 ≤ j). later)
            (cases_lt j (k + 1))

    pub edges_done : (links : List Link) → AreLinksUpto s first end (block + 1) (reach n es (length es)) links →
        AreLinksUpto s first end (block + 1 + 1) 0 links
    edges_done links old = same_upto s first end range (block + 1) (n + 1) (block + 1 + 1) 0 links
        (λ code of e within. (
          (λ below. ⊎_elim (λ (less : rank e.0 < block + 1). inl (omega arith)) (λ (same, less). inl (omega arith)) below),
          (λ below. ⊎_elim
              (λ (less : rank e.0 < block + 1 + 1). ⊎_elim (λ (early : rank e.0 < block + 1). inl early)
              (λ (late : block + 1 ≤ rank e.0).
              let at : rank e.0 ≡ block + 1 = omega arith in
              inr (at, last code e.0 e.1 e.2 within at))
              (cases_lt (rank e.0) (block + 1)))
              (λ (same, less). absurd (omega arith))
              below),
        ))
        (subst (λ (q : ℕ). AreLinksUpto s first end (block + 1) q links) (reach_past n es) old)
      where
        last : (code : ProgramCode) (o p : Option ℕ) (c : ℕ) → IsLinkWithin code s first end (o, p, c) → rank o ≡ block + 1 →
            rank p < n + 1
        last code o None c within at = omega arith
        last code o (Some t) c within at =
            let (j, here, there) = edge_at code o t c within.link (rank_same o (Some block) at) in
            let second : (get_or es j (block, t)).1 ≡ t = ap (λ (e : ℕ × ℕ). e.1) there in
            let low = target_inside j (block, t) here in
            omega arith

    pub among_edge : (k : ℕ) (d : ℕ × ℕ) (count : ℕ) (links new : List Link) → k < length es →
        new ≡ links ++ option_to_list (link_if (Some block) (Some (get_or es k d).1) (Some count)) →
        AreAmong first (end - first + 1) links → AreAmong first (end - first + 1) new
    among_edge k d count links new within pushed =
        let (low, high) = target_home k d within in
        all_pushed (IsAmong first (end - first + 1)) (Some block) (Some (get_or es k d).1) (Some count) links new
        (λ c. record { from = (from, omega arith); to = (low, omega arith) }) pushed

    pub out_next : (way : Option ℕ) (links new : List Link) →
        ((code : ProgramCode) → IsCodeOf code s → (c : ℕ) → (way ≡ Some c) ↔ IsLinkIn code s (Some block, None, c)) →
        new ≡ links ++ option_to_list (link_if (Some block) None way) →
        AreLinksUpto s first end (block + 1) 0 links → AreLinksUpto s first end (block + 1) (reach n es 0) new
    out_next way links new is pushed old = edges_begin new
        (step_upto s first end range (block + 1) 0 (Some block) None way links new refl refl from to is pushed old)

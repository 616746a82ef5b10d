use Rattle.std.proofs.Common.{◌≡◌, ◌∙◌, ◌+◌, ◌-◌, ◌<◌, ◌++◌, ap, refl, subst, sym, ℕ, List, Option, Some, None, get_or, length, arith}
use Rattle.std.specs.Option.{option_to_list}
use Rattle.flow_infer.specs.declared.flow.Link.{Link}
use Rattle.flow_infer.specs.Heights.{IsAmong}
use Rattle.flow_infer.specs.Links.{link_count}
use Rattle.flow_infer.specs.Sources.{AreLinksUpto, link_if}
use Rattle.flow_infer.proofs.EdgeSteps.{among_edge, edge_next, edges_done, es_of, out_next, reach, target_inside}
use Rattle.flow_infer.proofs.LinkLists.{all_pushed}
use Rattle.flow_infer.proofs.links.push_ways_from.Goals as goal

pub loop-edge-init : goal.loop-edge-init
loop-edge-init c =
    let block = c.args.block in
    let way = c.way_out.result in
    let links = c.args.links.now.items in
    let pushed = c.in_ok-push_some.ensures.is ∙ ap (λ (o : Option Link). links ++ option_to_list o) c.link_if.ensures in (
      (λ first end range from to among. all_pushed (IsAmong first (end - first + 1)) (Some block) None way links _
          (λ n. record { from = (from, omega arith); to = tt }) pushed among),
      (λ counted. all_pushed (λ (l : Link). l.flow ≡ l.count) (Some block) None way links _ (λ n. refl) pushed counted),
      (λ first end range from to upto. out_next c.args.source.now c.requires.source block c.requires.inside first end range from
          to way links _ c.way_out.ensures pushed upto),
    )

pub count_between-count-requires-clause-to : goal.count_between-count-requires-clause-to
count_between-count-requires-clause-to c =
    let s = c.args.source.now in
    let block = c.args.block in
    let i = c.loop-edge.edge-index in
    let is = c.edges_from-edge-items.ensures in
    let within = subst (λ (es : List (ℕ × ℕ)). i < length es) is c.loop-edge-test.true in
    subst (λ (es : List (ℕ × ℕ)). (get_or es i (0, 0)).1 < length s.blocks.now) (sym is)
    (target_inside s c.requires.source block c.requires.inside i (0, 0) within)

pub loop-edge-preserved : goal.loop-edge-preserved
loop-edge-preserved c =
    let s = c.args.source.now in
    let block = c.args.block in
    let inside = c.requires.inside in
    let i = c.loop-edge.edge-index in
    let links = c.loop-edge.links.items in
    let new = c.push_some-in-loop-edge.new.list.items in
    let count = c.count_between-count.result in
    let is = c.edges_from-edge-items.ensures in
    let es = es_of s block in
    let within = subst (λ (xs : List (ℕ × ℕ)). i < length xs) is c.loop-edge-test.true in
    let value = subst (λ (xs : List (ℕ × ℕ)). count ≡ link_count s.funcs.now s.blocks.now s.pairs.now (Some block)
    (Some (get_or xs i (0, 0)).1)) is c.count_between-count.ensures in
    let pushed = c.in_ok-push_some-2.ensures.is
    ∙ ap (λ (o : Option Link). links ++ option_to_list o) c.link_if-in-loop-edge.ensures in
    let pushed' = subst (λ (xs : List (ℕ × ℕ)). new ≡ links ++ option_to_list
    (link_if (Some block) (Some (get_or xs i (0, 0)).1) (Some count))) is pushed in
    let (among, counted, upto) = c.loop-edge.invariant in (
      (λ first end range from to were. among_edge s c.requires.source block inside first end range from to i (0, 0) count links new
          within pushed' (among first end range from to were)),
      (λ were. all_pushed (λ (l : Link). l.flow ≡ l.count) (Some block) (Some (get_or es i (0, 0)).1) (Some count) links new
          (λ n. refl) pushed' (counted were)),
      (λ first end range from to were. edge_next s c.requires.source block inside first end range from to i (0, 0) count links new
          within value pushed' (upto first end range from to were)),
    )

pub returns-clause-links : goal.returns-clause-links
returns-clause-links c = λ first end range from to were.
    let s = c.args.source.now in
    let block = c.args.block in
    let long = ap length c.edges_from-edge-items.ensures in
    let past = c.loop-edge-test.false in
    let upto = c.loop-edge.auto.edge-index-end in
    let last : c.loop-edge.edge-index ≡ length (es_of s block) = omega (arith, long, past, upto) in
    edges_done s c.requires.source block c.requires.inside first end range from to _
    (subst (λ (j : ℕ). AreLinksUpto s first end (block + 1) (reach (length s.blocks.now) (es_of s block) j) c.loop-edge.links.items)
    last (c.loop-edge.invariant.2 first end range from to were))

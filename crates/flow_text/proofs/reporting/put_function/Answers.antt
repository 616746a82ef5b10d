use Rattle.std.proofs.Common.{◌≡◌, ◌++◌, All, AllPairs, List, ℤ, map, subst, sym}
use Rattle.std.proofs.lemmas.List.Elements.{All-filter}
use Rattle.flow_infer.specs.declared.flow.Link.{Link}
use Rattle.flow_infer.specs.Links.{IsLinkBefore, counted_ends}
use Rattle.flow_text.specs.LinkLists.{IsBetween}
use Rattle.flow_text.specs.Report.{price_line}
use Rattle.flow_text.proofs.BlockRanges.{lines_more}
use Rattle.flow_text.proofs.reporting.put_function.Goals as goal

pub links_of-links-requires : goal.links_of-links-requires
links_of-links-requires c =
    subst (λ (ls : List Link). AllPairs (IsLinkBefore c.args.blocks.now) (map counted_ends ls)) (sym c.deref.ensures.value)
    c.requires.links.ordered

pub loop-place-preserved : goal.loop-place-preserved
loop-place-preserved c =
    lines_more (price_line c.args.funcs.now c.args.blocks.now c.args.flow.now.prices.items) c.blocks_of-first.result.0
    c.loop-place.place c.args.text.now.items c.loop-place.text.items c.put_price.new.text.items c.loop-place.auto.place
    c.loop-place.invariant
    (subst (λ (ps : List ℤ). c.put_price.new.text.items ≡ c.loop-place.text.items
    ++ price_line c.args.funcs.now c.args.blocks.now ps c.loop-place.place) c.deref-in-loop-place.ensures.value
    c.in_ok-put_price.ensures)

pub put_link-requires-clause-link : goal.put_link-requires-clause-link
put_link-requires-clause-link c =
    let links = c.links_of-links.result.now in
    let all : All (IsBetween c.args.blocks.now) links =
    subst (All (IsBetween c.args.blocks.now)) (sym c.links_of-links.ensures)
    (All-filter _ (IsBetween c.args.blocks.now) c.deref.result.now
    (subst (All (IsBetween c.args.blocks.now)) (sym c.deref.ensures.value) c.requires.links.inside)) in
    all c.loop-link.link-index _ c.loop-link-test.true

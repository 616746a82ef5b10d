use Rattle.std.proofs.Common.{◌≡◌, length, rules, subst, sym, List}
use Rattle.flow_infer.specs.declared.flow.Link.{Link}
use Rattle.flow_infer.specs.Sources.{AreLinksWithin, PartsFunctions}
use Rattle.flow_infer.proofs.RepairedLists.{range_of, repaired_all, repaired_next}
use Rattle.flow_infer.proofs.repairing.repair_functions.Goals as goal

pub function_links-requires-clause-function : goal.function_links-requires-clause-function
function_links-requires-clause-function c =
    let first : c.len-first.result ≡ length c.loop-alloc.flow.prices.items = search rules in
    let s = c.args.source.now in
    range_of s.blocks.now c.requires.stretches.ordered _ _ c.function_end-end.ensures
    (subst (PartsFunctions s.blocks.now) (sym first) c.loop-alloc.invariant.parted)

pub loop-alloc-preserved : goal.loop-alloc-preserved
loop-alloc-preserved c =
    let s = c.args.source.now in
    let first = c.len-first.result in
    let end = c.function_end-end.result in
    let at : first ≡ length c.loop-alloc.flow.prices.items = search rules in
    let listed = subst (λ (ls : List Link). AreLinksWithin s first end ls) (sym c.deref_mut.ensures.value)
    c.in_ok-links.ensures.links in
    repaired_next s c.requires c.loop-alloc.flow c.add_function.new.flow c.deref_mut.result.now first end at
    c.function_end-end.ensures listed c.in_ok-add_function.ensures.settled c.in_ok-add_function.ensures.priced
    c.in_ok-add_function.ensures.same c.loop-alloc.invariant

pub returns : goal.returns
returns c = λ code of.
    let s = c.args.source.now in
    let all : length c.loop-alloc.flow.prices.items ≡ length s.blocks.now = search rules in
    repaired_all s c.requires code c.loop-alloc.flow of all c.loop-alloc.invariant

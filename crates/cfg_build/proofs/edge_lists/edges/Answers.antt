use Rattle.std.proofs.Common.{◌∙◌, sym, subst, ℕ, ◌<◌, List, slice_index_or, arith}
use Rattle.std.specs.Prelude.{AllPairs}
use Rattle.std.proofs.lemmas.List.Kept.{AllPairs-from_increasing}
use Rattle.std.proofs.lemmas.Option.{slice_get-get_or, slice_get_within}
use Rattle.rv_code.specs.declared.placed.Block.{Block}
use Rattle.cfg_build.specs.EdgeLists.{LeadsFrom}
use Rattle.cfg_build.proofs.EdgeRows.{AreNext, edges_below, edges_more}
use Rattle.cfg_build.proofs.EdgeSets.{starts_ascend, stretch_of, AreEdges-by}
use Rattle.cfg_build.proofs.Leads.{leads_all}
use Rattle.cfg_build.proofs.Lookups.{at_index}
use Rattle.cfg_build.proofs.edge_lists.edges.Goals as goal

pub push_edges-requires-clause-starts : goal.push_edges-requires-clause-starts
push_edges-requires-clause-starts c =
    subst (AllPairs (λ (a b : ℕ). a < b)) (sym (c.deref.ensures.value ∙ c.in_ok-starts.ensures))
    (starts_ascend c.args.funcs.now c.args.blocks.now c.requires.funcs c.requires.blocks)

pub push_edges-requires-clause-leads : goal.push_edges-requires-clause-leads
push_edges-requires-clause-leads c =
    subst (AllPairs (λ (a b : ℕ). a < b)) (sym c.deref-in-loop-source.ensures.value)
    (AllPairs-from_increasing _ c.make_ascending.ensures.ascending)

pub push_edges-requires-clause-before : goal.push_edges-requires-clause-before
push_edges-requires-clause-before c =
    edges_below c.args.funcs.now c.args.targets.now c.args.blocks.now c.in_ok-starts.starts.items c.loop-source.source _
    c.loop-source.invariant

pub loop-source-preserved : goal.loop-source-preserved
loop-source-preserved c =
    let funcs = c.args.funcs.now in
    let blocks = c.args.blocks.now in
    let d : Block = record { func = 0; first = 0; last = 0 } in
    let block = slice_index_or blocks c.loop-source.source d in
    let func = c.index-funcs-block.result in
    let stretch = stretch_of funcs block (c.requires.blocks.each c.loop-source.source d c.loop-source-test.true) in
    let leads = c.deref-in-loop-source.result.now in
    let starts = c.in_ok-starts.starts.items in
    edges_more funcs c.args.targets.now blocks starts c.loop-source.source c.loop-source.edges.items _ block func leads
    (slice_get-get_or blocks c.loop-source.source d c.loop-source-test.true)
    (at_index funcs block.func func (slice_get_within funcs block.func stretch.func stretch.func_is) c.index-funcs-block.is)
    (leads_all (LeadsFrom c.args.targets.now func block.last) _ _ _ leads c.clear.ensures.items c.in_ok-push_leads.ensures
    c.make_ascending.ensures.same c.deref-in-loop-source.ensures.value)
    (subst (λ (xs : List ℕ). AreNext blocks xs c.loop-source.source block.func c.loop-source.edges.items leads
    c.push_edges.new.edges.items)
    c.deref.ensures.value c.in_ok-push_edges.ensures)
    c.loop-source.invariant

pub returns : goal.returns
returns c = λ cells pairs.
    AreEdges-by c.args.funcs.now cells c.args.targets.now pairs c.args.blocks.now c.requires.blocks.each c.loop-source.source
    c.in_ok-starts.starts.items c.loop-source.edges.items (let upto = c.loop-source.auto.source-end in omega arith)
    c.in_ok-starts.ensures
    c.loop-source.invariant

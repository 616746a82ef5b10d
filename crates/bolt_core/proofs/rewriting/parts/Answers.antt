use Rattle.std.proofs.Common.{◌≡◌, subst, sym, ℕ, List, arith}
use Rattle.std.proofs.lemmas.Result.{IfOk-weaker}
use Rattle.std.proofs.lemmas.Grind.{common_steps}
use Rattle.rv_code.specs.declared.cell.CodeCell.{CodeCell}
use Rattle.rv_code.specs.declared.placed.Block.{Block}
use Rattle.rv_code.specs.declared.placed.Func.{Func}
use Rattle.rv_code.specs.layout.Edges.{AreEdges, AreTablePairs}
use Rattle.rv_code.specs.layout.ProgramCode.{program_code}
use Rattle.edge_profile.proofs.BlockLists.{AreApart-blocks}
use Rattle.block_layout.proofs.Premises.{IsInner-edges, ordered-edges}
use Rattle.bolt_core.proofs.rewriting.parts.Goals as goal

-- the targets of jumps through tables, and the edges with these, as slices
record FoundEdges (funcs : List Func) (blocks : List Block) (cells : List CodeCell) (targets edges : List (ℕ × ℕ)) : Type 0 where
  pub targets_are : AreTablePairs funcs cells targets
  pub edges_are : AreEdges funcs cells blocks edges

found_edges : (funcs : List Func) (blocks : List Block) (given cells : List CodeCell)
    (targets targets' edges edges' : List (ℕ × ℕ)) → given ≡ cells → targets' ≡ targets → edges' ≡ edges →
    AreTablePairs funcs given targets → ((cs : List CodeCell) → AreTablePairs funcs cs targets' → AreEdges funcs cs blocks edges) →
    FoundEdges funcs blocks cells targets' edges'
found_edges funcs blocks given cells targets targets' edges edges' same_cells same_targets same_edges are by =
    let pairs : AreTablePairs funcs cells targets' =
    subst (AreTablePairs funcs cells) (sym same_targets) (subst (λ (cs : List CodeCell). AreTablePairs funcs cs targets) same_cells are) in
    record {
      targets_are = pairs;
      edges_are = subst (AreEdges funcs cells blocks) (sym same_edges) (by cells pairs);
    }

pub chains_by-requires-clause-blocks : goal.chains_by-requires-clause-blocks
chains_by-requires-clause-blocks c =
    AreApart-blocks (program_code c.args.funcs.now c.requires.blocks.roles c.requires.blocks.cells c.requires.blocks.entry)
    c.args.blocks.now c.requires.blocks.are

pub chains_by-requires-clause-edges : goal.chains_by-requires-clause-edges
chains_by-requires-clause-edges c =
    let edges = found_edges c.args.funcs.now c.args.blocks.now c.deref.result.now c.args.refs.now.cells.items
    c.in_ok-targets.targets.items c.deref-2.result.now c.in_ok-edges.edges.items c.deref-3.result.now c.deref.ensures.value
    c.deref-2.ensures.value c.deref-3.ensures.value c.in_ok-targets.ensures c.in_ok-edges.ensures in
    IsInner-edges c.args.funcs.now c.args.refs.now.cells.items c.args.blocks.now c.deref-3.result.now edges.edges_are

pub chains_by-requires-clause-ordered : goal.chains_by-requires-clause-ordered
chains_by-requires-clause-ordered c =
    let edges = found_edges c.args.funcs.now c.args.blocks.now c.deref.result.now c.args.refs.now.cells.items
    c.in_ok-targets.targets.items c.deref-2.result.now c.in_ok-edges.edges.items c.deref-3.result.now c.deref.ensures.value
    c.deref-2.ensures.value c.deref-3.ensures.value c.in_ok-targets.ensures c.in_ok-edges.ensures in
    ordered-edges c.args.funcs.now c.args.refs.now.cells.items c.args.blocks.now c.deref-3.result.now edges.edges_are

pub returns-clause-parts : goal.returns-clause-parts
returns-clause-parts c =
    let edges = found_edges c.args.funcs.now c.args.blocks.now c.deref.result.now c.args.refs.now.cells.items
    c.in_ok-targets.targets.items c.deref-2.result.now c.in_ok-edges.edges.items c.deref-3.result.now c.deref.ensures.value
    c.deref-2.ensures.value c.deref-3.ensures.value c.in_ok-targets.ensures c.in_ok-edges.ensures in
    IfOk-weaker c.chains_by.result _ _ (λ parts chains. record {
      pairs_are = c.requires.pairs;
      targets = c.deref-2.result.now;
      targets_are = edges.targets_are;
      edges = c.deref-3.result.now;
      edges_are = edges.edges_are;
      chains = chains;
    }) c.chains_by.ensures.chains

pub edges-requires-clause-targets : goal.edges-requires-clause-targets
edges-requires-clause-targets c = grind (arith, common_steps)

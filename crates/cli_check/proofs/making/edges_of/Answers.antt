use Rattle.std.proofs.Common.{AllPairs, subst, sym}
use Rattle.std.proofs.lemmas.Result.{IfOk-weaker}
use Rattle.rv_code.specs.layout.Lists.{IsPairBefore}
use Rattle.cli_check.proofs.RepairSteps.{edges_are, laid, stretches}
use Rattle.cli_check.proofs.making.edges_of.Goals as goal

pub edges-requires-clause-funcs : goal.edges-requires-clause-funcs
edges-requires-clause-funcs c =
    laid c.args.program.now c.requires c.as_slice-funcs.result.now c.as_slice-blocks.result.now c.as_slice-funcs.ensures.value
    c.as_slice-blocks.ensures.value

pub edges-requires-clause-blocks : goal.edges-requires-clause-blocks
edges-requires-clause-blocks c =
    stretches c.args.program.now c.requires c.as_slice-funcs.result.now c.as_slice-blocks.result.now c.as_slice-funcs.ensures.value
    c.as_slice-blocks.ensures.value

pub edges-requires-clause-targets : goal.edges-requires-clause-targets
edges-requires-clause-targets c =
    subst (AllPairs IsPairBefore) (sym c.deref-2.ensures.value) c.in_ok-targets.ensures.ordered

pub returns : goal.returns
returns c = IfOk-weaker c.edges.result _ _ (λ edges are.
    edges_are c.args.program.now c.requires c.as_slice-funcs.result.now c.as_slice-blocks.result.now c.as_slice-funcs.ensures.value
    c.as_slice-blocks.ensures.value c.deref.result.now c.in_ok-targets.targets.items c.deref-2.result.now edges.items
    c.deref.ensures.value c.deref-2.ensures.value c.in_ok-targets.ensures are) c.edges.ensures

use Rattle.std.proofs.Common.{◌∙◌}
use Rattle.std.proofs.lemmas.Result.{IfOk-weaker}
use Rattle.flow_text.proofs.RepairedTexts.{merged_positive, text_says}
use Rattle.flow_text.proofs.repaired.repaired_profile.Goals as goal

pub edge_text-requires-clause-positive : goal.edge_text-requires-clause-positive
edge_text-requires-clause-positive c =
    merged_positive c.args.funcs.now c.args.blocks.now c.args.links.now c.args.pairs.now c.deref.result.now c.deref-2.result.now
    c.requires.pairs (c.deref.ensures.value ∙ c.in_ok-flows.ensures) (c.deref-2.ensures.value ∙ c.in_ok-repaired.ensures)

pub returns : goal.returns
returns c = IfOk-weaker c.edge_text.result _ _ (λ text said.
    text_says c.args.funcs.now c.args.blocks.now c.args.links.now c.args.pairs.now c.deref.result.now c.deref-2.result.now
    c.requires.pairs (c.deref.ensures.value ∙ c.in_ok-flows.ensures) (c.deref-2.ensures.value ∙ c.in_ok-repaired.ensures)
    c.requires.funcs c.requires.blocks c.requires.links text.items said) c.edge_text.ensures

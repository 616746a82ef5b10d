use Rattle.std.proofs.Common.{◌∙◌, ◌++◌, ◌∷◌, [], ℕ, List, ap, sym}
use Rattle.std.specs.Global.{Vec}
use Rattle.std.proofs.lemmas.List.{map_more}
use Rattle.cover_lists.proofs.kept_lists.copies_of.Goals as goal

abbrev items : Vec ℕ → List ℕ
items v = v.items

pub loop-expression-preserved : goal.loop-expression-preserved
loop-expression-preserved c =
    c.in_ok-put_copy.ensures
    ∙ (λ i. c.loop-expression.invariant i ++ (c.as_slice.ensures.value ∙ ap items c.expression-item.is) i ∷ [])
    ∙ sym (map_more items c.args.expressions.now c.loop-expression.expression-index c.expression-item.result c.loop-expression-test.true)

use Rattle.std.proofs.Common.{◌∙◌, ◌++◌, List, ap, sym, take, append-nil}
use Rattle.std.proofs.lemmas.List.{take_all}
use Rattle.dw_unit.specs.declared.entry.Attr.{Attr}
use Rattle.dw_lists.specs.Weights.{greatest, indexes_in}
use Rattle.dw_lists.proofs.IndexWeights.{noted_more}
use Rattle.dw_lists.proofs.indexed_unit.greatest_in.Goals as goal

pub loop-attr-init : goal.loop-attr-init
loop-attr-init c = λ before e. e ∙ ap greatest (sym (append-nil before))

pub loop-attr-preserved : goal.loop-attr-preserved
loop-attr-preserved c = λ before e.
    noted_more c.args.form before c.args.attrs.now c.loop-attr.attr-index _ c.noted-greatest.result c.loop-attr-test.true
    (c.noted-greatest.ensures (before ++ indexes_in c.args.form (take c.loop-attr.attr-index c.args.attrs.now))
    (c.loop-attr.invariant before e))

pub returns : goal.returns
returns c = λ before e.
    c.loop-attr.invariant before e
    ∙ ap (λ (l : List Attr). greatest (before ++ indexes_in c.args.form l))
    (take_all c.loop-attr.attr-index c.args.attrs.now c.loop-attr-test.false)

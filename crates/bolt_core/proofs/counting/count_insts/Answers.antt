use Rattle.std.proofs.Common.{◌∙◌, ap, sym, List, length}
use Rattle.std.proofs.lemmas.List.{take_all}
use Rattle.std.proofs.lemmas.List.Concat.{length-flat_map}
use Rattle.std.specs.List.{sum_by}
use Rattle.rv_code.specs.declared.placed.Func.{Func}
use Rattle.bolt_core.proofs.counting.count_insts.Goals as goal

pub returns : goal.returns
returns c =
    c.loop-func.invariant
    ∙ ap (λ (funcs : List Func). sum_by (λ f. length f.insts.items) funcs)
    (take_all c.loop-func.func-index c.args.funcs.now c.loop-func-test.false)
    ∙ sym (length-flat_map (λ (f : Func). f.insts.items) c.args.funcs.now)

use Rattle.std.proofs.Common.{◌≤◌, sym, subst, List, take, length, arith}
use Rattle.std.specs.List.{Contains}
use Rattle.std.proofs.lemmas.List.{take_all}
use Rattle.rv_code.specs.declared.placed.Placed.{Placed}
use Rattle.rv_code.specs.declared.placed.Func.{Func}
use Rattle.rv_code.specs.layout.Flow.{insts_of}
use Rattle.rv_code.specs.layout.FunctionLists.{AreLaidOut}
use Rattle.map_check.specs.internal.InstRows.{IsJudgedOf, Meets}
use Rattle.map_check.proofs.JoinedItems.{judged_begin, judged_join, insts_more}
use Rattle.map_check.proofs.insts.lowest_unmet.Goals as goal

pub loop-func-init : goal.loop-func-init
loop-func-init c = λ r ch map laid same. judged_begin (Meets c.args.demand r)

pub loop-func-preserved : goal.loop-func-preserved
loop-func-preserved c = λ r ch map laid same.
    let func = c.func-item.result in
    subst (λ (ps : List Placed). IsJudgedOf (Meets c.args.demand r) ps c.lower-lowest.result)
    (sym (insts_more c.args.funcs.now c.loop-func.func-index func c.loop-func-test.true c.func-item.is))
    (judged_join (Meets c.args.demand r) (insts_of (take c.loop-func.func-index c.args.funcs.now)) func.insts.items
    c.loop-func.lowest c.lowest_unmet_in.result c.lower-lowest.result c.lower-lowest.ensures
    (c.loop-func.invariant r ch map laid same)
    (c.lowest_unmet_in.ensures r ch map (subst AreLaidOut (sym same) laid)
    (subst (λ (fs : List Func). Contains fs func) (sym same)
    (c.loop-func.func-index, c.loop-func-test.true, sym c.func-item.is))))

pub returns : goal.returns
returns c = λ r ch map laid same.
    let all : length c.args.funcs.now ≤ c.loop-func.func-index = omega arith in
    subst (λ (fs : List Func). IsJudgedOf (Meets c.args.demand r) (insts_of fs) c.loop-func.lowest)
    (take_all c.loop-func.func-index c.args.funcs.now all) (c.loop-func.invariant r ch map laid same)

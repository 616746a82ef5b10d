use Rattle.std.proofs.Common.{◌≡◌, take}
use Rattle.rv_code.specs.layout.Flow.{insts_of}
use Rattle.rv_code.specs.layout.FunctionLists.{AreLaidOut}
use Rattle.move_law.specs.Rewrite.{Rewrite}
use Rattle.move_law.specs.FaithfulRewrite.{IsMapOf}
use Rattle.map_check.specs.internal.InstRows.{IsChecked, IsJudgedOf, Meets}
use Rattle.map_check.proofs.insts.lowest_unmet.Given as goal

abbrev pub invariant-loop-func : goal.invariant-loop-func
invariant-loop-func l =
    (r : Rewrite) → IsChecked r l.output l.table → IsMapOf r → AreLaidOut l.funcs → r.code.funcs ≡ l.funcs →
    IsJudgedOf (Meets l.demand r) (insts_of (take l.func-index l.funcs)) l.lowest

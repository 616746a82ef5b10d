use Rattle.std.specs.List.{Contains}
use Rattle.rv_code.specs.layout.FunctionLists.{AreLaidOut}
use Rattle.move_law.specs.Rewrite.{Rewrite}
use Rattle.move_law.specs.FaithfulRewrite.{IsMapOf}
use Rattle.map_check.specs.internal.InstRows.{IsChecked, Meets}
use Rattle.map_check.proofs.LowestItems.{Judged}
use Rattle.map_check.proofs.insts.lowest_unmet_in.Given as goal

abbrev pub invariant-loop-i : goal.invariant-loop-i
invariant-loop-i l =
    (r : Rewrite) → IsChecked r l.output l.table → IsMapOf r → AreLaidOut r.code.funcs → Contains r.code.funcs l.func →
    Judged (Meets l.demand r) (λ p. p.addr) l.func.insts.items l.i l.lowest

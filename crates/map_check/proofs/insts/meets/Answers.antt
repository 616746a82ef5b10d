use Rattle.std.proofs.Common.{◌↔◌, IsTrue, sym, subst}
use Rattle.map_check.specs.declared.insts.Demand.{Demand}
use Rattle.map_check.specs.internal.InstRows.{Meets}
use Rattle.map_check.proofs.insts.meets.Goals as goal

pub returns-in-Kept : goal.returns-in-Kept
returns-in-Kept c = λ r ch next.
    subst (λ (d : Demand). IsTrue c.keeps_inst.result ↔ Meets d r c.args.p.now) (sym c.in-Kept.is) (c.keeps_inst.ensures r ch next)

pub returns-in-Followed : goal.returns-in-Followed
returns-in-Followed c = λ r ch next.
    subst (λ (d : Demand). IsTrue c.goes_on.result ↔ Meets d r c.args.p.now) (sym c.in-Followed.is) (c.goes_on.ensures r ch next)

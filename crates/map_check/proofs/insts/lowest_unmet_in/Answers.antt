use Rattle.std.proofs.Common.{ap, subst, ◌∙◌, ◌<◌, ◌≤◌, ◌↔◌, IsTrue, length, arith}
use Rattle.rv_code.specs.declared.placed.Placed.{Placed}
use Rattle.move_law.specs.FaithfulRewrite.{next}
use Rattle.map_check.specs.internal.InstRows.{Meets}
use Rattle.map_check.proofs.LowestItems.{judged_none, judged_more, judged_all}
use Rattle.map_check.proofs.insts.lowest_unmet_in.Goals as goal

pub loop-i-init : goal.loop-i-init
loop-i-init c = λ r ch map laid here. judged_none (Meets c.args.demand r) (λ p. p.addr) c.args.func.now.insts.items

pub loop-i-preserved : goal.loop-i-preserved
loop-i-preserved c = λ r ch map laid here.
    let q = c.index-p.result.now in
    let at = c.index-p.ensures in
    let within : c.loop-i.i < length c.args.func.now.insts.items = omega arith in
    judged_more (Meets c.args.demand r) (λ p. p.addr) c.args.func.now.insts.items c.loop-i.i q within c.meets-met.result
    (subst (λ (p : Placed). IsTrue c.meets-met.result ↔ Meets c.args.demand r p) at
    (c.meets-met.ensures r ch (ap (next r) at ∙ c.next_at.ensures r c.args.output.now q ch map laid here))) c.loop-i.lowest
    c.lower-lowest.result c.place_if.result q.addr c.lower-lowest.ensures c.place_if.ensures (ap (λ (p : Placed). p.addr) at)
    (c.loop-i.invariant r ch map laid here)

pub returns : goal.returns
returns c = λ r ch map laid here.
    let all : length c.args.func.now.insts.items ≤ c.loop-i.i = omega (arith, c.loop-i-test.false) in
    let judged = judged_all (Meets c.args.demand r) (λ p. p.addr) c.args.func.now.insts.items c.loop-i.i c.loop-i.lowest all
    (c.loop-i.invariant r ch map laid here) in
    record { all = judged.0; lowest = judged.1 }

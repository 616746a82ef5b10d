use Rattle.std.proofs.Common.{sym, ◌∙◌, arith}
use Rattle.std.proofs.lemmas.Grind.{common_steps}
use Rattle.func_place.specs.Placement.{unit_call}
use Rattle.func_place.proofs.CallLists.{given_some, given_none}
use Rattle.func_place.proofs.unit_calls.calls_of.Goals as goal
use Rattle.func_place.proofs.unit_calls.calls_of.Goals.{in-Some+in_ok-push, in_default}

pub loop-pair-preserved : goal.loop-pair-preserved
loop-pair-preserved c = elim c.match-call_of.branch [
  | in-Some+in_ok-push w ↦ rw w.calls-is (given_some (unit_call c.args.funcs.now c.args.units.now) c.args.pairs.now
      c.loop-pair.pair-index (0, 0, 0) w.in-Some.call c.loop-pair.calls.items w.push.new.self.items c.loop-pair-test.true
      (sym c.call_of.ensures ∙ w.in-Some.is) c.loop-pair.invariant w.in_ok-push.ensures.items)
  | in_default w ↦ rw w.calls-is (given_none (unit_call c.args.funcs.now c.args.units.now) c.args.pairs.now c.loop-pair.pair-index
      (0, 0, 0) c.loop-pair.calls.items c.loop-pair-test.true (sym c.call_of.ensures ∙ w.in_default.is) c.loop-pair.invariant)
]

pub returns : goal.returns
returns c = grind (arith, common_steps)

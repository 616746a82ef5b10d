use Rattle.std.proofs.Common.{◌≡◌, ◌∙◌, sym, ap, refl, rules, subst, None}
use Rattle.rv_code.specs.declared.action.Action.TheVariants.{SystemCall}
use Rattle.rv_code.specs.isa.Action.{action_of}
use Rattle.rv_code.specs.machine.Machine.{plus, call_of}
use Rattle.rv_code.specs.machine.Step.{a7, calls, effect, fetched, Steps, illegal, does}
use Rattle.rv_machine.specs.State.{state_of, HasRegisters}
use Rattle.rv_machine.proofs.Determined.{only_no_fetch, only_illegal, only_does}
use Rattle.rv_machine.proofs.Registers.{has_registers}
use Rattle.rv_machine.specs.StepResults.{answered}
use Rattle.run_core.proofs.Quiet.{quiet_answers, answers_by}
use Rattle.rv_machine.proofs.machine.Machine.step_known.Goals as goal

pub returns-in_default-find-clause-answer : goal.returns-in_default-find-clause-answer
returns-in_default-find-clause-answer g c = rw c.trap-in_default-find.ensures (record {
  comes_to = λ input. illegal c.in-Some.half c.in-Some.next (sym (c.in-Some.ensures input)) c.in_default-find.ensures.none refl;
  state_is = λ input. refl;
  left_is = refl;
  taken_is = refl;
})

pub execute-requires-clause-registers : goal.execute-requires-clause-registers
execute-requires-clause-registers g c =
    subst HasRegisters (sym c.in-Some-find.ensures.found.action_is) (has_registers c.in-Some.half c.in-Some.next
    c.in-Some-find.ensures.found.inst c.in-Some-find.length c.in-Some-find.ensures.found.decodes)

pub returns-then-matches-clause-answer : goal.returns-then-matches-clause-answer
returns-then-matches-clause-answer g c =
    let next = plus c.args.self.now.pc c.in-Some-find.length in
    let is : action_of c.in-Some-find.ensures.found.inst ≡ SystemCall =
    sym c.in-Some-find.ensures.found.action_is ∙ search rules in
    answers_by state_of (λ s o. o ≡ calls s next (call_of (s.registers a7))) Steps c.args.self.now c.system_call.new.self
    (λ input o same.
    does c.in-Some.half c.in-Some.next c.in-Some-find.ensures.found.inst c.in-Some-find.length
    (sym (c.in-Some.ensures input)) c.in-Some-find.ensures.found.decodes
    (same ∙ ap (λ a. effect a next (state_of c.args.self.now input)) (sym is)))
    _ _ _ _ (answered c.system_call.result) c.system_call.ensures.answer

pub returns-else-matches-clause-answer : goal.returns-else-matches-clause-answer
returns-else-matches-clause-answer g c =
    let next = plus c.args.self.now.pc c.in-Some-find.length in
    quiet_answers state_of Steps c.args.self.now c.execute.new.self (λ s. effect c.in-Some-find.action next s)
    (answered c.execute.result) c.args.input_end.now.reached
    (record { input = g.I.Source.seen c.args.input.now; output = g.O.Sink.seen c.args.out.now })
    (λ input.
    does c.in-Some.half c.in-Some.next c.in-Some-find.ensures.found.inst c.in-Some-find.length
    (sym (c.in-Some.ensures input)) c.in-Some-find.ensures.found.decodes
    (ap (λ a. effect a next (state_of c.args.self.now input)) c.in-Some-find.ensures.found.action_is))
    c.execute.ensures

pub returns-in_default-clause-determined : goal.returns-in_default-clause-determined
returns-in_default-clause-determined g c = λ bytes o p first other.
    let s = state_of c.args.self.now bytes in
    let none : fetched s ≡ None = sym (c.fetch.ensures bytes) ∙ c.in_default.is in
    only_no_fetch s none o first ∙ sym (only_no_fetch s none p other)

pub returns-in_default-find-clause-determined : goal.returns-in_default-find-clause-determined
returns-in_default-find-clause-determined g c = λ bytes o p first other.
    let only = only_illegal (state_of c.args.self.now bytes) c.in-Some.half c.in-Some.next
    (sym (c.in-Some.ensures bytes)) c.in_default-find.ensures.none in
    only o first ∙ sym (only p other)

pub returns-then-matches-clause-determined : goal.returns-then-matches-clause-determined
returns-then-matches-clause-determined g c = λ bytes o p first other.
    let only = only_does (state_of c.args.self.now bytes) c.in-Some.half c.in-Some.next
    (sym (c.in-Some.ensures bytes)) c.in-Some-find.ensures.found.inst c.in-Some-find.length c.in-Some-find.ensures.found.decodes
    c.in-Some-find.ensures.found.only in
    only o first ∙ sym (only p other)

pub returns-else-matches-clause-determined : goal.returns-else-matches-clause-determined
returns-else-matches-clause-determined g c = λ bytes o p first other.
    let only = only_does (state_of c.args.self.now bytes) c.in-Some.half c.in-Some.next
    (sym (c.in-Some.ensures bytes)) c.in-Some-find.ensures.found.inst c.in-Some-find.length c.in-Some-find.ensures.found.decodes
    c.in-Some-find.ensures.found.only in
    only o first ∙ sym (only p other)

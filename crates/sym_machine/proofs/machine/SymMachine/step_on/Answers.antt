use Rattle.std.proofs.Common.{◌≡◌, ◌∙◌, sym, ap, refl, rules, None, Some}
use Rattle.rv_code.specs.declared.action.Action.TheVariants.{SystemCall}
use Rattle.rv_code.specs.machine.Machine.{plus, call_of}
use Rattle.rv_code.specs.machine.Step.{a7}
use Rattle.run_core.proofs.Quiet.{quiet_answers, answers_by}
use Rattle.sym_machine.specs.SymStep.{SymSteps, effect, argument, calls}
use Rattle.sym_machine.specs.MachineState.{state_of, funcs_of, answered}
use Rattle.sym_machine.proofs.KnownEntries.{decoded_action, step_by}
use Rattle.sym_machine.proofs.machine.SymMachine.step_on.Goals as goal

pub returns-in_default-clause-answer : goal.returns-in_default-clause-answer
returns-in_default-clause-answer g c =
    let m = c.args.self.now in
    rw c.stuck.ensures (record {
      comes_to = λ input. step_by (funcs_of m) (state_of m input) None (sym c.in_default.is ∙ c.find.ensures.is);
      state_is = λ input. refl;
      left_is = refl;
      taken_is = refl;
    })

pub execute-requires-clause-action : goal.execute-requires-clause-action
execute-requires-clause-action g c = decoded_action _ c.in-Some.inst (sym c.find.ensures.is ∙ c.in-Some.is)

pub returns-then-matches-clause-answer : goal.returns-then-matches-clause-answer
returns-then-matches-clause-answer g c =
    let m = c.args.self.now in
    let d = c.in-Some.inst in
    let next = plus m.pc d.length in
    let is : d.action ≡ SystemCall = search rules in
    answers_by state_of (λ s o. o ≡ argument s a7 (λ n. calls s next n (call_of n)))
    (SymSteps (funcs_of m)) m c.system_call.new.self
    (λ input o same. step_by (funcs_of m) (state_of m input) (Some d) (sym c.in-Some.is ∙ c.find.ensures.is)
    ∙ ap (λ a. effect (funcs_of m) d.role a next (state_of m input)) is ∙ sym same)
    _ _ _ _ (answered c.system_call.result) c.system_call.ensures.answer

pub returns-else-matches-clause-answer : goal.returns-else-matches-clause-answer
returns-else-matches-clause-answer g c =
    let m = c.args.self.now in
    let d = c.in-Some.inst in
    let next = plus m.pc d.length in
    quiet_answers state_of (SymSteps (funcs_of m)) m c.execute.new.self (λ s. effect (funcs_of m) d.role d.action next s)
    (answered c.execute.result) c.args.input_end.now.reached
    (record { input = g.I.Source.seen c.args.input.now; output = g.O.Sink.seen c.args.out.now })
    (λ input. step_by (funcs_of m) (state_of m input) (Some d) (sym c.in-Some.is ∙ c.find.ensures.is))
    c.execute.ensures.answer

use Rattle.std.proofs.Common.{◌≡◌, ◌∙◌, sym, ap, true, false}
use Rattle.std.specs.Prelude.{◌==◌, ◌||◌}
use Rattle.rv_code.specs.machine.Step.{a0, write_call, refuses_file}
use Rattle.rv_machine.specs.State.{state_of}
use Rattle.rv_machine.specs.StepResults.{answered}
use Rattle.run_core.proofs.Quiet.{quiet_answers, answers_by}
use Rattle.rv_machine.proofs.machine.Machine.write.Goals as goal

pub returns-then-is_output-clause-answer : goal.returns-then-is_output-clause-answer
returns-then-is_output-clause-answer g c = λ input ended.
    let open_file : (c.register.result == 1 || c.register.result == 2) ≡ true = sym c.is_output.ensures ∙ c.if-is_output.true in
    answers_by state_of (λ s o. o ≡ write_call s c.args.next true)
    (λ s o. o ≡ write_call s c.args.next (s.registers a0 == 1 || s.registers a0 == 2)) c.args.self.now c.write_output.new.self
    (λ input o is. is ∙ ap (write_call (state_of c.args.self.now input) c.args.next) (sym (rw c.register.ensures at open_file)))
    _ _ _ _ (answered c.write_output.result) (c.write_output.ensures.answer input ended)

pub returns-else-is_output-clause-answer : goal.returns-else-is_output-clause-answer
returns-else-is_output-clause-answer g c = λ input ended.
    let closed : (c.register.result == 1 || c.register.result == 2) ≡ false = sym c.is_output.ensures ∙ c.if-is_output.false in
    quiet_answers state_of (λ s o. o ≡ write_call s c.args.next (s.registers a0 == 1 || s.registers a0 == 2)) c.args.self.now
    c.refuse_file.new.self (λ s. refuses_file s c.args.next 64) (answered c.refuse_file.result) ended
    (record { input = input; output = g.O.Sink.seen c.args.out.now })
    (λ input. ap (write_call (state_of c.args.self.now input) c.args.next) (sym (rw c.register.ensures at closed)))
    (λ input. c.refuse_file.ensures input 64)

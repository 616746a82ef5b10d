use Rattle.std.proofs.Common.{◌≡◌, ◌∙◌, sym, ap, true, false}
use Rattle.std.specs.Prelude.{◌==◌}
use Rattle.rv_code.specs.machine.Step.{a0, read_call, refuses_file}
use Rattle.rv_machine.specs.State.{state_of}
use Rattle.rv_machine.specs.StepResults.{answered}
use Rattle.run_core.proofs.Quiet.{quiet_answers, answers_by}
use Rattle.rv_machine.proofs.machine.Machine.read.Goals as goal

pub returns-then-is_input-clause-answer : goal.returns-then-is_input-clause-answer
returns-then-is_input-clause-answer g c = λ output.
    let open_file : (c.register.result == 0) ≡ true = sym c.is_input.ensures ∙ c.if-is_input.true in
    answers_by state_of (λ s o. o ≡ read_call s c.args.next true)
    (λ s o. o ≡ read_call s c.args.next (s.registers a0 == 0)) c.args.self.now c.read_input.new.self
    (λ input o is. is ∙ ap (read_call (state_of c.args.self.now input) c.args.next) (sym (rw c.register.ensures at open_file)))
    _ _ _ _ (answered c.read_input.result) (c.read_input.ensures.answer output)

pub returns-else-is_input-clause-answer : goal.returns-else-is_input-clause-answer
returns-else-is_input-clause-answer g c = λ output.
    let closed : (c.register.result == 0) ≡ false = sym c.is_input.ensures ∙ c.if-is_input.false in
    quiet_answers state_of (λ s o. o ≡ read_call s c.args.next (s.registers a0 == 0)) c.args.self.now c.refuse_file.new.self
    (λ s. refuses_file s c.args.next 63) (answered c.refuse_file.result) c.args.input_end.now.reached
    (record { input = g.I.Source.seen c.args.input.now; output = output })
    (λ input. ap (read_call (state_of c.args.self.now input) c.args.next) (sym (rw c.register.ensures at closed)))
    (λ input. c.refuse_file.ensures input 63)

use Rattle.std.proofs.Common.{◌≡◌, ◌∙◌, sym, Some}
use Rattle.rv_code.specs.machine.Machine.{call_of, Read, Write, Exit, Brk, Unknown}
use Rattle.rv_code.specs.machine.Step.{a7}
use Rattle.run_core.proofs.Quiet.{quiet_answers, answers_by}
use Rattle.sym_machine.specs.Values.{number}
use Rattle.sym_machine.specs.SymStep.{argument, calls}
use Rattle.sym_machine.specs.MachineState.{state_of, answered, registers_of}
use Rattle.sym_machine.proofs.CallEffects.{called}
use Rattle.sym_machine.proofs.machine.SymMachine.system_call.Goals as goal

pub returns-in-Read-clause-answer : goal.returns-in-Read-clause-answer
returns-in-Read-clause-answer g c =
    let m = c.args.self.now in
    let n = c.in-Some.number in
    let found : number (registers_of m a7) ≡ Some n = sym c.argument.ensures ∙ c.in-Some.is in
    let is : call_of n ≡ Read = sym c.in-Read.ensures in
    answers_by state_of (λ s o. o ≡ calls s c.args.next n Read)
    (λ s o. o ≡ argument s a7 (λ k. calls s c.args.next k (call_of k))) m c.read.new.self
    (λ input o same. same ∙ sym (called (state_of m input) c.args.next n Read found is))
    _ _ _ _ (answered c.read.result) (c.read.ensures.answer (g.O.Sink.seen c.args.out.now))

pub returns-in-Write-clause-answer : goal.returns-in-Write-clause-answer
returns-in-Write-clause-answer g c =
    let m = c.args.self.now in
    let n = c.in-Some.number in
    let found : number (registers_of m a7) ≡ Some n = sym c.argument.ensures ∙ c.in-Some.is in
    let is : call_of n ≡ Write = sym c.in-Write.ensures in
    answers_by state_of (λ s o. o ≡ calls s c.args.next n Write)
    (λ s o. o ≡ argument s a7 (λ k. calls s c.args.next k (call_of k))) m c.write.new.self
    (λ input o same. same ∙ sym (called (state_of m input) c.args.next n Write found is))
    _ _ _ _ (answered c.write.result) (c.write.ensures.answer (g.I.Source.seen c.args.input.now) c.args.input_end.now.reached)

pub returns-in-Exit-clause-answer : goal.returns-in-Exit-clause-answer
returns-in-Exit-clause-answer g c =
    let m = c.args.self.now in
    let n = c.in-Some.number in
    let found : number (registers_of m a7) ≡ Some n = sym c.argument.ensures ∙ c.in-Some.is in
    let is : call_of n ≡ Exit = sym c.in-Exit.ensures in
    quiet_answers state_of (λ s o. o ≡ argument s a7 (λ k. calls s c.args.next k (call_of k))) m m
    (λ s. calls s c.args.next n Exit) (answered c.exit.result) c.args.input_end.now.reached
    (record { input = g.I.Source.seen c.args.input.now; output = g.O.Sink.seen c.args.out.now })
    (λ input. sym (called (state_of m input) c.args.next n Exit found is))
    (λ input. c.exit.ensures input c.args.next)

pub returns-in-Brk-clause-answer : goal.returns-in-Brk-clause-answer
returns-in-Brk-clause-answer g c =
    let m = c.args.self.now in
    let n = c.in-Some.number in
    let found : number (registers_of m a7) ≡ Some n = sym c.argument.ensures ∙ c.in-Some.is in
    let is : call_of n ≡ Brk = sym c.in-Brk.ensures in
    quiet_answers state_of (λ s o. o ≡ argument s a7 (λ k. calls s c.args.next k (call_of k))) m c.brk.new.self
    (λ s. calls s c.args.next n Brk) (answered c.brk.result) c.args.input_end.now.reached
    (record { input = g.I.Source.seen c.args.input.now; output = g.O.Sink.seen c.args.out.now })
    (λ input. sym (called (state_of m input) c.args.next n Brk found is))
    (c.brk.ensures.answer)

pub returns-in-Unknown-clause-answer : goal.returns-in-Unknown-clause-answer
returns-in-Unknown-clause-answer g c =
    let m = c.args.self.now in
    let n = c.in-Some.number in
    let found : number (registers_of m a7) ≡ Some n = sym c.argument.ensures ∙ c.in-Some.is in
    let is : call_of n ≡ Unknown = sym c.in-Unknown.ensures in
    quiet_answers state_of (λ s o. o ≡ argument s a7 (λ k. calls s c.args.next k (call_of k))) m c.refuse_call.new.self
    (λ s. calls s c.args.next n Unknown) (answered c.refuse_call.result) c.args.input_end.now.reached
    (record { input = g.I.Source.seen c.args.input.now; output = g.O.Sink.seen c.args.out.now })
    (λ input. sym (called (state_of m input) c.args.next n Unknown found is))
    (λ input. c.refuse_call.ensures.answer input n)

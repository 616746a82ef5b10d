use Rattle.std.proofs.Common.{◌≡◌, ◌∙◌, sym, ap}
use Rattle.rv_code.specs.machine.Machine.{call_of, Read, Write, Exit, Brk, Unknown}
use Rattle.rv_code.specs.machine.Step.{a7, calls}
use Rattle.rv_machine.specs.State.{state_of, registers_of}
use Rattle.rv_machine.specs.StepResults.{answered}
use Rattle.run_core.proofs.Quiet.{quiet_answers, answers_by}
use Rattle.rv_machine.proofs.machine.Machine.system_call.Goals as goal

pub returns-in-Read-clause-answer : goal.returns-in-Read-clause-answer
returns-in-Read-clause-answer g c =
    let is : call_of (registers_of c.args.self.now a7) ≡ Read = rw c.register.ensures at (sym c.in-Read.ensures) in
    answers_by state_of (λ s o. o ≡ calls s c.args.next Read)
    (λ s o. o ≡ calls s c.args.next (call_of (s.registers a7))) c.args.self.now c.read.new.self
    (λ input o same. same ∙ ap (calls (state_of c.args.self.now input) c.args.next) (sym is))
    _ _ _ _ (answered c.read.result) (c.read.ensures.answer (g.O.Sink.seen c.args.out.now))

pub returns-in-Write-clause-answer : goal.returns-in-Write-clause-answer
returns-in-Write-clause-answer g c =
    let is : call_of (registers_of c.args.self.now a7) ≡ Write = rw c.register.ensures at (sym c.in-Write.ensures) in
    answers_by state_of (λ s o. o ≡ calls s c.args.next Write)
    (λ s o. o ≡ calls s c.args.next (call_of (s.registers a7))) c.args.self.now c.write.new.self
    (λ input o same. same ∙ ap (calls (state_of c.args.self.now input) c.args.next) (sym is))
    _ _ _ _ (answered c.write.result) (c.write.ensures.answer (g.I.Source.seen c.args.input.now) c.args.input_end.now.reached)

pub returns-in-Brk-clause-answer : goal.returns-in-Brk-clause-answer
returns-in-Brk-clause-answer g c =
    let is : call_of (registers_of c.args.self.now a7) ≡ Brk = rw c.register.ensures at (sym c.in-Brk.ensures) in
    quiet_answers state_of (λ s o. o ≡ calls s c.args.next (call_of (s.registers a7))) c.args.self.now c.brk.new.self
    (λ s. calls s c.args.next Brk) (answered c.brk.result) c.args.input_end.now.reached
    (record { input = g.I.Source.seen c.args.input.now; output = g.O.Sink.seen c.args.out.now })
    (λ input. ap (calls (state_of c.args.self.now input) c.args.next) (sym is))
    c.brk.ensures

pub returns-in-Exit-clause-answer : goal.returns-in-Exit-clause-answer
returns-in-Exit-clause-answer g c =
    let is : call_of (registers_of c.args.self.now a7) ≡ Exit = rw c.register.ensures at (sym c.in-Exit.ensures) in
    quiet_answers state_of (λ s o. o ≡ calls s c.args.next (call_of (s.registers a7))) c.args.self.now c.args.self.now
    (λ s. calls s c.args.next Exit) (answered c.exit.result) c.args.input_end.now.reached
    (record { input = g.I.Source.seen c.args.input.now; output = g.O.Sink.seen c.args.out.now })
    (λ input. ap (calls (state_of c.args.self.now input) c.args.next) (sym is))
    (λ input. c.exit.ensures input c.args.next)

pub returns-in-Unknown-clause-answer : goal.returns-in-Unknown-clause-answer
returns-in-Unknown-clause-answer g c =
    let is : call_of (registers_of c.args.self.now a7) ≡ Unknown = rw c.register.ensures at (sym c.in-Unknown.ensures) in
    quiet_answers state_of (λ s o. o ≡ calls s c.args.next (call_of (s.registers a7))) c.args.self.now c.refuse_call.new.self
    (λ s. calls s c.args.next Unknown) (answered c.refuse_call.result) c.args.input_end.now.reached
    (record { input = g.I.Source.seen c.args.input.now; output = g.O.Sink.seen c.args.out.now })
    (λ input. ap (calls (state_of c.args.self.now input) c.args.next) (sym is))
    c.refuse_call.ensures

use Rattle.std.proofs.Common.{◌≡◌, ◌∙◌, sym, ap, true, false, Some}
use Rattle.std.specs.Prelude.{◌==◌, ◌||◌, if◌then◌else◌, min}
use Rattle.rv_code.specs.machine.Machine.{Write, most_moved, memory_bytes}
use Rattle.run_core.proofs.Quiet.{quiet_answers, answers_by}
use Rattle.sym_machine.specs.SymStep.{calls, write_call, writes_output, refuses_file}
use Rattle.sym_machine.specs.MachineState.{state_of, answered, registers_of}
use Rattle.sym_machine.specs.internal.Calls.{buffer_in}
use Rattle.sym_machine.proofs.CallEffects.{arguments_found}
use Rattle.sym_machine.proofs.machine.SymMachine.write.Goals as goal

pub returns-then-is_output-clause-answer : goal.returns-then-is_output-clause-answer
returns-then-is_output-clause-answer g c = λ input ended.
    let m = c.args.self.now in
    let b = c.in-Some.buffer in
    let found : buffer_in (registers_of m) ≡ Some b = sym c.buffer.ensures ∙ c.in-Some.is in
    let open_file : (b.file == 1 || b.file == 2) ≡ true = sym c.is_output.ensures ∙ c.if-is_output.true in
    answers_by state_of (λ s o. o ≡ writes_output s c.args.next b.file b.address b.size
    (memory_bytes s.memory b.address (min b.size most_moved))) (λ s o. o ≡ calls s c.args.next 64 Write) m c.write_output.new.self
    (λ input o is.
    let s = state_of m input in
    is
    ∙ ap (λ (t : _). if t then writes_output s c.args.next b.file b.address b.size (memory_bytes s.memory b.address
    (min b.size most_moved)) else refuses_file s c.args.next 64 b.file b.address b.size) (sym open_file)
    ∙ sym (arguments_found s (write_call s c.args.next) b found))
    _ _ _ _ (answered c.write_output.result) (c.write_output.ensures.answer input ended)

pub returns-else-is_output-clause-answer : goal.returns-else-is_output-clause-answer
returns-else-is_output-clause-answer g c = λ input ended.
    let m = c.args.self.now in
    let b = c.in-Some.buffer in
    let found : buffer_in (registers_of m) ≡ Some b = sym c.buffer.ensures ∙ c.in-Some.is in
    let closed : (b.file == 1 || b.file == 2) ≡ false = sym c.is_output.ensures ∙ c.if-is_output.false in
    quiet_answers state_of (λ s o. o ≡ calls s c.args.next 64 Write) m c.refuse_file.new.self
    (λ s. refuses_file s c.args.next 64 b.file b.address b.size) (answered c.refuse_file.result) ended
    (record { input = input; output = g.O.Sink.seen c.args.out.now })
    (λ input.
    let s = state_of m input in
    ap (λ (t : _). if t then writes_output s c.args.next b.file b.address b.size (memory_bytes s.memory b.address
    (min b.size most_moved)) else refuses_file s c.args.next 64 b.file b.address b.size) (sym closed)
    ∙ sym (arguments_found s (write_call s c.args.next) b found))
    (λ input. c.refuse_file.ensures.answer input 64 b.file b.address b.size)

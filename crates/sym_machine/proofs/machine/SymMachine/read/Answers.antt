use Rattle.std.proofs.Common.{◌≡◌, ◌∙◌, sym, ap, true, false, Some, take}
use Rattle.std.specs.Prelude.{◌==◌, if◌then◌else◌, min}
use Rattle.rv_code.specs.machine.Machine.{Read, most_moved}
use Rattle.run_core.proofs.Quiet.{quiet_answers, answers_by}
use Rattle.sym_machine.specs.SymStep.{calls, read_call, reads_input, refuses_file}
use Rattle.sym_machine.specs.MachineState.{state_of, answered, registers_of}
use Rattle.sym_machine.specs.internal.Calls.{buffer_in}
use Rattle.sym_machine.proofs.CallEffects.{arguments_found}
use Rattle.sym_machine.proofs.machine.SymMachine.read.Goals as goal

pub returns-then-is_input-clause-answer : goal.returns-then-is_input-clause-answer
returns-then-is_input-clause-answer g c = λ output.
    let m = c.args.self.now in
    let b = c.in-Some.buffer in
    let found : buffer_in (registers_of m) ≡ Some b = sym c.buffer.ensures ∙ c.in-Some.is in
    let open_file : (b.file == 0) ≡ true = sym c.is_input.ensures ∙ c.if-is_input.true in
    answers_by state_of (λ s o. o ≡ reads_input s c.args.next b.address b.size (take (min b.size most_moved) s.input))
    (λ s o. o ≡ calls s c.args.next 63 Read) m c.read_input.new.self
    (λ input o is.
    let s = state_of m input in
    is
    ∙ ap (λ (t : _). if t then reads_input s c.args.next b.address b.size (take (min b.size most_moved) s.input)
    else refuses_file s c.args.next 63 b.file b.address b.size) (sym open_file)
    ∙ sym (arguments_found s (read_call s c.args.next) b found))
    _ _ _ _ (answered c.read_input.result) (c.read_input.ensures.answer output)

pub returns-else-is_input-clause-answer : goal.returns-else-is_input-clause-answer
returns-else-is_input-clause-answer g c = λ output.
    let m = c.args.self.now in
    let b = c.in-Some.buffer in
    let found : buffer_in (registers_of m) ≡ Some b = sym c.buffer.ensures ∙ c.in-Some.is in
    let closed : (b.file == 0) ≡ false = sym c.is_input.ensures ∙ c.if-is_input.false in
    quiet_answers state_of (λ s o. o ≡ calls s c.args.next 63 Read) m c.refuse_file.new.self
    (λ s. refuses_file s c.args.next 63 b.file b.address b.size) (answered c.refuse_file.result) c.args.input_end.now.reached
    (record { input = g.I.Source.seen c.args.input.now; output = output })
    (λ input.
    let s = state_of m input in
    ap (λ (t : _). if t then reads_input s c.args.next b.address b.size (take (min b.size most_moved) s.input)
    else refuses_file s c.args.next 63 b.file b.address b.size) (sym closed)
    ∙ sym (arguments_found s (read_call s c.args.next) b found))
    (λ input. c.refuse_file.ensures.answer input 63 b.file b.address b.size)

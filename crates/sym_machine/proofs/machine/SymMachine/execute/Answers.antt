use Rattle.std.proofs.Common.{◌≡◌, ◌∙◌, sym, ap, subst, ℕ, rules}
use Rattle.std.specs.Prelude.{FitsSigned}
use Rattle.std.specs.Int.{w64}
use Rattle.std.proofs.lemmas.Int.{to_z-of_z}
use Rattle.rv_code.specs.isa.TwosComplement.{unsigned64}
use Rattle.sym_machine.specs.Rules.{place}
use Rattle.sym_machine.specs.SymStep.{effect, stores}
use Rattle.sym_machine.specs.MachineState.{state_of, funcs_of, Becomes}
use Rattle.sym_machine.proofs.machine.SymMachine.execute.Goals as goal

pub returns-in-Store-clause-answer : goal.returns-in-Store-clause-answer
returns-in-Store-clause-answer c = λ input.
    let m = c.args.self.now in
    let s = state_of m input in
    let fits : FitsSigned w64 c.in-Store.imm = search rules in
    let offset : c.cast_unsigned.result ≡ unsigned64 c.in-Store.imm = simp to_z-of_z at c.cast_unsigned.ensures in
    let is : stores s c.args.next c.in-Store.bytes c.register-value.result (place (funcs_of m) c.args.role c.register-base.result
    c.cast_unsigned.result) ≡ effect (funcs_of m) c.args.role c.args.action c.args.next s =
    ap (λ v. stores s c.args.next c.in-Store.bytes v
    (place (funcs_of m) c.args.role c.register-base.result c.cast_unsigned.result)) c.register-value.ensures
    ∙ ap (λ b. stores s c.args.next c.in-Store.bytes (s.registers c.in-Store.rs2)
    (place (funcs_of m) c.args.role b c.cast_unsigned.result)) c.register-base.ensures
    ∙ ap (λ (o : ℕ). stores s c.args.next c.in-Store.bytes (s.registers c.in-Store.rs2)
    (place (funcs_of m) c.args.role (s.registers c.in-Store.rs1) o)) offset
    ∙ ap (λ a. effect (funcs_of m) c.args.role a c.args.next s) (sym c.in-Store.is) in
    subst (λ o. Becomes o c.store.result m c.store.new.self input) is (c.store.ensures.answer input)

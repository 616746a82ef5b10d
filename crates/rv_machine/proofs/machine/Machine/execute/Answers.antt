use Rattle.std.proofs.Common.{◌≡◌, ◌∙◌, sym, ap, rules, ◌/◌, ◌*◌, ◌%◌, ◌^◌, FitsSigned, w64}
use Rattle.std.proofs.lemmas.Int.{to_z-of_z}
use Rattle.rv_code.specs.isa.Op.{apply}
use Rattle.rv_code.specs.isa.TwosComplement.{unsigned64}
use Rattle.rv_code.specs.isa.Extension.{bytes_of}
use Rattle.rv_code.specs.machine.Machine.{plus, all_may, low_bytes, may_read, may_write}
use Rattle.rv_code.specs.machine.Step.{effect, writes_register, loads, stores, operand, address}
use Rattle.rv_machine.specs.State.{state_of}
use Rattle.rv_machine.proofs.Outcomes.{same_outcome}
use Rattle.rv_code.specs.declared.action.Action.TheVariants.{Branch}
use Rattle.rv_code.specs.isa.Op.{holds}
use Rattle.rv_code.specs.machine.Step.{goes_to}
use Rattle.rv_machine.proofs.Branches.{branch_goes}
use Rattle.rv_machine.proofs.machine.Machine.execute.Goals.{then-met-wanted, else-met-wanted}
use Rattle.rv_machine.proofs.machine.Machine.execute.Goals as goal

pub returns-in-Compute : goal.returns-in-Compute
returns-in-Compute c = λ input.
    let s = state_of c.args.self.now input in
    let value : c.apply-value.result ≡ apply c.in-Compute.op (operand s c.in-Compute.left) (operand s c.in-Compute.right) =
    c.apply-value.ensures ∙ ap (λ x. apply c.in-Compute.op x c.operand-in-Compute.result) (c.operand.ensures input)
    ∙ ap (apply c.in-Compute.op (operand s c.in-Compute.left)) (c.operand-in-Compute.ensures input) in
    same_outcome _ _ c.write_register.result c.args.self.now c.write_register.new.self input
    (ap (writes_register s c.args.next c.in-Compute.rd) value ∙ ap (λ a. effect a c.args.next s) (sym c.in-Compute.is))
    (c.write_register.ensures input)

pub returns-in-Jump : goal.returns-in-Jump
returns-in-Jump c = λ input.
    let s = state_of c.args.self.now input in
    let fits : FitsSigned w64 c.in-Jump.imm = search rules in
    let offset : c.cast_unsigned-in-Jump.result ≡ unsigned64 c.in-Jump.imm = simp to_z-of_z at c.cast_unsigned-in-Jump.ensures in
    same_outcome _ _ c.write_register-in-Jump.result c.args.self.now c.write_register-in-Jump.new.self input
    (ap (λ x. writes_register s (plus s.pc x) c.in-Jump.rd c.args.next) offset
    ∙ ap (λ a. effect a c.args.next s) (sym c.in-Jump.is))
    (c.write_register-in-Jump.ensures input)

pub returns-in-JumpTo : goal.returns-in-JumpTo
returns-in-JumpTo c = λ input.
    let s = state_of c.args.self.now input in
    let fits : FitsSigned w64 c.in-JumpTo.imm = search rules in
    let target : c.jump_target-target.result ≡ address s c.in-JumpTo.rs1 (unsigned64 c.in-JumpTo.imm) / 2 * 2 =
    simp to_z-of_z at (c.jump_target-target.ensures input) in
    same_outcome _ _ c.write_register-in-JumpTo.result c.args.self.now c.write_register-in-JumpTo.new.self input
    (ap (λ x. writes_register s x c.in-JumpTo.rd c.args.next) target ∙ ap (λ a. effect a c.args.next s) (sym c.in-JumpTo.is))
    (c.write_register-in-JumpTo.ensures input)

pub returns-in-Upper : goal.returns-in-Upper
returns-in-Upper c = λ input.
    let s = state_of c.args.self.now input in
    let fits : FitsSigned w64 c.in-Upper.imm = search rules in
    let upper : c.cast_unsigned-value.result ≡ unsigned64 c.in-Upper.imm = simp to_z-of_z at c.cast_unsigned-value.ensures in
    same_outcome _ _ c.write_register-in-Upper.result c.args.self.now c.write_register-in-Upper.new.self input
    (ap (λ x. writes_register s c.args.next c.in-Upper.rd (x * 4096 % 2 ^ 64)) upper
    ∙ ap (λ a. effect a c.args.next s) (sym c.in-Upper.is))
    (c.write_register-in-Upper.ensures input)

pub returns-in-UpperPc : goal.returns-in-UpperPc
returns-in-UpperPc c = λ input.
    let s = state_of c.args.self.now input in
    let fits : FitsSigned w64 c.in-UpperPc.imm = search rules in
    let upper : c.cast_unsigned-in-UpperPc.result ≡ unsigned64 c.in-UpperPc.imm =
    simp to_z-of_z at c.cast_unsigned-in-UpperPc.ensures in
    same_outcome _ _ c.write_register-in-UpperPc.result c.args.self.now c.write_register-in-UpperPc.new.self input
    (ap (λ x. writes_register s c.args.next c.in-UpperPc.rd (plus s.pc (x * 4096 % 2 ^ 64))) upper
    ∙ ap (λ a. effect a c.args.next s) (sym c.in-UpperPc.is))
    (c.write_register-in-UpperPc.ensures input)

pub returns-in-Load : goal.returns-in-Load
returns-in-Load c = λ input.
    let s = state_of c.args.self.now input in
    let fits : FitsSigned w64 c.in-Load.imm = search rules in
    let place : c.address-address.result ≡ address s c.in-Load.rs1 (unsigned64 c.in-Load.imm) =
    simp to_z-of_z at (c.address-address.ensures input) in
    same_outcome _ _ c.load_number.result c.args.self.now c.load_number.new.self input
    (ap (λ a. loads s c.args.next c.in-Load.rd c.in-Load.extension a (all_may (may_read s) a (bytes_of c.in-Load.extension)))
    place ∙ ap (λ a. effect a c.args.next s) (sym c.in-Load.is))
    (c.load_number.ensures input)

pub returns-in-Store : goal.returns-in-Store
returns-in-Store c = λ input.
    let s = state_of c.args.self.now input in
    let fits : FitsSigned w64 c.in-Store.imm = search rules in
    let place : c.address-address-in-Store.result ≡ address s c.in-Store.rs1 (unsigned64 c.in-Store.imm) =
    simp to_z-of_z at (c.address-address-in-Store.ensures input) in
    same_outcome _ _ c.store_number.result c.args.self.now c.store_number.new.self input
    (
    ap (λ x. stores s c.args.next c.address-address-in-Store.result (low_bytes c.in-Store.bytes x)
    (all_may (may_write s) c.address-address-in-Store.result c.in-Store.bytes)) c.register-value.ensures
    ∙ ap (λ a. stores s c.args.next a (low_bytes c.in-Store.bytes (s.registers c.in-Store.rs2))
    (all_may (may_write s) a c.in-Store.bytes)) place
    ∙ ap (λ a. effect a c.args.next s) (sym c.in-Store.is)
    )
    (c.store_number.ensures input)

pub returns-after-met-wanted : goal.returns-after-met-wanted
returns-after-met-wanted c = λ input.
    let s = state_of c.args.self.now input in
    let fits : FitsSigned w64 c.in-Branch.imm = search rules in
    let offset : c.cast_unsigned.result ≡ unsigned64 c.in-Branch.imm = simp to_z-of_z at c.cast_unsigned.ensures in
    let met : c.holds-met.result ≡ holds c.in-Branch.test (s.registers c.in-Branch.rs1) (s.registers c.in-Branch.rs2) =
    c.holds-met.ensures ∙ ap (λ a. holds c.in-Branch.test a c.register-in-Branch.result) c.register.ensures
    ∙ ap (holds c.in-Branch.test (s.registers c.in-Branch.rs1)) c.register-in-Branch.ensures in
    let is : goes_to s c.if-met-wanted.go_to
    ≡ effect (Branch c.in-Branch.test c.in-Branch.wanted c.in-Branch.rs1 c.in-Branch.rs2 c.in-Branch.imm) c.args.next s =
    elim c.if-met-wanted.branch [
      | then-met-wanted w ↦ branch_goes s c.in-Branch.test c.in-Branch.wanted c.holds-met.result c.in-Branch.rs1 c.in-Branch.rs2
          c.in-Branch.imm c.args.next c.if-met-wanted.go_to met (λ e. w.go_to-is ∙ ap (plus s.pc) offset)
          (λ e. absurd (let passes = w.if-met-wanted.true in cc))
      | else-met-wanted w ↦
          branch_goes s c.in-Branch.test c.in-Branch.wanted c.holds-met.result c.in-Branch.rs1 c.in-Branch.rs2 c.in-Branch.imm
          c.args.next c.if-met-wanted.go_to met (λ e. absurd (let fails = w.if-met-wanted.false in cc)) (λ e. w.go_to-is)
    ] in
    same_outcome _ _ c.go_to.result c.args.self.now c.go_to.new.self input
    (is ∙ ap (λ a. effect a c.args.next s) (sym c.in-Branch.is)) (c.go_to.ensures input)

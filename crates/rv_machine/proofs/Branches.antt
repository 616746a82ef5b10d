-- The pc after a branch, by its test.
use Rattle.std.proofs.Common.{◌≡◌, ◌∙◌, ap, refl, ℕ, ℤ, Bool, true, false}
use Rattle.std.specs.Prelude.{not}
use mathlib.Core.Bool.{beq}
use Rattle.rv_code.specs.declared.action.Action.TheVariants.{Branch}
use Rattle.rv_code.specs.declared.action.Test.{Test}
use Rattle.rv_code.specs.isa.Op.{holds}
use Rattle.rv_code.specs.isa.TwosComplement.{unsigned64}
use Rattle.rv_code.specs.machine.Machine.{plus}
use Rattle.rv_code.specs.machine.Step.{ByteState, goes_to, branches, effect}

pub branch_goes : (s : ByteState) (test : Test) (wanted met : Bool) (rs1 rs2 : ℕ) (imm : ℤ) (next at : ℕ) →
    met ≡ holds test (s.registers rs1) (s.registers rs2) → (beq met wanted ≡ true → at ≡ plus s.pc (unsigned64 imm)) →
    (beq met wanted ≡ false → at ≡ next) → goes_to s at ≡ effect (Branch test wanted rs1 rs2 imm) next s
branch_goes s test true true rs1 rs2 imm next at is target other =
    ap (goes_to s) (target refl) ∙ ap (branches s next (plus s.pc (unsigned64 imm))) is
branch_goes s test true false rs1 rs2 imm next at is target other =
    ap (goes_to s) (other refl) ∙ ap (branches s next (plus s.pc (unsigned64 imm))) is
branch_goes s test false true rs1 rs2 imm next at is target other =
    ap (goes_to s) (other refl) ∙ ap (λ t. branches s next (plus s.pc (unsigned64 imm)) (not t)) is
branch_goes s test false false rs1 rs2 imm next at is target other =
    ap (goes_to s) (target refl) ∙ ap (λ t. branches s next (plus s.pc (unsigned64 imm)) (not t)) is

-- Instructions that compute the new value of a register.
use Rattle.rv_code.specs.isa.Action.{action_of}
use Rattle.rv_code.specs.declared.inst.Inst.{Inst}
use Rattle.rv_code.specs.declared.action.Operand.TheVariants.{Register}
use Rattle.rv_code.specs.declared.action.Action.{Action}
use Rattle.rv_code.specs.declared.action.Action.TheVariants.{Compute}

abbrev pub Computes : Action → Type 0
Computes (Compute _ _ _ _) = Unit {0}
Computes _ = ⊥

abbrev pub ComputesOfRegisters : Action → Type 0
ComputesOfRegisters (Compute _ _ _ (Register _)) = Unit {0}
ComputesOfRegisters _ = ⊥

abbrev pub IsComputation : Inst → Type 0
IsComputation inst = Computes (action_of inst)

-- The instruction computes a value from registers only.
abbrev pub IsRegisterComputation : Inst → Type 0
IsRegisterComputation inst = ComputesOfRegisters (action_of inst)

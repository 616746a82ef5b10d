-- The last step of a run.
use Rattle.std.proofs.Common.{◌≡◌, refl}
use Rattle.run_core.specs.Answers as answer
use Rattle.sym_machine.specs.MachineState.{answered}
use Rattle.sym_machine.specs.declared.outcome.SymStepped.{SymStepped}
use Rattle.sym_machine.specs.declared.outcome.SymStepped.TheVariants as stepped

pub isnt_going : (end : SymStepped) → (end ≡ stepped.Going → ⊥) → answered end ≡ answer.Going → ⊥
isnt_going stepped.Going other = λ e. other refl
isnt_going (stepped.Ended status) other = λ e. absurd (cc)
isnt_going (stepped.Stuck pc why) other = λ e. absurd (cc)
isnt_going stepped.ReadFault other = λ e. absurd (cc)
isnt_going stepped.WriteFault other = λ e. absurd (cc)
isnt_going stepped.Memory other = λ e. absurd (cc)

-- The last step of a run.
use Rattle.std.proofs.Common.{◌≡◌, refl}
use Rattle.run_core.specs.Answers as answer
use Rattle.rv_machine.specs.declared.stepped.Stepped.{Stepped}
use Rattle.rv_machine.specs.declared.stepped.Stepped.TheVariants as stepped
use Rattle.rv_machine.specs.StepResults.{answered}

pub isnt_going : (end : Stepped) → (end ≡ stepped.Going → ⊥) → answered end ≡ answer.Going → ⊥
isnt_going stepped.Going other = λ e. other refl
isnt_going (stepped.Ended status) other = λ e. absurd (cc)
isnt_going (stepped.Trap pc cause) other = λ e. absurd (cc)
isnt_going stepped.ReadFault other = λ e. absurd (cc)
isnt_going stepped.WriteFault other = λ e. absurd (cc)
isnt_going stepped.Memory other = λ e. absurd (cc)

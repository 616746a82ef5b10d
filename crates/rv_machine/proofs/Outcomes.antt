-- A step with an outcome also has any equal outcome.
use Rattle.std.proofs.Common.{◌≡◌, ℕ, List, subst}
use Rattle.rv_code.specs.machine.Step.{ByteOutcome}
use Rattle.rv_machine.specs.declared.machine.Machine.{Machine}
use Rattle.rv_machine.specs.declared.stepped.Stepped.{Stepped}
use Rattle.rv_machine.specs.StepResults.{Becomes}

pub same_outcome : (o p : ByteOutcome) (answer : Stepped) (old new : Machine) (input : List ℕ) → o ≡ p →
    Becomes o answer old new input → Becomes p answer old new input
same_outcome o p answer old new input same becomes = subst (λ x. Becomes x answer old new input) same becomes

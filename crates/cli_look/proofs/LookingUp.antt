-- The faults for which a file isn't looked up.
use Rattle.std.proofs.Common.{◌≡◌, Bool, false, ℕ, List, IsTrue}
use Rattle.rb_bytes.specs.FirstFault.{IsRefusalBy}
use Rattle.rb_bytes.specs.declared.fault.Refusal.{Refusal}
use Rattle.rb_bytes.specs.declared.fault.Refusal.TheVariants as refusal
use Rattle.elf_image.specs.declared.elf.Elf.{Elf}
use Rattle.program.specs.Refusals.{IsRefusalFor}
use Rattle.cli_look.specs.LookingUp.{CannotLookUp, IsSoundElf, bad_table}
use Rattle.cli_look.specs.Questions.{HasFaultFor}
use Rattle.cli_look.specs.declared.question.Question.{Question}

pub by_tables : (q : Question) (file : List ℕ) (elf : Elf) (r : Refusal) → IsSoundElf file elf →
    IsRefusalBy (HasFaultFor q elf) r → IsRefusalFor (CannotLookUp q file) r
by_tables q file elf (refusal.Fault fault) read why = bad_table elf read why
by_tables q file elf refusal.Memory read why = tt

-- a property that a test detects is false if the test fails
pub denied : (P : Type 0) (answer : Bool) → (P → IsTrue answer) → answer ≡ false → P → ⊥
denied P answer tells fails p = let holds = tells p in absurd (cc)

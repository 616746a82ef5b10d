-- The answers of a file's tables at an address, and the faults for which the file is refused.
use Rattle.std.specs.Prelude.{◌≡◌, ◌<◌, ◌≤◌, ℕ, List, length}
use Rattle.rb_bytes.specs.Fault.{fault_at}
use Rattle.rb_bytes.specs.FirstFault.{IsAnswered, IsFree}
use Rattle.rb_bytes.specs.declared.fault.Fault.{Fault}
use Rattle.rb_bytes.specs.declared.fault.FaultKind.TheVariants.{TooLarge}
use Rattle.rb_bytes.specs.declared.limit.TheConstants.{CODE_BYTES, FILE_BYTES}
use Rattle.elf_image.specs.declared.elf.Elf.{Elf}
use Rattle.elf_image.specs.faults.FileFaults.{IsFirstFault, IsSound}
use Rattle.elf_image.specs.file.ParsedFile.{IsElfOf}
use Rattle.program.specs.Limits.{HasTooMuchCode, file_limit}
use Rattle.cli_look.specs.LookAnswers.{Looking}
use Rattle.cli_look.specs.Questions.{HasFaultFor, answer_text}
use Rattle.cli_look.specs.declared.question.Question.{Question}

-- a file within the size limit in which its reader finds no fault, with its reader's representation
pub record IsSoundElf (file : List ℕ) (elf : Elf) : Type 0 where
  pub fits : length file ≤ file_limit
  pub sound : IsSound file
  pub read : IsElfOf file elf

module _ (question : Question) where
  -- there is no fault, and this is the answer at an address
  pub record IsAnswerAt (address : ℕ) (file text : List ℕ) : Type 0 where
    pub elf : Elf
    pub read : IsSoundElf file elf
    pub tables : IsFree (HasFaultFor question elf)
    pub code_fits : HasTooMuchCode file → ⊥
    pub text_is : text ≡ answer_text question address elf

  -- The order of precedence: the file's length, its faults, faults of its tables, and then the size of its code.
  pub data CannotLookUp (file : List ℕ) (fault : Fault) : Type 0 where
    too_long : file_limit < length file → fault ≡ fault_at TooLarge FILE_BYTES → CannotLookUp file fault
    unsound : length file ≤ file_limit → IsFirstFault file fault → CannotLookUp file fault
    bad_table : (elf : Elf) → IsSoundElf file elf → IsAnswered (HasFaultFor question elf) fault →
        CannotLookUp file fault
    much_code : (elf : Elf) → IsSoundElf file elf → IsFree (HasFaultFor question elf) → HasTooMuchCode file
        → fault ≡ fault_at TooLarge CODE_BYTES → CannotLookUp file fault

-- the texts and the refusals of a command with this question about an address
abbrev pub looking_up : Question → ℕ → Looking
looking_up question address = record { Says = IsAnswerAt question address; Refuses = CannotLookUp question }

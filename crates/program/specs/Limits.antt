-- Limits on files and on their code.
use Rattle.std.specs.Prelude.{◌≡◌, ℕ, ◌*◌, ◌^◌, ◌<◌, List, Some, length, if◌then◌else◌}
use Rattle.std.specs.List.{sum_by}
use Rattle.rb_bytes.specs.Fault.{fault_at}
use Rattle.rb_bytes.specs.declared.fault.Fault.{Fault}
use Rattle.rb_bytes.specs.declared.fault.FaultKind.TheVariants.{TooLarge}
use Rattle.rb_bytes.specs.declared.limit.TheConstants.{CODE_BYTES, FUNCTIONS}
use Rattle.rv_code.specs.declared.placed.Func.{Func}
use Rattle.elf_image.specs.declared.section.SectionHeader.{SectionHeader}
use Rattle.elf_image.specs.faults.LowestPlace.{IsLowest}
use Rattle.elf_image.specs.file.Sections.{section_headers, holds_code}

-- the size limit of a file in bytes: 64 MiB
abbrev pub file_limit : ℕ
file_limit = 64 * 2 ^ 20

-- the size limit of its code in bytes: 16 MiB
abbrev pub code_size_limit : ℕ
code_size_limit = 16 * 2 ^ 20

-- the limit on its number of functions
abbrev pub function_limit : ℕ
function_limit = 200000

-- the size of a section in bytes, if it has code, by its header
abbrev pub header_code_bytes : SectionHeader → ℕ
header_code_bytes section = if holds_code section.flags then section.size else 0

-- the code sections are larger together than the limit
abbrev pub HasTooMuchCode : List ℕ → Type 0
HasTooMuchCode file = code_size_limit < sum_by header_code_bytes (section_headers file)

-- The places at which the code of a file with these functions exceeds a limit.
pub data IsCodeTooLarge (file : List ℕ) (funcs : List Func) (place : ℕ) : Type 0 where
  much_code : place ≡ CODE_BYTES → HasTooMuchCode file → IsCodeTooLarge file funcs place
  many_functions : place ≡ FUNCTIONS → function_limit < length funcs → IsCodeTooLarge file funcs place

-- The fault of the first limit that is exceeded. `Passes` says at which places a limit is exceeded.
pub record IsLimitFault (Passes : ℕ → Type 0) (fault : Fault) : Type 0 where
  pub place : ℕ
  pub first : IsLowest Passes (Some place)
  pub fault_is : fault ≡ fault_at TooLarge place

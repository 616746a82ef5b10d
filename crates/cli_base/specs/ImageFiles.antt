-- Files that are images, for the commands that use only the bytes that a file loads: files in which the reader finds no
-- fault, and whose code is within the size limit.
use Rattle.std.specs.Prelude.{◌≡◌, ℕ, ◌<◌, ◌≤◌, List, length}
use Rattle.rb_bytes.specs.Fault.{fault_at}
use Rattle.rb_bytes.specs.declared.fault.Fault.{Fault}
use Rattle.rb_bytes.specs.declared.fault.FaultKind.TheVariants.{TooLarge}
use Rattle.rb_bytes.specs.declared.limit.TheConstants.{CODE_BYTES, FILE_BYTES}
use Rattle.elf_image.specs.faults.FileFaults.{IsFirstFault, IsSound}
use Rattle.program.specs.Limits.{HasTooMuchCode, file_limit}

pub record IsImageFile (file : List ℕ) : Type 0 where
  pub fits : length file ≤ file_limit
  pub sound : IsSound file
  pub code_fits : HasTooMuchCode file → ⊥

-- Why a file isn't an image. The order of precedence: its length, then its faults, then the size of its code.
pub data IsNoImage (file : List ℕ) (fault : Fault) : Type 0 where
  too_long : file_limit < length file → fault ≡ fault_at TooLarge FILE_BYTES → IsNoImage file fault
  unsound : length file ≤ file_limit → IsFirstFault file fault → IsNoImage file fault
  much_code : length file ≤ file_limit → IsSound file → HasTooMuchCode file → fault ≡ fault_at TooLarge CODE_BYTES
      → IsNoImage file fault

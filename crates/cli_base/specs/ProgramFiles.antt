-- Files that are programs, for the commands that use code but no tables: files that can be read, and whose code is
-- within the limits.
use Rattle.std.specs.Prelude.{◌≡◌, ℕ, ◌<◌, ◌≤◌, List, length}
use Rattle.rb_bytes.specs.Fault.{fault_at}
use Rattle.rb_bytes.specs.declared.fault.Fault.{Fault}
use Rattle.rb_bytes.specs.declared.fault.FaultKind.TheVariants.{TooLarge}
use Rattle.rb_bytes.specs.declared.limit.TheConstants.{FILE_BYTES}
use Rattle.rv_code.specs.declared.placed.Func.{Func}
use Rattle.elf_image.specs.declared.elf.Elf.{Elf}
use Rattle.elf_code.specs.Functions.{AreFunctions}
use Rattle.cfi_rows.specs.Frames.{tabled}
use Rattle.program.specs.Limits.{IsCodeTooLarge, IsLimitFault, file_limit}
use Rattle.program.specs.Program.{IsFaultless, IsProgramOf, Program}
use Rattle.program.specs.Refusals.{IsUnreadable}

pub record IsProgramFile (file : List ℕ) : Type 0 where
  pub elf : Elf
  pub faultless : IsFaultless file elf
  pub funcs : List Func
  pub funcs_are : AreFunctions elf (tabled elf) funcs
  pub within : (place : ℕ) → IsCodeTooLarge file funcs place → ⊥

-- Why a file isn't a program. The order of precedence: its length, then the faults of reading it, then the size of its
-- code.
pub data IsNoProgram (file : List ℕ) (fault : Fault) : Type 0 where
  too_long : file_limit < length file → fault ≡ fault_at TooLarge FILE_BYTES → IsNoProgram file fault
  unreadable : length file ≤ file_limit → IsUnreadable file fault → IsNoProgram file fault
  large_code : (elf : Elf) → IsFaultless file elf → (funcs : List Func) → AreFunctions elf (tabled elf) funcs
      → IsLimitFault (IsCodeTooLarge file funcs) fault → IsNoProgram file fault

-- the program of a file
pub record IsFileProgram (file : List ℕ) (x : Program) : Type 0 where
  pub program : IsProgramOf file x
  pub within : (place : ℕ) → IsCodeTooLarge file x.code.funcs place → ⊥

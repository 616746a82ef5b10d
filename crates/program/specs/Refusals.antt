-- Why a file isn't read as a program. A fault is only reported if the faults of higher precedence are absent.
use Rattle.std.specs.Prelude.{ℕ, List}
use Rattle.rb_bytes.specs.FirstFault.{IsAnswered}
use Rattle.rb_bytes.specs.declared.fault.Fault.{Fault}
use Rattle.rb_bytes.specs.declared.fault.Refusal.{Refusal}
use Rattle.rb_bytes.specs.declared.fault.Refusal.TheVariants as refusal
use Rattle.elf_image.specs.declared.elf.Elf.{Elf}
use Rattle.elf_image.specs.faults.FileFaults.{IsFirstFault}
use Rattle.elf_image.specs.file.ParsedFile.{IsElfOf}
use Rattle.elf_code.specs.CodeFaults.{HasCodeFault}
use Rattle.cfi_rows.specs.Frames.{tabled}
use Rattle.program.specs.Program.{IsPlain}

-- Faults of the file come first, then faults of its code. The file's length is checked before these.
pub data IsUnreadable (file : List ℕ) (fault : Fault) : Type 0 where
  unsound : IsFirstFault file fault → IsUnreadable file fault
  bad_code : IsPlain file → (elf : Elf) → IsElfOf file elf → IsAnswered (HasCodeFault elf (tabled elf)) fault →
      IsUnreadable file fault

-- the refusal is a fault that satisfies P, or memory ran out, which can happen at any time
abbrev pub IsRefusalFor : (Fault → Type 0) → Refusal → Type 0
IsRefusalFor P (refusal.Fault fault) = P fault
IsRefusalFor P refusal.Memory = Unit {0}

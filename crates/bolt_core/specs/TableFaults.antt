-- Faults for which the tables of a file can't be carried to moved code, and their places.
use Rattle.std.specs.Prelude.{ℕ}
use Rattle.rb_bytes.specs.declared.fault.FaultKind.{FaultKind}
use Rattle.rb_bytes.specs.declared.fault.FaultKind.TheVariants as fault
use Rattle.elf_image.specs.declared.elf.Elf.{Elf}
use Rattle.frame_rewrite.specs.Faults.{IsRegisteredFrames}
use Rattle.table_set.specs.TableFaults as tables

-- One is that a program registers its unwind table itself; the others are the faults of tables.
abbrev pub HasCarryingFault : Elf → FaultKind → ℕ → Type 0
HasCarryingFault elf fault.RegisteredFrames place = IsRegisteredFrames elf place
HasCarryingFault elf kind place = tables.HasTableFault elf kind place

-- Faults of a file's code: those of its references and of its functions.
use Rattle.std.specs.Prelude.{◌⊎◌, ℕ, List}
use Rattle.rb_bytes.specs.declared.fault.FaultKind.{FaultKind}
use Rattle.elf_image.specs.declared.elf.Elf.{Elf}
use Rattle.elf_code.specs.FunctionFaults.{HasFunctionFault}
use Rattle.elf_code.specs.ReferenceFaults.{HasReferenceFault}

-- The file has the fault at this place. `tabled` are the ranges with exception tables.
abbrev pub HasCodeFault : Elf → List (ℕ × ℕ) → FaultKind → ℕ → Type 0
HasCodeFault elf tabled kind place = HasReferenceFault elf tabled kind place ⊎ HasFunctionFault elf tabled kind place

-- The address of the table of program headers, from the fields that the reader keeps.
use Rattle.std.proofs.Common.{◌≡◌, ◌+◌, ◌-◌, ◌*◌, ℕ, List, Option, length}
use Rattle.std.specs.Prelude.{find}
use Rattle.std.specs.Option.{option_map_or}
use Rattle.elf_image.specs.declared.segment.Segment.{Segment}
use Rattle.elf_image.specs.declared.segment.TheConstants.{PHDR_SIZE}
use Rattle.elf_image.specs.file.Header.{e_phoff, segments_of}
use Rattle.elf_image.specs.memory.LoadedBytes.{loads_range}
use Rattle.elf_image.specs.memory.Break.{table_address}
use Rattle.elf_image.proofs.ReadLists.{length-segments_of}
use Rattle.std.proofs.Common.{arith}
use Rattle.std.proofs.lemmas.Grind.{common_steps}

pub table_address-is : (file : List ℕ) (phoff : ℕ) (segments : List Segment) (found : Option Segment) → phoff ≡ e_phoff file →
    segments ≡ segments_of file →
    found ≡ find (loads_range (record { start = phoff; size = PHDR_SIZE * length segments })) segments →
    table_address file ≡ option_map_or (λ p. p.vaddr + (phoff - p.offset)) found 0
table_address-is file phoff segments found at are is = grind (arith, common_steps, length-segments_of)

-- The new area of a written file, from its new code and its tables.
use Rattle.std.specs.Prelude.{ℕ, Bool, List, String, Vec, codes, length}
use Rattle.elf_image.specs.declared.elf.Elf.{Elf}
use Rattle.elf_plan.specs.declared.area.Area.{Area}
use Rattle.elf_plan.specs.Area.{area_of}
use Rattle.elf_plan.specs.TableSizes.{table_size}

abbrev pub area_for : {Y Z : Type 0} → Elf → List (String Y × Vec ℕ Z) → List ℕ → Bool → Area
area_for elf tables code tight =
    area_of elf.segments.items tight (length code) (table_size tables (codes ".eh_frame"))
    (table_size tables (codes ".eh_frame_hdr"))

-- A written file contains the bytes of the new area: the new code and the loaded tables after it.
use Rattle.std.specs.Prelude.{List, ℕ, IfSome, String, Vec, codes}
use Rattle.elf_parts.specs.Patches.{Stands}
use Rattle.elf_plan.specs.declared.area.Area.{Area}
use Rattle.elf_plan.specs.Area.{area_offset}
use Rattle.elf_plan.specs.NewSections.{bytes_called}

-- A file contains the whole area.
pub record AreaStands {Y Z : Type 0} (area : Area) (tables : List (String Y × Vec ℕ Z)) (code w : List ℕ) : Type 0 where
  pub text : Stands w (area_offset area area.start) code
  pub frames : IfSome area.frames (λ a. Stands w (area_offset area a) (bytes_called tables (codes ".eh_frame")))
  pub index : IfSome area.index (λ a. Stands w (area_offset area a) (bytes_called tables (codes ".eh_frame_hdr")))

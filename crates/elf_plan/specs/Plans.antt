-- The plan of a written file, before it is made.
use Rattle.std.specs.Prelude.{◌≡◌, ℕ, Bool, List, Some, String, Vec}
use Rattle.elf_image.specs.declared.elf.Elf.{Elf}
use Rattle.elf_image.specs.declared.segment.Segment.{Segment}
use Rattle.elf_image.specs.memory.CodeSegment.{executable_segment}
use Rattle.rv_code.specs.layout.Lists.{ListsPairs}
use Rattle.elf_plan.specs.declared.area.Area.{Area}
use Rattle.elf_plan.specs.declared.area.Shift.{Shift}
use Rattle.elf_plan.specs.declared.plan.Plan.{Plan}
use Rattle.elf_plan.specs.declared.sections.Contents.{Contents}
use Rattle.elf_plan.specs.Area.{shift_of}
use Rattle.elf_plan.specs.Contents.{contents_of}
use Rattle.elf_plan.specs.FileLayout.{PassesAt, is_written}
use Rattle.elf_plan.specs.Homes.{AreContents}
use Rattle.elf_plan.specs.KnownSections.{IsOwnOf}
use Rattle.elf_plan.specs.NewAreas.{area_for}

-- The positions of the contents of all sections, and the sections whose contents are written, in the order of their
-- offsets.
pub record Arranges {Y Z : Type 0} (elf : Elf) (tables : List (String Y × Vec ℕ Z)) (area : Area) (shift : Shift)
    (contents : List Contents) (order : List (ℕ × ℕ)) : Type 0 where
  pub contents_are : AreContents (contents_of elf tables area shift) elf.sections.items contents
  pub order_is : ListsPairs (PassesAt elf.sections.items (λ i s. is_written (contents_of elf tables area shift i s)))
      order

-- The plan for a file with the new code `code` and these tables. `tight` says whether the area has its own segment.
pub record IsPlanOf {Y Z : Type 0} (elf : Elf) (tables : List (String Y × Vec ℕ Z)) (code : List ℕ) (tight : Bool)
    (plan : Plan) : Type 0 where
  pub executable : Segment
  pub found : executable_segment elf.segments.items ≡ Some (plan.code, executable)
  pub area : plan.area ≡ area_for elf tables code tight
  pub shift : plan.shift ≡ shift_of elf.segments.items plan.area
  pub own : IsOwnOf elf plan.own
  pub arranged : Arranges elf tables plan.area plan.shift plan.contents.items plan.order.items

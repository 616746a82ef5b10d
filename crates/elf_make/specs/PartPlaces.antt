-- How the parts of a written file are beside the new area.
use Rattle.std.specs.Prelude.{◌≡◌, ℕ, ◌+◌, ◌≤◌, List, Option, Some, None}
use Rattle.elf_image.specs.declared.segment.Segment.{Segment}
use Rattle.elf_parts.specs.declared.parts.Parts.{Parts}
use Rattle.elf_plan.specs.declared.area.Area.{Area}
use Rattle.elf_plan.specs.declared.area.Shift.{Shift}
use Rattle.elf_plan.specs.Area.{loads_end, lowest_behind, area_offset}

-- the area in a segment of its own, after all bytes that the file loads
pub record IsAbove (segments : List Segment) (area : Area) (parts : Parts) : Type 0 where
  pub keeps : loads_end segments ≤ parts.keep
  pub place : parts.area_at ≡ area_offset area area.start
  pub end : parts.behind_at ≡ area_offset area area.end
  pub low : parts.low ≡ 0
  pub high : parts.high ≡ 0

-- the area after the executable segment: what is loaded there moves, if there is anything
abbrev pub MovesFrom : Option ℕ → List Segment → Area → Shift → Parts → Type 0
MovesFrom None segments area shift parts = (parts.low ≡ 0) × (parts.high ≡ 0)
    × (parts.behind_at ≡ area_offset area area.end)
MovesFrom (Some low) segments area shift parts =
    (parts.low ≡ low) × (parts.high ≡ loads_end segments) × (parts.behind_at ≡ low + shift.by)

pub record IsBehind (segments : List Segment) (area : Area) (shift : Shift) (parts : Parts) : Type 0 where
  pub keeps : parts.keep ≡ shift.from
  pub place : parts.area_at ≡ area_offset area area.start
  pub moves : MovesFrom (lowest_behind shift.from segments) segments area shift parts

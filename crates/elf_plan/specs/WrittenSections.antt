-- The sections whose contents are written after the loaded bytes, from the known facts on a file's sections.
use Rattle.std.specs.Prelude.{ℕ, if◌then◌else◌, Bool, List, Option, Some, None, position}
use Rattle.elf_image.specs.declared.section.Section.{Section}
use Rattle.elf_image.specs.declared.segment.Segment.{Segment}
use Rattle.elf_plan.specs.declared.area.Area.{Area}
use Rattle.elf_plan.specs.declared.area.Shift.{Shift}
use Rattle.elf_plan.specs.declared.sections.Sections.{Sections}
use Rattle.elf_plan.specs.Contents.{contents_by, is_at, own_contents}
use Rattle.elf_plan.specs.FileLayout.{is_written}

-- The contents of the section `s` with index `index` are written.
abbrev pub is_written_by : Sections → List Segment → Area → Shift → ℕ → Section → Bool
is_written_by known segments area shift index s =
    is_written (contents_by known.own.section_names known.own.symbols known.own.symbol_names
    (position (is_at index) known.replaced.now) (own_contents segments area shift s) index s)

-- The offset of the section with index `index`, if it exists and passes `test`.
abbrev pub offset_if : (ℕ → Section → Bool) → ℕ → Option Section → Option ℕ
offset_if test index None = None
offset_if test index (Some s) = if test index s then Some s.offset else None

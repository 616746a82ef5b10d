-- The new program headers, from the values that they depend on.
use Rattle.std.specs.Prelude.{◌≡◌, ℕ, List, Some, slice_get}
use Rattle.elf_image.specs.declared.section.Section.{Section}
use Rattle.elf_image.specs.declared.segment.Segment.{Segment}
use Rattle.elf_plan.specs.declared.sections.Contents.{Contents}
use Rattle.elf_plan.specs.declared.segments.Places.{Places}
use Rattle.elf_plan.specs.HeaderPlaces.{IsNewHeader, Outline}
use Rattle.elf_plan.specs.Homes.{AreContents}
use Rattle.elf_plan.specs.NewSegments.{AreNewHeaders, grows_at}

abbrev pub outline : Places → Outline
outline places = record {
  area = places.area;
  shift = places.shift;
  table_at = places.table_at;
  index_size = places.index_size;
  file_size = places.file_size;
}

-- The new form of each header of the input.
abbrev pub AreNewEach : Places → ℕ → List Segment → Type 0
AreNewEach places code qs = (contents : ℕ → Section → Contents) →
    AreContents contents places.elf.now.sections.items places.contents.now →
    (i : ℕ) (p q : Segment) → slice_get places.elf.now.segments.items i ≡ Some p → slice_get qs i ≡ Some q →
    IsNewHeader contents places.elf.now.segments.items places.elf.now.sections.items places.sections_at.now
    (outline places)
    (grows_at places.area.tight code i) p q

-- All headers. `code` is the index of the executable segment's header.
pub record AreMade (places : Places) (code : ℕ) (qs : List Segment) : Type 0 where
  pub headers : AreNewHeaders places.shift.from places.shift.by places.area code places.elf.now.segments.items qs
  pub each : AreNewEach places code headers.renewed

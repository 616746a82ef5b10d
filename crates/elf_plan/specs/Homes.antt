-- Results of the search for the sections that contain the bytes of program headers.
use Rattle.std.specs.Prelude.{◌≡◌, ℕ, ◌+◌, ◌&&◌, not, nat_lt, if◌then◌else◌, List, Option, Some, None, find, length}
use Rattle.std.specs.Prelude.{option_map, slice_get, unwrap_or}
use Rattle.std.specs.List.{list_any}
use Rattle.elf_image.specs.declared.section.Section.{Section}
use Rattle.elf_image.specs.declared.extent.Extent.{Extent}
use Rattle.elf_image.specs.declared.segment.Segment.{Segment}
use Rattle.elf_image.specs.memory.Image.{is_load}
use Rattle.elf_plan.specs.declared.sections.Contents.{Contents}
use Rattle.elf_plan.specs.declared.sections.Contents.TheVariants.{Dropped}
use Rattle.elf_plan.specs.HeaderPlaces.{IsHome, can_hold}
use Rattle.elf_plan.specs.LoadedRanges.{meets}
use Rattle.elf_plan.specs.RangeTree.{covers}

-- The range of a section. It is empty if no header's bytes can move with the section.
abbrev pub extent_of : ℕ → Contents → Section → Extent
extent_of i contents s =
    if can_hold contents s
    then record { start = s.offset; end = s.offset + s.size; place = i }
    else record { start = 0; end = 0; place = i }

-- The ranges of all sections.
pub record AreExtents (sections : List Section) (contents : List Contents) (extents : List Extent) : Type 0 where
  pub count : length extents ≡ length sections
  pub each : (i : ℕ) (s : Section) (e : Extent) → slice_get sections i ≡ Some s → slice_get extents i ≡ Some e →
      e ≡ extent_of i (unwrap_or (slice_get contents i) Dropped) s

-- The index of the first section whose range contains the bytes of the header `p`, if `loaded` has none of them.
abbrev pub first_for : List Extent → List Extent → Segment → Option ℕ
first_for loaded extents p =
    if not (is_load p) && (nat_lt 0 p.filesz && not (list_any (meets p.offset (p.offset + p.filesz)) loaded))
    then option_map (λ e. e.place) (find (covers p.offset (p.offset + p.filesz)) extents)
    else None

-- `found` has the positions of the contents of all sections, as `contents` gives them by index.
pub record AreContents (contents : ℕ → Section → Contents) (sections : List Section)
    (found : List Contents) : Type 0 where
  pub count : length found ≡ length sections
  pub each : (i : ℕ) (s : Section) (c : Contents) → slice_get sections i ≡ Some s → slice_get found i ≡ Some c →
      c ≡ contents i s

-- The sections that the bytes of each header move with.
pub record AreHomes (segments : List Segment) (sections : List Section) (found : List Contents)
    (homes : List (Option ℕ)) :
    Type 0 where
  pub count : length homes ≡ length segments
  pub each : (contents : ℕ → Section → Contents) → AreContents contents sections found → (i : ℕ) (p : Segment)
      (home : Option ℕ) → slice_get segments i ≡ Some p → slice_get homes i ≡ Some home →
      IsHome contents segments sections p home

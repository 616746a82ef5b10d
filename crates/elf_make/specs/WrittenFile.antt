-- The written file.
use Rattle.std.specs.Prelude.{◌≡◌, ◌⊎◌, ℕ, ◌+◌, ◌^◌, ◌<◌, ◌≤◌, Bool, false, List, Some, All, IfSome, IsSome, length}
use Rattle.elf_image.specs.declared.elf.Elf.{Elf}
use Rattle.elf_image.specs.faults.FileFaults.{IsSound}
use Rattle.elf_image.specs.file.Header.{e_entry, segments_of}
use Rattle.elf_image.specs.memory.CodeSegment.{executable_segment}
use Rattle.elf_image.specs.memory.LoadedBytes.{address_of, file_offset, IsInHeaders}
use Rattle.rv_code.specs.machine.MemoryNumbers.{number_in}
use Rattle.elf_image.specs.memory.Break.{table_address, break_start, break_bound}
use Rattle.addr_map.specs.Spans.{moved}
use Rattle.elf_image.specs.memory.Executables.{AreCodeBytes, executable_of, memory_of}
use Rattle.elf_image.specs.memory.HiddenFields.{e_entry_field}
use Rattle.elf_plan.specs.Area.{shift_of}
use Rattle.elf_make.specs.CarriedBytes.{CarriesImage, HoldsBytes}
use Rattle.elf_make.specs.FrontBytes.{KeepsBehind, KeepsFront}
use Rattle.elf_plan.specs.NewSegments.{AreNewHeaders}
use Rattle.elf_make.specs.Source.{Source, is_changed, source_area}

-- Code cells are fields that the file loads, of which none shares a byte with another or with the file's headers.
pub record CanHold (elf : Elf) (cell : ℕ × ℕ × ℕ) : Type 0 where
  pub width : (cell.1 ≡ 4) ⊎ (cell.1 ≡ 8)
  pub fits : cell.2 < 256 ^ cell.1
  pub from_file : (i : ℕ) → i < cell.1 → IsSome (file_offset elf.segments.items (cell.0 + i))
  pub no_header : (i : ℕ) → i < cell.1 →
      IfSome (file_offset elf.segments.items (cell.0 + i)) (λ offset. IsInHeaders elf offset → ⊥)

-- two cells without a byte in common
abbrev pub AreApart : ℕ × ℕ × ℕ → ℕ × ℕ × ℕ → Type 0
AreApart c d = (c.0 + c.1 ≤ d.0) ⊎ (d.0 + d.1 ≤ c.0)

-- What a program finds of the layout of its file. Where a file is tight, its table of program headers moves.
pub record KeepsPlaces (elf : Elf) (tight : Bool) (w : List ℕ) : Type 0 where
  pub table : tight ≡ false → table_address elf.file.now ≡ table_address w
  pub count : tight ≡ false → length elf.segments.items ≡ length (segments_of w)
  pub break_start_is : break_start elf.segments.items ≡ break_start (segments_of w)
  pub break_bound_is : break_bound elf.segments.items ≡ break_bound (segments_of w)

-- The program headers follow those of the input, with one more where a file is tight.
abbrev pub FollowsHeaders : Source → Bool → List ℕ → Type 0
FollowsHeaders s tight w =
    let segments = s.elf.segments.items in
    let area = source_area s tight in
    let shift = shift_of segments area in
    IfSome (executable_segment segments) (λ e. AreNewHeaders shift.from shift.by area e.0 segments (segments_of w))

pub record IsWritten (s : Source) (tight : Bool) (w : List ℕ) : Type 0 where
  -- each byte that the input loads is loaded with the same rights, and is the same unless it may change
  pub image : CarriesImage s.elf.file.now w (is_changed s tight) s.elf.segments.items (segments_of w)
  -- up to where no byte moves, bytes that no segment loads are as they were, and those of a table that is replaced
  pub front : KeepsFront s.elf tight w
  -- and after that, bytes that a segment names and doesn't load have moved with it
  pub behind : KeepsBehind s.elf (source_area s tight) w
  -- the new code is there, and may be executed and not written
  pub code : HoldsBytes w (segments_of w) (source_area s tight).start s.code
  pub executable : AreCodeBytes (executable_of w) (source_area s tight).start (length s.code)
  -- each code cell holds its content
  pub cells : All (λ cell. number_in (memory_of (executable_of w)) cell.0 cell.1 ≡ Some cell.2) s.cells
  -- the entry point is where the input's went, and the field that says so too, if it is loaded
  pub entry : moved s.spans s.elf.entry ≡ Some (e_entry w)
  pub entry_field : IfSome (address_of s.elf e_entry_field)
      (λ a. number_in (memory_of (executable_of w)) a 8 ≡ Some (e_entry w))
  pub places : KeepsPlaces s.elf tight w
  pub headers : FollowsHeaders s tight w
  -- no fault of the reader's is present
  pub sound : IsSound w

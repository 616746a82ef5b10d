-- Code cells as numbers that are put over the bytes of a file.
use Rattle.std.specs.Prelude.{◌≡◌, ℕ, zero, suc, ◌+◌, ◌-◌, ◌/◌, ◌%◌, ◌<◌, ◌≤◌, nat_le, if◌then◌else◌, Bool, false, List}
use Rattle.std.specs.Prelude.{[], ◌∷◌, flat_map, length, min, IsSomeAnd, slice_index_or}
use Rattle.std.specs.Option.{option_map_or}
use Rattle.elf_image.specs.declared.elf.Elf.{Elf}
use Rattle.elf_image.specs.declared.segment.Segment.{Segment}
use Rattle.elf_image.specs.memory.Image.{segment_of}
use Rattle.elf_parts.specs.declared.number_at.NumberAt.{NumberAt}
use Rattle.elf_plan.specs.declared.area.Shift.{Shift}
use Rattle.elf_plan.specs.Area.{moved_by}
use Rattle.elf_make.specs.Source.{Source}

-- Pieces of cells.

-- one segment loads all bytes of a cell from the file
abbrev pub is_whole : List Segment → ℕ × ℕ × ℕ → Bool
is_whole segments cell =
    option_map_or (λ p. nat_le ((cell.0 - p.vaddr) + cell.1) (min p.filesz p.memsz)) (segment_of segments cell.0) false

-- the bytes of the number `value` at `address`, the lowest first, each as a cell of its own
unfoldable pub byte_cells : ℕ → ℕ → ℕ → List (ℕ × ℕ × ℕ)
byte_cells address zero value = []
byte_cells address (suc n) value = (address, 1, value % 256) ∷ byte_cells (address + 1) n (value / 256)

-- A cell that is in more than one segment is written byte by byte, since its bytes needn't be together in the file.
abbrev pub pieces_of : List Segment → ℕ × ℕ × ℕ → List (ℕ × ℕ × ℕ)
pieces_of segments cell = if is_whole segments cell then cell ∷ [] else byte_cells cell.0 cell.1 cell.2

abbrev pub pieces : List Segment → List (ℕ × ℕ × ℕ) → List (ℕ × ℕ × ℕ)
pieces segments cells = flat_map (pieces_of segments) cells

-- what a file is written of, with its cells in pieces
abbrev pub in_pieces : Source → Source
in_pieces s = record s { cells = pieces s.elf.segments.items s.cells }

-- Their numbers.

-- One segment loads all bytes of a cell from the file, and the number is at the place of the first of them.
pub record CellStandsIn (shift : Shift) (cell : ℕ × ℕ × ℕ) (number : NumberAt) (p : Segment) : Type 0 where
  pub inside : (cell.0 - p.vaddr) + cell.1 ≤ min p.filesz p.memsz
  pub offset : number.offset ≡ moved_by shift.from shift.by (p.offset + (cell.0 - p.vaddr))

pub record IsCellNumber (elf : Elf) (shift : Shift) (cell : ℕ × ℕ × ℕ) (number : NumberAt) : Type 0 where
  pub place : IsSomeAnd (segment_of elf.segments.items cell.0) (CellStandsIn shift cell number)
  pub width : number.width ≡ cell.1
  pub value : number.value ≡ cell.2

pub record AreCellNumbers (elf : Elf) (shift : Shift) (cells : List (ℕ × ℕ × ℕ))
    (numbers : List NumberAt) : Type 0 where
  pub count : length numbers ≡ length cells
  pub each : (i : ℕ) (c : ℕ × ℕ × ℕ) (n : NumberAt) → i < length cells →
      IsCellNumber elf shift (slice_index_or cells i c) (slice_index_or numbers i n)

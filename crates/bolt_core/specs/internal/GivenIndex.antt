-- The index of a written unwind table, and the list of tables for the written file.
use Rattle.std.specs.Prelude.{◌≡◌, ◌+◌, ◌*◌, ◌≤◌, ℕ, All, false, List, Option, Some, None, IfSome, is_some, length, map}
use Rattle.std.specs.Prelude.{if◌then◌else◌}
use Rattle.rv_code.specs.layout.FunctionLists.{address_end}
use Rattle.elf_image.specs.declared.elf.Elf.{Elf}
use Rattle.elf_image.specs.memory.Break.{rounded_up}
use Rattle.cfi_rows.specs.Entries.{frames}
use Rattle.frame_rewrite.specs.Index.{IsIndexOf, has_frames, has_index}
use Rattle.bolt_core.specs.GivenTables.{DebugContents, ReadTable, listed, ranges_given, table_seen}

-- the address of the table, in an area that starts at `start` with `code` bytes of code
abbrev pub frames_at : ℕ → ℕ → ℕ
frames_at start code = rounded_up 8 (start + code)

abbrev pub index_at : ℕ → ℕ → List ℕ → ℕ
index_at start code eh = rounded_up 4 (frames_at start code + length eh)

-- The table can be read at its address, and its addresses fit the index.
pub record CanIndex (start code : ℕ) (eh : List ℕ) : Type 0 where
  pub sound : (frames false (frames_at start code) eh).bad ≡ None
  pub starts : All (λ f. f.start ≤ address_end) (frames false (frames_at start code) eh).list
  pub low : index_at start code eh ≤ address_end

pub record IsIndexFor (start code : ℕ) (eh index : List ℕ) : Type 0 where
  pub is : IsIndexOf (frames_at start code) (index_at start code eh) (frames false (frames_at start code) eh).list index
  pub size : length index ≡ 12 + 8 * length (frames false (frames_at start code) eh).list

-- the list of a file's tables, by the new contents of the unwind table, of the table of ranges, and of the other debug
-- tables
pub record AreListed (elf : Elf) (start code : ℕ) (eh ranges : List ℕ) (debug : DebugContents)
    (tables : List ReadTable) :
    Type 0 where
  pub index : Option (List ℕ)
  pub are : map table_seen tables
      ≡ listed (if has_frames elf then Some eh else None) index (ranges_given elf ranges) debug
  pub there : is_some index ≡ has_index elf
  pub index_is : IfSome index (IsIndexFor start code eh)

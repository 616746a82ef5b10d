-- The rewritten tables, by the names of their sections.
use Rattle.std.specs.Prelude.{◌≡◌, ◌==◌, ◌++◌, ◌||◌, ℕ, not, List, [], ◌∷◌, Option, Some, None, is_some, String, Vec}
use Rattle.std.specs.Prelude.{string_bytes, codes, if◌then◌else◌, length, map}
use Rattle.std.specs.declared.alloc.Global.{Global}
use Rattle.elf_image.specs.declared.elf.Elf.{Elf}
use Rattle.elf_image.specs.file.SectionNames.{section_called}
use Rattle.table_core.specs.Sections.{bytes_of}
use Rattle.dw_unit.specs.Tables.{sections_of}
use Rattle.range_loc_rewrite.specs.ListTables.{AreWithoutHighAddresses}
use Rattle.frame_rewrite.specs.Index.{has_frames, has_index}

-- a table, in the terms of the code
abbrev pub ReadTable : Type 0
ReadTable = String Global × Vec ℕ Global

-- a table by its name and its contents
abbrev pub table_seen : ReadTable → List ℕ × List ℕ
table_seen t = (string_bytes t.0, t.1.items)

abbrev pub table_if : List ℕ → Option (List ℕ) → List (List ℕ × List ℕ)
table_if name None = []
table_if name (Some bytes) = (name, bytes) ∷ []

-- the contents of debug tables, without the table of ranges
pub record DebugContents : Type 0 where
  pub info : List ℕ
  pub abbrevs : List ℕ
  pub addr : List ℕ
  pub lines : List ℕ
  pub locations : List ℕ
  pub aranges : List ℕ
  pub frames : List ℕ

abbrev pub debug_listed : DebugContents → List (List ℕ × List ℕ)
debug_listed d =
    (codes ".debug_info", d.info) ∷ (codes ".debug_abbrev", d.abbrevs) ∷ (codes ".debug_addr", d.addr)
    ∷ (codes ".debug_line", d.lines) ∷ (codes ".debug_loclists", d.locations) ∷ (codes ".debug_aranges", d.aranges)
    ∷ (codes ".debug_frame", d.frames) ∷ []

-- The table of ranges, if the file has one or if ranges are written: entries with a low and a high address get ranges.
abbrev pub ranges_given : Elf → List ℕ → Option (List ℕ)
ranges_given elf bytes =
    if is_some (section_called elf.sections.items (codes ".debug_rnglists"))
    || not (length bytes == 0) then Some bytes else None

-- Debug tables are always listed. One without a section of its name is empty, and isn't written.
abbrev pub listed : Option (List ℕ) → Option (List ℕ) → Option (List ℕ) → DebugContents → List (List ℕ × List ℕ)
listed frames index ranges debug =
    (table_if (codes ".eh_frame") frames ++ table_if (codes ".eh_frame_hdr") index)
    ++ (debug_listed debug ++ table_if (codes ".debug_rnglists") ranges)

pub record AreGivenFor (elf : Elf) (tables : List ReadTable) : Type 0 where
  pub frames : Option (List ℕ)
  pub index : Option (List ℕ)
  pub ranges : List ℕ
  -- if the file has no table of ranges, ranges are written only for entries with a high address
  pub no_ranges : bytes_of elf (codes ".debug_rnglists") ≡ [] → AreWithoutHighAddresses (sections_of elf) → ranges ≡ []
  pub debug : DebugContents
  pub are : map table_seen tables ≡ listed frames index (ranges_given elf ranges) debug
  pub frames_there : is_some frames ≡ has_frames elf
  pub index_there : is_some index ≡ has_index elf

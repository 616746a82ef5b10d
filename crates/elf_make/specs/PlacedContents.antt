-- The contents of sections that are written one after another, and their headers. gABI, "Section Header".
use Rattle.std.specs.Prelude.{◌≡◌, ℕ, ◌+◌, ◌-◌, ◌<◌, max, min, List, [], length, take, fold, slice_get, slice_index_or}
use Rattle.std.specs.Option.{option_map_or}
use Rattle.elf_image.specs.declared.elf.Elf.{Elf}
use Rattle.elf_image.specs.declared.section.Section.{Section}
use Rattle.elf_image.specs.declared.section.SectionHeader.{SectionHeader}
use Rattle.elf_image.specs.memory.Break.{rounded_up}
use Rattle.elf_parts.specs.Patches.{Stands}
use Rattle.elf_plan.specs.declared.sections.Contents.{Contents}
use Rattle.elf_plan.specs.declared.sections.Contents.TheVariants.{Dropped, Inactive, Kept, Copied, SectionNames}
use Rattle.elf_plan.specs.declared.sections.Contents.TheVariants.{Symbols, SymbolNames, Given}
use Rattle.elf_plan.specs.Contents.{section_bytes}
use Rattle.elf_plan.specs.Area.{moved_by}
use Rattle.elf_plan.specs.NewSections.{flags_left, given_bytes, kind_of_given, kind_of_own, without_code}
use Rattle.elf_plan.specs.declared.area.Shift.{Shift}
use Rattle.elf_plan.specs.declared.section_bytes.TheConstants.{SHT_NULL}
use Rattle.elf_make.specs.declared.headers.NewContents.{NewContents}

-- The bytes that are written for a section; none if its contents aren't written.
abbrev pub written_bytes : NewContents → List ℕ → Contents → Section → List ℕ
written_bytes new file Dropped s = []
written_bytes new file Inactive s = []
written_bytes new file Kept s = []
written_bytes new file Copied s = section_bytes file s
written_bytes new file SectionNames s = new.section_names.now
written_bytes new file Symbols s = new.symbols.now
written_bytes new file SymbolNames s = new.symbol_names.now
written_bytes new file (Given t) s = given_bytes new.tables.now t

-- those of the section at an index, if `contents` says where the contents of all sections are; past the input's
-- sections they are the added table of ranges
abbrev pub bytes_at : NewContents → Elf → List Contents → ℕ → List ℕ
bytes_at new elf contents i =
    option_map_or (λ s. option_map_or (λ c. written_bytes new elf.file.now c s) (slice_get contents i) [])
    (slice_get elf.sections.items i) new.ranges.now

-- A header got the place and the size of its contents `bytes`: the least multiple of its alignment at or after `end`.
-- There they are in `tail`, which begins at the offset `base`.
pub record IsPlaced (base end : ℕ) (bytes tail : List ℕ) (s n : SectionHeader) : Type 0 where
  pub offset : n.offset ≡ rounded_up (max 1 s.align) end
  pub size : n.size ≡ length bytes
  pub same : n ≡ record s { offset = n.offset; size = n.size }
  pub stands : Stands tail (n.offset - base) bytes

-- where the contents of an index end that are after `end`, and those of many
abbrev pub end_behind : (ℕ → List ℕ) → List SectionHeader → SectionHeader → ℕ → ℕ → ℕ
end_behind bytes headers d end i = rounded_up (max 1 (slice_index_or headers i d).align) end + length (bytes i)

abbrev pub ends_behind : (ℕ → List ℕ) → List SectionHeader → SectionHeader → ℕ → List ℕ → ℕ
ends_behind bytes headers d end indices = fold (end_behind bytes headers d) end indices

-- The contents `bytes` of the sections `indices` are one after another, from `start` on, and their headers say so; no
-- other header was changed.
pub record ArePlaced (bytes : ℕ → List ℕ) (indices : List ℕ) (base start : ℕ) (tail : List ℕ)
    (old new : List SectionHeader) : Type 0 where
  pub count : length new ≡ length old
  pub others : (k : ℕ) (d : SectionHeader) → ((j : ℕ) → j < length indices → slice_index_or indices j k ≡ k → ⊥) →
      slice_index_or new k d ≡ slice_index_or old k d
  pub placed : (j : ℕ) (d : SectionHeader) → j < length indices →
      IsPlaced base (ends_behind bytes old d start (take j indices)) (bytes (slice_index_or indices j 0)) tail
      (slice_index_or old (slice_index_or indices j 0) d) (slice_index_or new (slice_index_or indices j 0) d)
  pub end : (d : SectionHeader) → base + length tail ≡ ends_behind bytes old d start indices

-- A header as it is before its contents are placed, by where these are.
abbrev pub set_header : Shift → Contents → Section → SectionHeader → SectionHeader
set_header shift Dropped s h = record {
  name = h.name;
  kind = SHT_NULL;
  flags = flags_left s;
  addr = 0;
  offset = 0;
  size = 0;
  link = 0;
  info = 0;
  align = 0;
  entsize = 0;
}
set_header shift Inactive s h = h
set_header shift Kept s h = record h { offset = min (moved_by shift.from shift.by h.offset) 18446744073709551615 }
set_header shift Copied s h = h
set_header shift SectionNames s h = record h { flags = without_code h.flags; kind = kind_of_own h.kind }
set_header shift Symbols s h = record h { flags = without_code h.flags; kind = kind_of_own h.kind }
set_header shift SymbolNames s h = record h { flags = without_code h.flags; kind = kind_of_own h.kind }
set_header shift (Given t) s h = record h { kind = kind_of_given h.kind }

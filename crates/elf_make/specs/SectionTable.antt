-- The table of section headers, which ends a written file. gABI, "Section Header".
use Rattle.std.specs.Prelude.{◌≡◌, ℕ, ◌+◌, ◌-◌, ◌*◌, ◌^◌, ◌<◌, ◌≤◌, ◌++◌, min, List, All, String, Vec}
use Rattle.std.specs.Prelude.{codes, length, map, slice_index_or}
use Rattle.addr_map.specs.declared.span.Span.{Span}
use Rattle.rv_code.specs.declared.placed.Func.{Func}
use Rattle.elf_image.specs.declared.elf.Elf.{Elf}
use Rattle.elf_image.specs.declared.section.SectionHeader.{SectionHeader}
use Rattle.elf_image.specs.declared.section.TheConstants.{SHDR_SIZE}
use Rattle.elf_image.specs.memory.Break.{rounded_up}
use Rattle.elf_parts.specs.Patches.{Stands}
use Rattle.elf_parts.specs.Spellings.{SectionFits, section_table}
use Rattle.elf_plan.specs.declared.area.Area.{Area}
use Rattle.elf_plan.specs.declared.area.Shift.{Shift}
use Rattle.elf_plan.specs.declared.sections.Contents.{Contents}
use Rattle.elf_plan.specs.FileLayout.{added_ranges}
use Rattle.elf_plan.specs.NewSections.{adds_ranges, bytes_called, given_bytes}
use Rattle.elf_make.specs.declared.headers.NewContents.{NewContents}
use Rattle.elf_make.specs.MadeNames.{HasNames}
use Rattle.elf_make.specs.PlacedContents.{ArePlaced, bytes_at}
use Rattle.elf_make.specs.SetHeaders.{AreSet}
use Rattle.elf_make.specs.SymbolTable.{HasSymbols}

-- a header whose offset doesn't pass the end of the file
abbrev pub capped : ℕ → SectionHeader → SectionHeader
capped end h = record h { offset = min h.offset end }

abbrev pub AreCapped : ℕ → List SectionHeader → List SectionHeader → Type 0
AreCapped end old new =
    (k : ℕ) (d : SectionHeader) → k < length old → slice_index_or new k d ≡ capped end (slice_index_or old k d)

-- The table of `headers` is at the offset `at`, the least multiple of 8 at or after `end`. The file ends with it, and
-- `tail` has the bytes of the file from the offset `base` on.
pub record EndsWith (base end : ℕ) (tail : List ℕ) (at : ℕ) (headers : List SectionHeader) : Type 0 where
  pub place : at ≡ rounded_up 8 end
  pub behind : base ≤ at
  pub fits : All SectionFits headers
  pub stands : Stands tail (at - base) (section_table headers)
  pub size : base + length tail ≡ at + SHDR_SIZE * length headers
  pub small : base + length tail < 2 ^ 64

-- The contents of sections are in the tail of a file from the offset `start` on, and the table of their headers, at
-- `at`, ends the file.
pub record ArePut {Y Z : Type 0} (elf : Elf) (tables : List (String Y × Vec ℕ Z)) (area : Area) (shift : Shift)
    (contents : List Contents) (order : List (ℕ × ℕ)) (base start : ℕ) (tail : List ℕ) (at : ℕ)
    (headers : List SectionHeader) : Type 0 where
  -- the contents that are written, and the bytes of the tail up to where they end
  pub new : NewContents
  pub given : (t : ℕ) → given_bytes new.tables.now t ≡ given_bytes tables t
  pub ranges : new.ranges.now ≡ bytes_called tables (codes ".debug_rnglists")
  pub front : List ℕ
  pub keeps : (o : ℕ) (xs : List ℕ) → Stands front o xs → Stands tail o xs
  -- the headers before these contents have their places, and afterwards
  pub set : List SectionHeader
  pub placed : List SectionHeader
  pub are_placed : ArePlaced (bytes_at new elf contents)
      (map (λ e. e.1) order ++ added_ranges (adds_ranges elf.sections.items tables) (length set)) base start front set
      placed
  pub count : length headers ≡ length placed
  pub are_capped : AreCapped (base + length tail) placed headers
  pub ends : EndsWith base (base + length front) tail at headers
  pub are_set : AreSet elf tables area shift contents new.section_names.now set
  -- the new code has a section after those of the input
  pub more : length elf.sections.items < length set

-- And among them are the tables of names and of symbols, with those of these cold parts.
pub record ArePutWith {Y Z : Type 0} (elf : Elf) (tables : List (String Y × Vec ℕ Z)) (funcs : List Func)
    (cold : List ℕ) (spans : List Span) (area : Area) (shift : Shift) (contents : List Contents)
    (order : List (ℕ × ℕ)) (base start : ℕ) (tail : List ℕ) (at : ℕ) (headers : List SectionHeader) : Type 0 where
  pub put : ArePut elf tables area shift contents order base start tail at headers
  pub names : HasNames elf tables area funcs cold put.new
  pub symbols : HasSymbols elf funcs spans cold contents put.new put.set

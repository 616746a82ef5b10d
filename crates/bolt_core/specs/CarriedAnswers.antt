-- The answers of a written file's tables at new code, and what is kept of the tables. DWARF 5, sections 2.17, 2.6 and
-- 6; LSB, "The .eh_frame section".
use Rattle.std.specs.Prelude.{ℕ, IfSome, IsTrue, List, codes}
use Rattle.elf_image.specs.declared.elf.Elf.{Elf}
use Rattle.rb_bytes.specs.FirstFault.{IsFree}
use Rattle.addr_map.specs.declared.span.Span.{Span}
use Rattle.table_core.specs.declared.written.ListAt.{ListAt}
use Rattle.table_core.specs.Sections.{bytes_of}
use Rattle.cfi_rows.specs.Frames.{eh_frames, debug_frames}
use Rattle.frame_rewrite.specs.FrameAnswers.{df}
use Rattle.frame_rewrite.specs.Index.{AreApart, AreFilled, StandsIndex, has_frames, has_index}
use Rattle.frame_rewrite.specs.PlainFrames.{HasNoTexts, IsPlain}
use Rattle.frame_rewrite.specs.Stretches.{AreApartAt, AreStretches}
use Rattle.frame_rewrite.specs.Tables.{EndsWithMark}
use Rattle.line_rewrite.specs.Tables.{AreSequencesApart, line_sections}
use Rattle.addr_rewrite.specs.Aranges.{ArePairsApart}
use Rattle.addr_rewrite.specs.Tables.{aranges_of}
use Rattle.table_set.specs.AllAnswers.{AllCarried}
use Rattle.table_set.specs.KeptData.{IsDebugKept}
use Rattle.table_set.specs.TableFaults.{HasTableFault}

pub record CarriesTables (spans : List Span) (i f : Elf) : Type 0 where
  -- the answers at each byte of the new code are the answers of the input at the byte's owner
  pub answers : AllCarried spans i f
  -- no table has a fault
  pub sound : IsFree (HasTableFault f)
  pub ends : IsTrue (has_frames i) → EndsWithMark (bytes_of f (codes ".eh_frame"))
  pub index : IsTrue (has_index i) → StandsIndex f
  -- No two entries share an address; in `.eh_frame`, if no two of the input's do. No entry there is empty, so a search
  -- in the index ends at the entry that contains the address.
  pub apart : AreApart (eh_frames i).list → AreApart (eh_frames f).list
  pub filled : AreFilled (eh_frames f).list
  pub debug_apart : AreApart (debug_frames f).list
  -- If no two of the input's entries share an instruction, the file's entries are the longest stretches of new code of
  -- one entry each: none has new code of two, and there are as many entries as stretches.
  pub stretches : AreApartAt spans (eh_frames i).list → AreStretches spans (eh_frames i).list (eh_frames f).list
  pub debug_stretches : AreApartAt spans (debug_frames i).list →
      AreStretches spans (debug_frames i).list (debug_frames f).list
  -- `.debug_frame` has no augmentations if none of its answers has a handler, a signal mark or an exception table
  pub plain : ((a : ℕ) → IfSome (df f a) IsPlain) → HasNoTexts (bytes_of f (codes ".debug_frame"))
  -- no two sequences of line units share an address, and no two pairs of `.debug_aranges` do
  pub lines_apart : AreSequencesApart (line_sections f)
  pub units_apart : ArePairsApart (aranges_of f)
  -- units, their entries and line units are kept, except for the offsets of the new `lists`; and so are all other debug
  -- data
  pub lists : List ListAt
  pub kept : IsDebugKept spans lists i f

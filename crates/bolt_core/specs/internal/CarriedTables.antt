-- Tables that were read and rewritten.
use Rattle.std.specs.Prelude.{◌+◌, ◌*◌, ◌≤◌, ℕ, IsTrue, List, sum_by}
use Rattle.elf_image.specs.declared.elf.Elf.{Elf}
use Rattle.rv_code.specs.layout.FunctionLists.{address_end}
use Rattle.addr_map.specs.declared.span.Span.{Span}
use Rattle.answer_runs.specs.declared.run.Run.{Run}
use Rattle.answer_runs.specs.AnswerRuns.{AreRunsOf, carried}
use Rattle.cfi_rows.specs.ReadFrames.{read_as}
use Rattle.frame_rewrite.specs.declared.eh.EhFrames.{EhFrames}
use Rattle.frame_rewrite.specs.FrameAnswers.{FrameAnswer}
use Rattle.frame_rewrite.specs.Tables.{ComesAfter, EhFits, eh_says, run_size}
use Rattle.table_set.specs.CarriedTables.{AreCarried}
use Rattle.table_set.specs.declared.all.AllTables.{AllTables}
use Rattle.table_set.specs.declared.all.AllWritten.{AllWritten}
use Rattle.bolt_core.specs.GivenTables.{DebugContents, ReadTable}
use Rattle.bolt_core.specs.internal.GivenIndex.{AreListed, frames_at}

-- the unwind table's number of runs fits
abbrev pub EhRunsFit : EhFrames → List Span → Type 0
EhRunsFit t spans = (runs : List (Run FrameAnswer)) → AreRunsOf (carried (eh_says t) spans) runs → EhFits t spans runs

-- the contents of the rewritten debug tables, without the table of ranges
abbrev pub debug_contents : AllWritten → DebugContents
debug_contents w = record {
  info = w.info.items;
  abbrevs = w.abbrevs.items;
  addr = w.addr.items;
  lines = w.lines.bytes.items;
  locations = w.places.bytes.items;
  aranges = w.aranges.bytes.items;
  frames = w.df.bytes.items;
}

-- After code that ends at an address there is room for the table of any runs, and for its index.
abbrev pub HasRoomBehind : EhFrames → List Span → ℕ → Type 0
HasRoomBehind t spans end = IsTrue t.has_section → (runs : List (Run FrameAnswer)) →
    AreRunsOf (carried (eh_says t) spans) runs →
    end + (64 + 64 * (read_as t.frames).cies + sum_by (λ r. run_size r.answer) runs) ≤ address_end

-- the tables of the list are the rewritten tables
abbrev pub AreListedOf : Elf → ℕ → ℕ → AllWritten → List ReadTable → Type 0
AreListedOf elf start code w = AreListed elf start code w.eh.bytes.items w.ranges.bytes.items (debug_contents w)

-- the list of tables that are written, carried from the tables of a file
pub record AreNewTables (elf : Elf) (t : AllTables) (spans : List Span) (start code : ℕ)
    (given : List ReadTable) : Type 0 where
  pub written : AllWritten
  pub are_carried : AreCarried elf spans t written
  pub are_listed : AreListedOf elf start code written given
  -- the unwind table was written for its address after the code
  pub after : ComesAfter spans (frames_at start code)

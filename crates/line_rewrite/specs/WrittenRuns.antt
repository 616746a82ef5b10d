-- The rows that are written for a run, the programs of all units, and runs cut where functions begin.
use Rattle.std.specs.Prelude.{◌+◌, ◌-◌, ◌^◌, ◌++◌, ◌&&◌, ℕ, All, Bool, List, [], ◌∷◌, slice_set, slice_index_or}
use Rattle.std.specs.Prelude.{Option, Some, None, option_map, length, take, drop, nat_le, nat_lt, if◌then◌else◌}
use Rattle.addr_map.specs.declared.span.Span.{Span}
use Rattle.addr_map.specs.Spans.{owner}
use Rattle.answer_runs.specs.declared.run.Run.{Run}
use Rattle.line_rewrite.specs.declared.unit.Unit as kept
use Rattle.line_rewrite.specs.LineAnswers.{LineSaid}
use Rattle.line_rewrite.specs.SequenceIndex.{Numbered, numbered_at, numbered_rows}
use Rattle.line_rewrite.specs.Written.{IsRow, moved, written_coding}
use Rattle.line_rewrite.specs.WrittenPrograms.{Piece, Begun, nothing_begun, with_piece}

-- A run is written in the program of a unit, with the rows in force at the owner of its first byte.
pub record Placed : Type 0 where
  pub unit : ℕ
  -- The initial is_stmt of the unit's sequences.
  pub stmt : Bool
  pub piece : Piece

abbrev pub placed_by : Run LineSaid → ℕ → Numbered → Placed
placed_by r a x = record {
  unit = x.number;
  stmt = x.unit.header.coding.default_is_stmt;
  piece = record { start = r.start; len = r.len; rows = moved r.start (numbered_rows x a) };
}

abbrev pub placed_at : List kept.Unit → Run LineSaid → Option ℕ → Option Placed
placed_at units r None = None
placed_at units r (Some a) = option_map (placed_by r a) (numbered_at units a)

-- Where a run is written, if its first byte has an owner in a sequence.
abbrev pub placed : List kept.Unit → List Span → Run LineSaid → Option Placed
placed units spans r = placed_at units r (owner spans r.start)

-- One more run in the programs of all units.
abbrev pub with_placed : List Begun → Option Placed → List Begun
with_placed programs None = programs
with_placed programs (Some q) =
    slice_set programs q.unit
    (with_piece (written_coding q.stmt) (slice_index_or programs q.unit nothing_begun) q.piece)

-- The programs of all units with more runs.
unfoldable pub with_runs : List kept.Unit → List Span → List Begun → List (Run LineSaid) → List Begun
with_runs units spans programs [] = programs
with_runs units spans programs (r ∷ rs) = with_runs units spans (with_placed programs (placed units spans r)) rs

-- The rows have registers of 64 bits.
abbrev pub RowsFit : Option Placed → Type 0
RowsFit None = Unit {0}
RowsFit (Some q) = All IsRow q.piece.rows

-- The rows of all runs have registers of 64 bits.
abbrev pub AllRowsFit : List kept.Unit → List Span → List (Run LineSaid) → Type 0
AllRowsFit units spans [] = Unit {0}
AllRowsFit units spans (r ∷ rs) = RowsFit (placed units spans r) × AllRowsFit units spans rs

-- A run of these bytes. How it is written doesn't depend on its answer.
abbrev pub run_over : ℕ → ℕ → LineSaid → Run LineSaid
run_over start len said = record { start = start; len = len; answer = said }

-- A run cut at those of the addresses, in their order, that are inside of what is left of it.
unfoldable pub cut_run : List ℕ → Run LineSaid → List (Run LineSaid)
cut_run [] r = r ∷ []
cut_run (c ∷ cs) r =
    if nat_lt r.start c && nat_lt c (r.start + r.len)
    then run_over r.start (c - r.start) r.answer ∷ cut_run cs (run_over c (r.start + r.len - c) r.answer)
    else cut_run cs r

-- The number of addresses below a bound with which a list begins.
unfoldable pub count_below : ℕ → List ℕ → ℕ
count_below bound [] = 0
count_below bound (c ∷ cs) = if nat_lt c bound then 1 + count_below bound cs else 0

-- Runs with more rows aren't cut, so that the table stays within its limit.
abbrev pub most_rows : ℕ
most_rows = 8

-- The most addresses to cut at.
abbrev pub most_cuts : ℕ
most_cuts = 2 ^ 18

abbrev pub cuts_for : Run LineSaid → List ℕ → List ℕ
cuts_for r cs = if nat_le (length r.answer.rows) most_rows then cs else []

-- The runs, each cut at the addresses inside of it. Both lists ascend.
unfoldable pub cut_runs : List ℕ → List (Run LineSaid) → List (Run LineSaid)
cut_runs cs [] = []
cut_runs cs (r ∷ rs) = let n = count_below (r.start + r.len) cs in
    cut_run (cuts_for r (take n cs)) r ++ cut_runs (drop n cs) rs

-- A program for each unit.
abbrev pub begun : List kept.Unit → List Begun
begun [] = []
begun (u ∷ units) = nothing_begun ∷ begun units

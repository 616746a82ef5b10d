-- Location lists that are written from the runs of a list. DWARF 5, section 7.29.
use Rattle.std.specs.Prelude.{ℕ, List, All, map, flat_map}
use Rattle.std.specs.Global.{Vec}
use Rattle.answer_runs.specs.declared.run.Run.{Run}
use Rattle.answer_runs.specs.AnswerRuns.{said_runs}
use Rattle.dw_lists.specs.declared.list_kind.ListKind.TheVariants.{Locations}
use Rattle.list_writer.specs.ListBytes.{Bounded, IsWritable, entry_bytes, list_bytes}
use Rattle.cover_lists.specs.ListRuns.{said}

-- Each expression, over `len` addresses from `start` on.
abbrev pub over : (start len : ℕ) → List (List ℕ) → List Bounded
over start len xs = map (λ x. record { start = start; len = len; expression = x }) xs

-- Each expression of each run.
abbrev pub bounded : List (Run (List (List ℕ))) → List Bounded
bounded rs = flat_map (λ r. over r.start r.len r.answer) rs

abbrev pub entries_bytes : List Bounded → List ℕ
entries_bytes bs = flat_map (entry_bytes Locations) bs

-- The list of some runs.
abbrev pub runs_bytes : Vec (Run (Vec (Vec ℕ))) → List ℕ
runs_bytes runs = list_bytes Locations (bounded (said_runs said runs.items))

-- All its numbers have 64 bits.
abbrev pub CanBeWritten : Vec (Run (Vec (Vec ℕ))) → Type 0
CanBeWritten runs = All (IsWritable Locations) (bounded (said_runs said runs.items))

-- What tables were weighed by is what they are written from.
use Rattle.std.specs.Prelude.{◌-◌, ◌^◌, List}
use Rattle.addr_map.specs.declared.span.Span.{Span}
use Rattle.answer_runs.specs.AnswerRuns.{carried, AreRunsOf, IsWithin}
use Rattle.line_rewrite.specs.Tables.{line_at}
use Rattle.range_loc_rewrite.specs.PlaceRuns.{ArePlaceRuns}
use Rattle.table_set.specs.declared.all.AllTables.{AllTables}
use Rattle.table_set.specs.declared.weights.Weighed.{Weighed}

pub record AreWeighed (t : AllTables) (spans : List Span) (w : Weighed) : Type 0 where
  pub places : ArePlaceRuns t.places spans w.places.items
  pub lines : AreRunsOf (carried (line_at t.lines) spans) w.lines.items
  pub lines_within : IsWithin 0 w.lines.items (2 ^ 64 - 1)

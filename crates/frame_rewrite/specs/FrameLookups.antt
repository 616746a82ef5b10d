-- What the first entry that holds an address says there, of an entry as the code keeps it.
use Rattle.std.specs.Prelude.{◌&&◌, ℕ, Bool, nat_lt, List, Option, None, option_map, option_and_then}
use Rattle.std.specs.List.{find}
use Rattle.cfi_rows.specs.declared.frame_table.Fde.{Fde as ReadFde}
use Rattle.cfi_rows.specs.FrameRows.{RowValue, row_at}
use Rattle.cfi_rows.specs.Entries.{Fde, is_in_range}
use Rattle.cfi_rows.specs.ReadEntries.{fde_of}
use Rattle.frame_rewrite.specs.FrameAnswers.{FrameAnswer, is_whole_range}

abbrev pub told_by : ℕ → Fde → Option (ReadFde × RowValue)
told_by a f = option_map (λ row. (fde_of f, row)) (row_at a f.rows None)

abbrev pub told_at : List Fde → ℕ → Option (ReadFde × RowValue)
told_at list a = option_and_then (told_by a) (find (λ f. is_in_range f a) list)

abbrev pub answer_by : ReadFde → RowValue → Bool → FrameAnswer
answer_by f row marked = record {
  row = row;
  ra = f.ra;
  handler = f.handler;
  indirect = f.indirect;
  table = f.table;
  signal = f.signal;
  start = f.start;
  marked = marked;
}

-- whether an entry is marked
abbrev pub is_marked_as : List ℕ → ReadFde → Bool
is_marked_as cuts f = nat_lt 0 f.table && is_whole_range cuts f.start f.end

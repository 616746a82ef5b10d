-- An entry as the code keeps it.
use Rattle.cfi_rows.specs.declared.frame_table.Fde.{Fde as ReadFde}
use Rattle.cfi_rows.specs.Entries.{Fde}
use Rattle.cfi_rows.specs.EntryCounts.{row_count, register_count, expression_bytes}

abbrev pub fde_of : Fde → ReadFde
fde_of f = record {
  place = f.place;
  start = f.start;
  end = f.end;
  handler = f.cie.augmentation.handler;
  indirect = f.cie.augmentation.indirect;
  table = f.table;
  signal = f.cie.augmentation.signal;
  ra = f.cie.ra;
  rows = row_count f;
  registers = register_count f;
  bytes = expression_bytes f;
}

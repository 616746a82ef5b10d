-- An augmentation as the code keeps it.
use Rattle.cfi_rows.specs.declared.augmentation.Augmentation.{Augmentation as Kept}
use Rattle.cfi_rows.specs.Entries.{Augmentation}

abbrev pub augmentation_of : Kept → Augmentation
augmentation_of a =
    record {
      has_data = a.has_data;
      encoding = a.encoding;
      table = a.table;
      handler = a.handler;
      indirect = a.indirect;
      signal = a.signal;
    }

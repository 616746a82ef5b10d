-- Bytes that aren't an entry.
use Rattle.cfi_rows.specs.declared.raw_entry.NoEntry.{NoEntry}
use Rattle.cfi_rows.specs.declared.raw_entry.NoEntry.TheVariants as none
use Rattle.cfi_rows.specs.Entries.{Front, Ends, Breaks}

abbrev pub front_without : NoEntry → Front
front_without none.Ends = Ends
front_without none.Breaks = Breaks

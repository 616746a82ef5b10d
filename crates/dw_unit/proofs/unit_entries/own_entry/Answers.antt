use Rattle.dw_unit.proofs.UnitsRead.{header_read}
use Rattle.dw_unit.proofs.unit_entries.own_entry.Goals as goal

pub unit_entries-entries-requires-clause-header : goal.unit_entries-entries-requires-clause-header
unit_entries-entries-requires-clause-header c = header_read c.args.tables.now.section.now c.args.unit.now c.requires.read.0
    c.requires.read.1

-- A table of abbreviations from one of its declarations on.
use Rattle.std.specs.Prelude.{map, drop}
use Rattle.dw_unit.specs.declared.table_place.TableAt.{TableAt}
use Rattle.dw_unit.specs.Declarations.{Table}
use Rattle.dw_unit.specs.Told.{told_declaration}

-- The declarations from the index on.
abbrev pub told_at : TableAt → Table
told_at t = record {
  list = drop t.index (map told_declaration t.table.now.table.list.items);
  end = t.table.now.table.end;
}

use Rattle.std.proofs.Common.{◌≡◌, ◌++◌, List, length, drop, take}
use Rattle.std.specs.Prelude.{flat_map}
use Rattle.dw_unit.specs.Changes.{Patch, table_patches, patched}
use Rattle.dw_unit.specs.EntryMoves.{Moves}
use Rattle.addr_rewrite.specs.TableOrder.{AreInOrder}
use Rattle.addr_rewrite.proofs.addr_table.put_tables.Given as goal

abbrev pub invariant-loop-table : goal.invariant-loop-table
invariant-loop-table l = record {
  put : (m : Moves) (ps : List Patch) → m.spans ≡ l.map →
      l.out.items ++ patched l.to ps (drop l.to l.section)
      ≡ patched 0 (flat_map (table_patches m) (take l.table-index l.tables) ++ ps) l.section;
  order : AreInOrder l.to (length l.section) (drop l.table-index l.tables);
}

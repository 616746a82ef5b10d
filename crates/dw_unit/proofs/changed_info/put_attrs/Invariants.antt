use Rattle.std.proofs.Common.{◌≡◌, ◌++◌, List, drop}
use Rattle.std.specs.Prelude.{flat_map}
use Rattle.dw_unit.specs.Changes.{Patch, patched, attr_patches}
use Rattle.dw_unit.specs.CompUnits.{Entry}
use Rattle.dw_unit.specs.EntryChanges.{ArePlaced, IsOf}
use Rattle.dw_unit.specs.EntryMoves.{Moves}
use Rattle.dw_unit.specs.MovesOf.{AreMovesIn}
use Rattle.dw_unit.proofs.changed_info.put_attrs.Given as goal

abbrev pub invariant-loop-attr : goal.invariant-loop-attr
invariant-loop-attr l = record {
  placed : ArePlaced l.to l.end (drop l.attr-index l.attrs);
  put : (m : Moves) (e : Entry) (ps : List Patch) → AreMovesIn m l.moves → IsOf e l.entry →
      l.out.items ++ patched l.to (flat_map (attr_patches m l.entry.is_own l.entry.is_first e) (drop l.attr-index l.attrs) ++ ps)
      (drop l.to l.info)
      ≡ l.fn.out.items ++ patched l.fn.from (flat_map (attr_patches m l.entry.is_own l.entry.is_first e) l.attrs ++ ps)
      (drop l.fn.from l.info);
}

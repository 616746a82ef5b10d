use Rattle.std.proofs.Common.{◌≡◌, ◌++◌, List, drop, length, map}
use Rattle.std.specs.Prelude.{flat_map}
use Rattle.table_core.specs.ReadSteps.{oks}
use Rattle.dw_unit.specs.Changes.{Patch, patched, unit_patches}
use Rattle.dw_unit.specs.CompUnits.{Sections, unit_of}
use Rattle.dw_unit.specs.EntryChanges.{AreBehind}
use Rattle.dw_unit.specs.EntryMoves.{Moves}
use Rattle.dw_unit.specs.UnitChanges.{IsChangeOf}
use Rattle.dw_unit.proofs.changed_units.changed_units.Given as goal

abbrev pub invariant-loop-unit : goal.invariant-loop-unit
invariant-loop-unit l = record {
  behind : AreBehind l.to (length l.change.info.now) (drop l.unit-index l.units);
  put : (s : Sections) (m : Moves) (ps : List Patch) → IsChangeOf s m l.change →
      l.out.items ++ patched l.to (flat_map (unit_patches s m) (oks (map (unit_of s.abbrevs) (drop l.unit-index l.units))) ++ ps)
      (drop l.to l.change.info.now)
      ≡ patched 0 (flat_map (unit_patches s m) (oks (map (unit_of s.abbrevs) l.units)) ++ ps) l.change.info.now;
}

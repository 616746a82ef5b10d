use Rattle.std.proofs.Common.{◌<◌, ◌^◌, All, List, arith, refl, sym, subst}
use Rattle.table_core.specs.DebugUnits.{Walked}
use Rattle.dw_unit.specs.CompUnits.{end_of, size_of}
use Rattle.dw_unit.proofs.MapKeys.{named_keys}
use Rattle.dw_unit.proofs.UnitEnds.{walked_ends, walked_short}
use Rattle.dw_unit.proofs.unit_reader.UnitReader.new.Goals as goal

pub invariant_of-result : goal.invariant_of-result
invariant_of-result c = record {
  named = named_keys c.in_ok-tables.tables.starts c.deref-2.result.now c.in_ok-offsets.offsets.items c.deref.result.now
      c.in_ok-units.units.items
      c.in_ok-units.units.items c.deref-2.ensures.value c.deref.ensures.value refl c.in_ok-tables.ensures.found
      c.in_ok-offsets.ensures.named;
  within = subst (λ (ws : List Walked). All (λ w. end_of w < 2 ^ 64) ws) (sym c.in_ok-units.ensures)
      (walked_ends 5 c.args.info.now (omega arith));
  short = subst (λ (ws : List Walked). All (λ w. size_of w < 2 ^ 32) ws) (sym c.in_ok-units.ensures)
      (walked_short 5 c.args.info.now (λ k. omega (arith, c.type_inv.info k)));
}

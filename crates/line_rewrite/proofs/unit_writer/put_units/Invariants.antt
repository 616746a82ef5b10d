use Rattle.std.proofs.Common.{◌≡◌, ◌<◌, ◌-◌, ◌^◌, ◌++◌, drop, length}
use Rattle.std.specs.Prelude.{All}
use Rattle.line_rewrite.specs.WrittenUnits.{written_units, spelled_units}
use Rattle.line_rewrite.proofs.unit_writer.put_units.Given as goal

abbrev pub invariant-loop-unit : goal.invariant-loop-unit
invariant-loop-unit l = record {
  written : l.out.items ++ spelled_units (written_units (drop l.unit-index l.units) l.rest)
      ≡ l.fn.out.items ++ spelled_units (written_units l.units l.fn.programs);
  small : All (λ b. length b < 2 ^ 32 - 1) (written_units (drop l.unit-index l.units) l.rest);
}

use Rattle.std.proofs.Common.{◌≡◌, ◌++◌, take}
use Rattle.list_writer.specs.WrittenTables as spec
use Rattle.list_writer.proofs.list_tables.name_bases.Given as goal

abbrev pub invariant-loop-unit : goal.invariant-loop-unit
invariant-loop-unit l = l.names.items ≡ l.fn.names.items ++ spec.bases_at l.kind l.base (take l.unit-index l.units)

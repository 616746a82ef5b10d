use Rattle.std.proofs.Common.{◌≡◌, ℕ, is_some, take, nat_cmp}
use Rattle.std.specs.BTreeMap.{get}
use Rattle.dw_unit.specs.OwnPlaces.{names_own}
use Rattle.dw_unit.proofs.own_declarations.own_declarations.Given as goal

abbrev pub invariant-loop-unit : goal.invariant-loop-unit
invariant-loop-unit l = (q : ℕ) → is_some (get nat_cmp l.places q) ≡ names_own l.tables.section.now (take l.unit-index l.units) q

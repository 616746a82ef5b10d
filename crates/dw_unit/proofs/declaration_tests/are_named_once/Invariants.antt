use Rattle.std.proofs.Common.{◌≡◌, ℕ, true, drop, nat_cmp}
use Rattle.std.specs.List.{list_any}
use Rattle.std.specs.BTreeSet.{contains}
use Rattle.dw_unit.specs.CompUnits.{are_named_once}
use Rattle.dw_unit.specs.Declarations.{is_named}
use Rattle.dw_unit.proofs.declaration_tests.are_named_once.Given as goal

abbrev pub invariant-specs : goal.invariant-specs
invariant-specs l = record {
  once : are_named_once (drop l.index l.specs) ≡ true;
  known : (q : ℕ) → contains nat_cmp l.later q ≡ list_any (is_named q) (drop l.index l.specs);
}

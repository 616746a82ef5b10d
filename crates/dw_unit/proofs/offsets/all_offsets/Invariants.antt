use Rattle.std.proofs.Common.{◌≡◌, ℕ, take}
use Rattle.std.specs.Prelude.{◌==◌}
use Rattle.std.specs.List.{list_any}
use Rattle.dw_unit.specs.NamedOffsets.{is_named_by}
use Rattle.dw_unit.proofs.offsets.all_offsets.Given as goal

abbrev pub invariant-loop-unit : goal.invariant-loop-unit
invariant-loop-unit l = (q : ℕ) → list_any (λ o. o == q) l.offsets.items ≡ is_named_by q (take l.unit-index l.units)

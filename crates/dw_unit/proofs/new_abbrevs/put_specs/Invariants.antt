use Rattle.std.proofs.Common.{◌≡◌, ◌++◌, Bool, take}
use Rattle.std.specs.Prelude.{flat_map}
use Rattle.dw_unit.specs.Changes.{spec_bytes, changed_spec}
use Rattle.dw_unit.specs.Declarations.{Declaration}
use Rattle.dw_unit.specs.NewNames.{IsNaming}
use Rattle.dw_unit.proofs.new_abbrevs.put_specs.Given as goal

abbrev pub invariant-loop-spec : goal.invariant-loop-spec
invariant-loop-spec l = (is_own : Bool) (d : Declaration) → IsNaming is_own d l.naming →
    l.out.items ≡ l.fn.out.items ++ flat_map (λ s. flat_map spec_bytes (changed_spec is_own d s)) (take l.spec-index l.specs)

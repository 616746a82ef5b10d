-- What the new names of a declaration's attributes depend on.
use Rattle.std.specs.Prelude.{◌≡◌, Bool}
use Rattle.dw_unit.specs.declared.attribute.TheConstants.{DW_AT_high_pc, DW_AT_entry_pc}
use Rattle.dw_unit.specs.declared.naming.Naming.{Naming}
use Rattle.dw_unit.specs.Changes.{keeps_low}
use Rattle.dw_unit.specs.Declarations.{Declaration, has_spec}

-- The struct `n` has the three facts on the declaration `d`.
pub record IsNaming (is_own : Bool) (d : Declaration) (n : Naming) : Type 0 where
  pub keeps_low : n.keeps_low ≡ keeps_low is_own d
  pub has_high : n.has_high ≡ has_spec DW_AT_high_pc d
  pub has_entry : n.has_entry ≡ has_spec DW_AT_entry_pc d

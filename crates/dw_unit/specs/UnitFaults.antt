-- The faults of some units.
use Rattle.std.specs.Prelude.{◌≡◌, ℕ, List, flat_map}
use Rattle.answer_runs.specs.Choices.{least}
use Rattle.table_core.specs.DebugUnits.{Walked, first_place}
use Rattle.dw_unit.specs.CompUnits.{unit_of}
use Rattle.dw_unit.specs.Declarations.{has_bad_form, has_bad_high}
use Rattle.dw_unit.specs.Faults.{declarations_of, places_with, unformed, fails, is_sound_unit}
use Rattle.dw_unit.specs.declared.unit_faults.UnitFaults.{UnitFaults}

-- `f` has the lowest place of each fault of the units `ws`.
pub record AreNoted (abbrevs addr : List ℕ) (ws : List Walked) (f : UnitFaults) : Type 0 where
  pub form : f.bad_form ≡ least (places_with has_bad_form (flat_map (declarations_of abbrevs) ws))
  pub high : f.bad_high ≡ least (places_with has_bad_high (flat_map (declarations_of abbrevs) ws))
  pub unformed_are : f.unformed ≡ least (flat_map (λ w. unformed (unit_of abbrevs w)) ws)
  pub bad : f.bad ≡ first_place (λ w. fails (is_sound_unit addr) (unit_of abbrevs w)) ws

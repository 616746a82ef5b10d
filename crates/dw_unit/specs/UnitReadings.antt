-- The results of reading one unit, and several.
use Rattle.std.specs.Prelude.{◌≡◌, ℕ, true, false, List, map, flat_map, MatchOption, None, Result, Ok}
use Rattle.answer_runs.specs.Choices.{least}
use Rattle.table_core.specs.ReadSteps.{oks}
use Rattle.table_core.specs.DebugUnits.{Walked, first_place}
use Rattle.dw_unit.specs.declared.unit_reading.UnitReading.{UnitReading}
use Rattle.dw_unit.specs.declared.unit_reading.Readings.{Readings}
use Rattle.dw_unit.specs.declared.trouble.Trouble.{Trouble}
use Rattle.dw_unit.specs.CompUnits.{Unit, unit_of}
use Rattle.dw_unit.specs.Declarations.{has_bad_form, has_bad_high}
use Rattle.dw_unit.specs.Faults.{declarations_of, places_with, unformed, fails, is_sound_unit}
use Rattle.dw_unit.specs.ListedEntries.{ListedEntry, listed}
use Rattle.dw_unit.specs.ListedUnits.{listed_unit}

-- The result of reading a unit's table and entries, whether or not this succeeds.
pub record IsBehind (addr : List ℕ) (u : Result Unit Trouble) (r : UnitReading) : Type 0 where
  pub unformed : r.unformed ≡ least (unformed u)
  pub entries : MatchOption r.entries (fails (is_sound_unit addr) u ≡ true)
      (λ es. (fails (is_sound_unit addr) u ≡ false) × (listed_unit u ≡ Ok es.items))

-- `r` is the result of reading the unit `w`.
pub record IsReading (abbrevs addr : List ℕ) (w : Walked) (r : UnitReading) : Type 0 where
  pub form : r.bad_form ≡ least (places_with has_bad_form (declarations_of abbrevs w))
  pub high : r.bad_high ≡ least (places_with has_bad_high (declarations_of abbrevs w))
  pub behind : IsBehind addr (unit_of abbrevs w) r

-- The entries of the units that can be read.
abbrev pub listed_all : List ℕ → List Walked → List ListedEntry
listed_all abbrevs ws = map listed (flat_map (λ (u : Unit). u.entries) (oks (map (unit_of abbrevs) ws)))

-- `r` is the result of reading the units `ws`.
pub record AreReadings (abbrevs addr : List ℕ) (ws : List Walked) (r : Readings) : Type 0 where
  pub form : r.bad_form ≡ least (places_with has_bad_form (flat_map (declarations_of abbrevs) ws))
  pub high : r.bad_high ≡ least (places_with has_bad_high (flat_map (declarations_of abbrevs) ws))
  pub unformed : r.unformed ≡ least (flat_map (λ w. unformed (unit_of abbrevs w)) ws)
  pub bad : r.bad ≡ first_place (λ w. fails (is_sound_unit addr) (unit_of abbrevs w)) ws
  pub entries : r.bad ≡ None → r.entries.items ≡ listed_all abbrevs ws

-- What contracts see of a reader of units.
use Rattle.std.specs.Prelude.{◌<◌, ◌^◌, ℕ, List, All}
use Rattle.std.specs.BTreeMap.{BTreeMap}
use Rattle.table_core.specs.DebugUnits.{Walked}
use Rattle.dw_unit.specs.CompUnits.{end_of, size_of}
use Rattle.dw_unit.specs.MapKeys.{HasOffsets}

-- The units, and the sections with which they are read.
pub record ReaderSections : Type 0 where
  pub units : List Walked
  pub abbrevs : List ℕ
  pub addr : List ℕ

-- Each unit can be read: its table of abbreviations was read, and its end and size fit in 64 and 32 bits.
pub record AreReadable {X : Type 0} (starts : BTreeMap ℕ X) (units : List Walked) : Type 0 where
  pub named : HasOffsets starts units
  pub within : All (λ w. end_of w < 2 ^ 64) units
  pub short : All (λ w. size_of w < 2 ^ 32) units

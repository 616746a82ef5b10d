-- How tables of `.debug_aranges` are read, and their ranges found by address.
use Rattle.std.specs.Prelude.{◌≡◌, ◌+◌, ◌==◌, ◌&&◌, ◌^◌, ◌<◌, ℕ, List, map, flat_map, not, if◌then◌else◌, Option, Some}
use Rattle.std.specs.Prelude.{None, Ok, Err, option_and_then, slice_get}
use Rattle.rb_bytes.specs.Readers.{bytes_at, number_read, and_then}
use Rattle.answer_runs.specs.declared.range.Range.{Range}
use Rattle.answer_runs.specs.FirstRanges.{first_range}
use Rattle.table_core.specs.DebugUnits.{Walked, first_place}
use Rattle.table_core.specs.ReadSteps.{is_ok, oks}
use Rattle.dw_unit.specs.declared.trouble.Trouble.TheVariants.{Unsound}
use Rattle.dw_unit.specs.Trouble.{Read, whole}
use Rattle.addr_rewrite.specs.Aranges.{AddressTable, table_of, unit_at}
use Rattle.addr_rewrite.specs.declared.table_list.ReadTables.{ReadTables}
use Rattle.addr_rewrite.specs.declared.table_reader.Table.{Table}
use Rattle.addr_rewrite.specs.declared.unit_index.UnitIndex.{UnitIndex}
use Rattle.addr_rewrite.specs.declared.unit_range.UnitRange.{UnitRange}

-- The next pair as a range, or none at two zeros.
abbrev pub pair_at : List ℕ → Read (Option Range)
pair_at left =
    and_then (whole (number_read 8 left)) (λ a left1.
    and_then (whole (number_read 8 left1)) (λ size rest.
    Ok ((if a == 0 && size == 0 then None else Some (record { low = a; high = a + size })), rest)))

-- Reads the header of a table after its length: the unit's offset. The bytes of the pairs are left.
abbrev pub table_header : List ℕ → Read ℕ
table_header bytes =
    and_then (whole (number_read 2 bytes)) (λ version left1.
    and_then (whole (number_read 4 left1)) (λ unit left2.
    and_then (whole (number_read 2 left2)) (λ sizes left3.
    and_then (whole (bytes_at 4 left3)) (λ _ left4.
    if sizes == 8 then Ok (unit, left4) else Err Unsound))))

-- A table that was read.
abbrev pub told : Table → AddressTable
told t = record { unit = t.unit; ranges = t.ranges.items }

-- The ranges of tables, one after another, each with the unit of its table.
abbrev pub entries_of : AddressTable → List UnitRange
entries_of t = map (λ (r : Range). record { range = r; unit = t.unit }) t.ranges

abbrev pub all_entries : List AddressTable → List UnitRange
all_entries ts = flat_map entries_of ts

-- Tables that were read: the ranges of the well-formed ones, and the place of the first malformed one.
pub record AreTables (ws : List Walked) (r : ReadTables) : Type 0 where
  pub ranges : r.ranges.items ≡ all_entries (oks (map table_of ws))
  pub bad : r.bad ≡ first_place (λ w. not (is_ok (table_of w))) ws

-- The unit of the first range of an index that contains an address.
abbrev pub unit_found : UnitIndex → ℕ → Option ℕ
unit_found index a = option_and_then (slice_get index.units.items) (first_range index.first a)

-- The index of a section: it gives the unit of each address. Offsets of units have 32 bits.
pub record AreKept (section : List ℕ) (index : UnitIndex) : Type 0 where
  pub found : (a : ℕ) → unit_found index a ≡ unit_at section a
  pub small : (a u : ℕ) → unit_at section a ≡ Some u → u < 2 ^ 32

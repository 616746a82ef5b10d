-- Where tables begin within the tables that were read.
use Rattle.std.specs.Prelude.{◌≡◌, ◌<◌, ◌⊎◌, ℕ, List, Some, length, drop, slice_get}
use Rattle.std.specs.Ordering.{nat_cmp}
use Rattle.std.specs.BTreeMap.{BTreeMap, get}
use Rattle.answer_runs.specs.Choices.{least}
use Rattle.dw_unit.specs.declared.start.Start.{Start}
use Rattle.dw_unit.specs.declared.indexed_table.IndexedTable.{IndexedTable}
use Rattle.dw_unit.specs.Declarations.{Declaration, Table, table_at, has_bad_form, has_bad_high}
use Rattle.dw_unit.specs.Faults.{places_with}
use Rattle.dw_unit.specs.Told.{told_table}

-- The declarations of a table from an index on.
abbrev pub table_from : ℕ → Table → Table
table_from index t = record { list = drop index t.list; end = t.end }

-- The start `s` has the lowest offsets of declarations with an unknown form and with a bad high address, from its index
-- on.
pub record IsFrom (t : Table) (s : Start) : Type 0 where
  pub form : s.form ≡ least (places_with has_bad_form (table_from s.index t).list)
  pub high : s.high ≡ least (places_with has_bad_high (table_from s.index t).list)

-- The start `s` is at the declaration at offset `place` in the table `t`, which is table `number` of those read.
pub record IsMark (t : Table) (number place : ℕ) (s : Start) : Type 0 where
  pub number_is : s.number ≡ number
  pub within : s.index < length t.list
  pub there : (d : Declaration) → slice_get t.list s.index ≡ Some d → d.place ≡ place
  pub from : IsFrom t s

-- The table at an offset of the section is the rest of a table that was read, from the start `s` on.
pub record IsStart (section : List ℕ) (read : List IndexedTable) (offset : ℕ) (s : Start) : Type 0 where
  pub within : s.number < length read
  pub table : (t : IndexedTable) → slice_get read s.number ≡ Some t →
      table_at section offset ≡ table_from s.index (told_table t.table)
  pub from : (t : IndexedTable) → slice_get read s.number ≡ Some t → IsFrom (told_table t.table) s

-- Each entry of the map is the start of the table at its key.
abbrev pub AreStarts : List ℕ → List IndexedTable → BTreeMap ℕ Start → Type 0
AreStarts section read starts = (q : ℕ) (s : Start) → get nat_cmp starts q ≡ Some s → IsStart section read q s

-- Each start in `new` was in `old`, or is at a declaration of the table.
abbrev pub AreMarked : Table → ℕ → BTreeMap ℕ Start → BTreeMap ℕ Start → Type 0
AreMarked t number old new = (q : ℕ) (s : Start) → get nat_cmp new q ≡ Some s →
    (get nat_cmp old q ≡ Some s) ⊎ IsMark t number q s

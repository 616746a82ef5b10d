-- States of the line number state machine that are kept, to walk a sequence from.
use Rattle.std.specs.Prelude.{◌≡◌, ◌≤◌, ◌<◌, ◌||◌, ◌&&◌, ℕ, zero, suc, All, Bool, List, [], ◌∷◌, ◌++◌, nat_le, Option}
use Rattle.std.specs.Prelude.{if◌then◌else◌, length, drop, take, slice_index_or}
use Rattle.line_rewrite.specs.declared.coding.Coding.{Coding}
use Rattle.line_rewrite.specs.declared.registers.Registers.{Registers}
use Rattle.line_rewrite.specs.declared.kept.Kept.{Kept}
use Rattle.line_rewrite.specs.declared.kept.Due.{Due}
use Rattle.line_rewrite.specs.declared.line_program.LineProgram.{LineProgram}
use Rattle.line_rewrite.specs.Operations.{operations}
use Rattle.line_rewrite.specs.LineMachine.{rows_from}
use Rattle.line_rewrite.specs.LineAnswers.{first_address}
use Rattle.line_rewrite.specs.Walks.{is_above}

-- The rows of a sequence from an offset in the program on.
abbrev pub rows_at_place : Coding → List ℕ → List ℕ → Registers → ℕ → List Registers
rows_at_place coding lengths bytes r place = rows_from coding r
    (operations coding.opcode_base lengths (drop place bytes))

-- The rows from the bytes left of a program.
abbrev pub rows_left : LineProgram → List ℕ → Registers → List Registers
rows_left p left r = rows_from p.coding.now r (operations p.coding.now.opcode_base p.lengths.now left)

-- The rows of a program from a kept state on.
abbrev pub rows_behind : LineProgram → Kept → List Registers
rows_behind p k = rows_at_place p.coding.now p.lengths.now p.bytes.now k.registers k.place

-- A state before the row with index `i`: the rows from this one on follow from it. There is such a row, and all rows
-- before it are at lower addresses.
pub record IsBefore (coding : Coding) (lengths bytes : List ℕ) (rows : List Registers) (i : ℕ) (k : Kept) : Type 0 where
  pub within : k.place ≤ length bytes
  pub some : i < length rows
  pub follow : rows_at_place coding lengths bytes k.registers k.place ≡ drop i rows
  pub address : first_address (drop i rows) 0 ≡ k.address
  pub above : All (λ r. r.address < k.address) (take i rows)

-- Each state is before the row with its index. The indexes don't fall.
pub record AreKept (coding : Coding) (lengths bytes : List ℕ) (rows : List Registers) (kept : List Kept) : Type 0 where
  pub each : (j : ℕ) (d : Kept) → j < length kept →
      IsBefore coding lengths bytes rows (slice_index_or kept j d).index (slice_index_or kept j d)
  pub rise : (i j : ℕ) (d : Kept) → i ≤ j → j < length kept →
      (slice_index_or kept i d).index ≤ (slice_index_or kept j d).index

-- The first state is before the first row, if there are rows.
pub record Begins (count : ℕ) (kept : List Kept) : Type 0 where
  pub none : length kept ≡ 0 → count ≡ 0
  pub first : (d : Kept) → 0 < length kept → (slice_index_or kept 0 d).index ≡ 0

-- The index of the row of a state; after the last state, the number of rows.
abbrev pub row_at : List Kept → ℕ → ℕ → ℕ
row_at [] count j = count
row_at (k ∷ kept) count zero = k.index
row_at (k ∷ kept) count (suc j) = row_at kept count j

-- The state is at the row or the offset from which on the next one is kept.
abbrev pub is_due : Due → Kept → Bool
is_due due k = nat_le due.row k.index || nat_le due.place k.place

-- The states, with this one if it is due and its row is above the last one.
abbrev pub kept_more : Due → Option ℕ → Kept → List Kept → List Kept
kept_more due last k kept = if is_due due k && is_above last k.address then kept ++ k ∷ [] else kept

-- The address of a sequence's first row, by its states.
abbrev pub low_of : List Kept → ℕ → ℕ
low_of [] end = end
low_of (k ∷ kept) end = k.address

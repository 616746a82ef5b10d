-- The rules of each row of a table ascend by register, whatever bytes the table has.
use Rattle.std.proofs.Common.{ℕ, ◌≡◌, List, [], ◌∷◌, Option, Some, None, Result, cond, leb, Bool, true, false, subst}
use Rattle.std.specs.Prelude.{All, IfSome}
use Rattle.cfi_rows.specs.declared.instruction.Malformed.{Malformed}
use Rattle.cfi_rows.specs.RuleEntries.{Ascend}
use Rattle.cfi_rows.specs.FrameRows.{RowValue, Known, rows, begins, nothing_known, known_after, PlacedRow, row_at}
use Rattle.cfi_rows.specs.FrameInstructions.{instructions_at}
use Rattle.cfi_rows.specs.Entries.{RawEntry, Cie, Fde, cie_at, cie_by, cie_after, cie_made, head_at, head_context, fde_at, fde_made}
use Rattle.cfi_rows.specs.Entries.{sound_if, end_of, frames}
use Rattle.cfi_rows.proofs.AscendingRules.{RowsAscend, IfRows, rows-ascend, KnownAscends, known-ascend}
use Rattle.table_core.specs.ReadSteps.{and_so}
use Rattle.frame_rewrite.proofs.ReadEntries.{IfFde, IfCie, cie-so, fde-read, all-by-cie}

abbrev CieAscends : Cie → Type 0
CieAscends c = Ascend 0 c.known.rules

abbrev pub FdeAscends : Fde → Type 0
FdeAscends f = RowsAscend f.rows

cie-known : (o : Option Known) (f : Known → Result Cie Malformed) → KnownAscends o
    → ((k : Known) → Ascend 0 k.rules → IfCie CieAscends (f k)) → IfCie CieAscends (and_so (sound_if o) f)
cie-known None f a h = tt
cie-known (Some k) f a h = h k a

cie-ascends : (end : ℕ) (body : List ℕ) → IfCie CieAscends (cie_at end body)
cie-ascends end body = cie-so CieAscends (head_at end body) (cie_by end) (λ read.
    cie-so CieAscends (instructions_at (head_context end read.0) read.1) (cie_after read.0) (λ is.
    cie-known (known_after is (Some (begins 0 nothing_known))) (cie_made read.0 is)
    (known-ascend is (Some (begins 0 nothing_known)) (record { known = tt; saved = tt })) (λ k a. a)))

fde-rows : (o : Option (List PlacedRow)) (f : List PlacedRow → Result Fde Malformed) → IfRows o
    → ((rs : List PlacedRow) → RowsAscend rs → IfFde FdeAscends (f rs)) → IfFde FdeAscends (and_so (sound_if o) f)
fde-rows None f a h = tt
fde-rows (Some rs) f a h = h rs a

fde-ascends : (c : Cie) (end : ℕ) (e : RawEntry) → CieAscends c → IfFde FdeAscends (fde_at c end e)
fde-ascends c end e a = fde-read FdeAscends c end e (λ start size table is.
    fde-rows (rows c.known.rules is (begins start c.known)) (fde_made c e.place start size table is)
    (rows-ascend c.known.rules is (begins start c.known) (record { known = a; saved = tt })) (λ rs r. r))

pub frames-ascend : (debug : Bool) (address : ℕ) (table : List ℕ) → All FdeAscends (frames debug address table).list
frames-ascend debug address table = all-by-cie FdeAscends CieAscends debug address table
    (λ y c i. cie-ascends (end_of address y) y.body) fde-ascends

-- the row at an address is one of them
pub row-ascends : (a : ℕ) (rs : List PlacedRow) (found : Option RowValue) (row : RowValue) → RowsAscend rs
    → IfSome found (λ r. Ascend 0 r.rules) → row_at a rs found ≡ Some row → Ascend 0 row.rules
row-ascends a [] found row h g e = subst (λ (o : Option RowValue). IfSome o (λ r. Ascend 0 r.rules)) e g
row-ascends a (r ∷ rs) found row h g e =
    row-ascends a rs (cond (leb r.start a) (Some r.row) found) row h.1 (either (leb r.start a)) e where
      either : (b : Bool) → IfSome (cond b (Some r.row) found) (λ x. Ascend 0 x.rules)
      either true = h.0
      either false = g

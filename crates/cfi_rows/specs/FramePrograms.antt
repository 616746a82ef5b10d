-- Entries of a frame table that are read once more, for their rows.
use Rattle.std.specs.Prelude.{◌≡◌, ℕ, Bool, List, drop, Option, Some, None, Result, Err, IsOkAnd}
use Rattle.table_core.specs.ReadSteps.{and_so}
use Rattle.table_core.specs.Sections.{Held}
use Rattle.table_core.specs.declared.section.Held.{Held as ReadHeld}
use Rattle.cfi_rows.specs.declared.instruction.Malformed.{Malformed}
use Rattle.cfi_rows.specs.declared.instruction.Malformed.TheVariants.{Entry}
use Rattle.std.specs.Rc.{rc_value}
use Rattle.std.specs.Ordering.{nat_cmp}
use Rattle.std.specs.BTreeMap.{BTreeMap, get}
use Rattle.cfi_rows.specs.declared.cie_program.CieProgram.{CieProgram}
use Rattle.cfi_rows.specs.declared.program.Program.{Program}
use Rattle.cfi_rows.specs.FrameRows.{PlacedRow, rows, begins}
use Rattle.cfi_rows.specs.Entries.{Cie, Fde, RawEntry, Front, Ends, Breaks, Stands, front_of, sound_if}
use Rattle.cfi_rows.specs.Entries.{cie_at, cie_place, end_of, fde_at}
use Rattle.cfi_rows.specs.Heads.{head_of}
use Rattle.cfi_rows.specs.RowMachines.{known_of}

-- a section as the code holds it
abbrev pub section_in : ReadHeld → Held
section_in h = record { bytes = h.bytes.now; address = h.address }

-- the rows of an FDE that is to be run
abbrev pub rows_of : Program → Option (List PlacedRow)
rows_of p =
    rows (known_of (rc_value p.initial).known).rules p.instructions.items
    (begins p.start (known_of (rc_value p.initial).known))

-- a CIE as it is kept for the rows of its FDEs
pub record IsCieProgram (k : CieProgram) (c : Cie) : Type 0 where
  pub head : record { code = c.code; «data» = c.«data»; ra = c.ra; augmentation = c.augmentation } ≡ head_of k.head
  pub known : c.known ≡ known_of k.known

-- an FDE as it is kept to be run
pub record IsProgram (p : Program) (f : Fde) : Type 0 where
  pub start : f.start ≡ p.start
  pub rows : rows_of p ≡ Some f.rows

-- the entry at a place, which is the one that a walk of the table finds there
abbrev pub entry_in : Front → Option RawEntry
entry_in Ends = None
entry_in Breaks = None
entry_in (Stands e rest) = Some e

abbrev pub entry_standing : (debug : Bool) → List ℕ → ℕ → Option RawEntry
entry_standing debug table place = entry_in (front_of debug place (drop place table))

abbrev pub cie_standing : (debug : Bool) → Held → Option ℕ → Result Cie Malformed
cie_standing debug t None = Err Entry
cie_standing debug t (Some place) =
    and_so (sound_if (entry_standing debug t.bytes place)) (λ e. cie_at (end_of t.address e) e.body)

abbrev pub fde_standing : (debug : Bool) → Held → ℕ → Result Fde Malformed
fde_standing debug t place =
    and_so (sound_if (entry_standing debug t.bytes place))
    (λ e. and_so (cie_standing debug t (cie_place debug e)) (λ cie. fde_at cie (end_of t.address e) e))

-- values that are seen as CIEs, by the places of these
abbrev pub AreRead : {X : Type 0} → (X → CieProgram) → (debug : Bool) → Held → BTreeMap ℕ X → Type 0
AreRead {X} value debug t cies = (p : ℕ) (x : X) → get nat_cmp cies p ≡ Some x →
    IsOkAnd (cie_standing debug t (Some p)) (IsCieProgram (value x))

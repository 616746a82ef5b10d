-- The parts of a frame table as the code keeps them.
use Rattle.std.specs.Prelude.{ℕ, ◌+◌, ◌++◌, Bool, List, map, Option, Some, None, Result, Ok, Err}
use Rattle.std.specs.Ordering.{nat_cmp}
use Rattle.std.specs.BTreeMap.{BTreeMap, get}
use Rattle.table_core.specs.ReadSteps.{and_so}
use Rattle.cfi_rows.specs.declared.kept_cie.Cie.{Cie as Kept}
use Rattle.cfi_rows.specs.declared.frame_table.Fde.{Fde as ReadFde}
use Rattle.cfi_rows.specs.declared.listed.Listed.{Listed}
use Rattle.cfi_rows.specs.declared.instruction.Malformed.{Malformed}
use Rattle.cfi_rows.specs.Entries.{Cie, Fde, Frames, RawEntry, cie_at, cie_in, cie_place, end_of, entry_named, fde_at}
use Rattle.cfi_rows.specs.KeptCies.{IsKeptCie}
use Rattle.cfi_rows.specs.ReadEntries.{fde_of}

-- a CIE is kept if it is sound
abbrev pub KeptAs : Option Kept → Result Cie Malformed → Type 0
KeptAs (Some k) (Ok c) = IsKeptCie k c
KeptAs None (Err e) = Unit {0}
KeptAs (Some k) (Err e) = ⊥
KeptAs None (Ok c) = ⊥

-- the kept CIE at a place, if a CIE entry there is always found
abbrev pub KeptFor : ℕ → Option (Option Kept) → Option RawEntry → Type 0
KeptFor address None None = Unit {0}
KeptFor address (Some k) (Some e) = KeptAs k (cie_at (end_of address e) e.body)
KeptFor address None (Some e) = ⊥
KeptFor address (Some k) None = ⊥

-- the CIEs of entries, by their places
abbrev pub AreKept : (debug : Bool) → ℕ → List RawEntry → BTreeMap ℕ (Option Kept) → Type 0
AreKept debug address es cies = (p : ℕ) → KeptFor address (get nat_cmp cies p) (entry_named debug es (Some p))

-- an FDE among entries
abbrev pub fde_in : (debug : Bool) → ℕ → List RawEntry → RawEntry → Result Fde Malformed
fde_in debug address es e = and_so (cie_in debug address es (cie_place debug e))
    (λ cie. fde_at cie (end_of address e) e)

-- the answer for a table
pub record SaidFrames : Type 0 where
  pub cies : ℕ
  pub list : List ReadFde
  pub bad : Option ℕ

abbrev pub said : Frames → SaidFrames
said t = record { cies = t.cies; list = map fde_of t.list; bad = t.bad }

-- the entries read of a table, and then the rest
abbrev pub joined : ℕ → List ReadFde → SaidFrames → SaidFrames
joined n fs t = record { cies = n + t.cies; list = fs ++ t.list; bad = t.bad }

abbrev pub said_of : Listed → SaidFrames
said_of t = record { cies = t.cies; list = t.list.items; bad = t.bad }

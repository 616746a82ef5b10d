-- The rows of each entry of a table begin with its range.
use Rattle.std.proofs.Common.{ℕ, ◌≤◌, ◌≡◌, List, [], ◌∷◌, Option, Some, None, option_map, Result, cond, leb, Bool, true, false, refl}
use Rattle.std.proofs.Common.{subst, arith}
use Rattle.std.specs.Prelude.{All, IsSome}
use Rattle.std.proofs.lemmas.Bool.Decides.{nat_tests}
use Rattle.table_core.specs.ReadSteps.{and_so}
use Rattle.cfi_rows.specs.declared.row.Cfa.{Cfa}
use Rattle.cfi_rows.specs.declared.instruction.Instruction.{Instruction}
use Rattle.cfi_rows.specs.declared.instruction.Instruction.TheVariants.{Advance, SetLoc, DefCfa, DefCfaRegister, DefCfaOffset, SetRule}
use Rattle.cfi_rows.specs.declared.instruction.Instruction.TheVariants.{Restore, RememberState, RestoreState, Nop}
use Rattle.cfi_rows.specs.declared.instruction.Malformed.{Malformed}
use Rattle.cfi_rows.specs.FrameRows.{RowValue, Rules, Known, State, with_cfa, with_register, with_offset, take_back, row_from, prepended}
use Rattle.cfi_rows.specs.FrameRows.{then_rows, rows, begins, PlacedRow, row_at}
use Rattle.cfi_rows.specs.Entries.{RawEntry, Cie, Fde, fde_at, fde_made, sound_if, end_of, cie_in, cie_place, frames, walked_entries}
use Rattle.frame_rewrite.proofs.ReadEntries.{IfFde, fde-so, fde-read, all-read}

-- the first row begins at an address
abbrev pub BeginsAt : ℕ → List PlacedRow → Type 0
BeginsAt a [] = ⊥
BeginsAt a (r ∷ rs) = r.start ≡ a

abbrev IfRows : ℕ → Option (List PlacedRow) → Type 0
IfRows a None = Unit {0}
IfRows a (Some rs) = BeginsAt a rs

prepended-begins : (a : ℕ) (cfa : Option Cfa) (rules : Rules) (more : Option (List PlacedRow))
    → IfRows a (prepended a (row_from cfa rules) more)
prepended-begins a None rules more = tt
prepended-begins a (Some cfa) rules None = tt
prepended-begins a (Some cfa) rules (Some rs) = refl

-- an instruction that ends no row leaves the location
abbrev Stays : ℕ → Option State → Type 0
Stays a None = Unit {0}
Stays a (Some s) = s.location ≡ a

cfa-stays : (s : State) (cfa : Option Cfa) → Stays s.location (option_map (with_cfa s) cfa)
cfa-stays s None = tt
cfa-stays s (Some cfa) = refl

back-stays : (s : State) (ks : List Known) → Stays s.location (take_back s ks)
back-stays s [] = tt
back-stays s (k ∷ ks) = refl

-- the rows from a state on, if the rows after the step begin at its location
abbrev Onward : State → List Instruction → Rules → Type 0
Onward s is initial = (t : State) → t.location ≡ s.location → IfRows s.location (rows initial is t)

then-begins : (initial : Rules) (is : List Instruction) (s : State) (o : Option State) → Onward s is initial
    → Stays s.location o
    → IfRows s.location (then_rows o (rows initial is))
then-begins initial is s None f e = tt
then-begins initial is s (Some t) f e = f t e

step-begins : (initial : Rules) (i : Instruction) (is : List Instruction) (s : State) → Onward s is initial
    → IfRows s.location (rows initial (i ∷ is) s)
step-begins initial (Advance n) is s f = prepended-begins s.location s.known.cfa s.known.rules _
step-begins initial (SetLoc a) is s f = prepended-begins s.location s.known.cfa s.known.rules _
step-begins initial (DefCfa cfa) is s f = f _ refl
step-begins initial (DefCfaRegister r) is s f = then-begins initial is s
    (option_map (with_cfa s) (with_register r s.known.cfa)) f (cfa-stays s (with_register r s.known.cfa))
step-begins initial (DefCfaOffset n) is s f = then-begins initial is s
    (option_map (with_cfa s) (with_offset n s.known.cfa)) f (cfa-stays s (with_offset n s.known.cfa))
step-begins initial (SetRule r rule) is s f = f _ refl
step-begins initial (Restore r) is s f = f _ refl
step-begins initial RememberState is s f = f _ refl
step-begins initial RestoreState is s f = then-begins initial is s (take_back s s.saved) f (back-stays s s.saved)
step-begins initial Nop is s f = f _ refl

rows-begin : (initial : Rules) (is : List Instruction) (a : ℕ) (s : State) → s.location ≡ a → IfRows a (rows initial is s)
rows-begin initial [] a s e = subst (λ (n : ℕ). IfRows n (rows initial [] s)) e
    (prepended-begins s.location s.known.cfa s.known.rules (Some []))
rows-begin initial (i ∷ is) a s e =
    subst (λ (n : ℕ). IfRows n (rows initial (i ∷ is) s)) e
    (step-begins initial i is s (λ t same. rows-begin initial is s.location t same))

abbrev pub Begins : Fde → Type 0
Begins f = BeginsAt f.start f.rows

fde-rows : (a : ℕ) (o : Option (List PlacedRow)) (f : List PlacedRow → Result Fde Malformed) → IfRows a o
    → ((rs : List PlacedRow) → BeginsAt a rs → IfFde Begins (f rs)) → IfFde Begins (and_so (sound_if o) f)
fde-rows a None f b h = tt
fde-rows a (Some rs) f b h = h rs b

fde-begins : (cie : Cie) (end : ℕ) (e : RawEntry) → IfFde Begins (fde_at cie end e)
fde-begins cie end e = fde-read Begins cie end e (λ start size table is.
    fde-rows start (rows cie.known.rules is (begins start cie.known)) (fde_made cie e.place start size table is)
    (rows-begin cie.known.rules is start (begins start cie.known) refl) (λ rs r. r))

pub frames-begin : (debug : Bool) (address : ℕ) (table : List ℕ) → All Begins (frames debug address table).list
frames-begin debug address table = all-read Begins debug address table (λ e.
    fde-so Begins (cie_in debug address (walked_entries debug table).entries (cie_place debug e))
    (λ cie. fde_at cie (end_of address e) e) (λ cie. fde-begins cie (end_of address e) e))

-- an entry has a row at each address from its start on

some-row : (a : ℕ) (rs : List PlacedRow) (found : RowValue) → IsSome (row_at a rs (Some found))
some-row a [] found = refl
some-row a (r ∷ rs) found = one (leb r.start a) (some-row a rs r.row) (some-row a rs found) where
  one : (b : Bool) → IsSome (row_at a rs (Some r.row)) → IsSome (row_at a rs (Some found))
      → IsSome (row_at a rs (cond b (Some r.row) (Some found)))
  one true x y = x
  one false x y = y

pub row-there : (f : Fde) (a : ℕ) → Begins f → f.start ≤ a → IsSome (row_at a f.rows None)
row-there f a b h = first f.rows b where
  test : (x y : ℕ) → x ≡ y → y ≤ a → leb x a ≡ true
  test x y e l = grind (arith, nat_tests)

  first : (rs : List PlacedRow) → BeginsAt f.start rs → IsSome (row_at a rs None)
  first [] e = absurd e
  first (r ∷ rs) e =
      let t : leb r.start a ≡ true = test r.start f.start e h in
      rw t (some-row a rs r.row)

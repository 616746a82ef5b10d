-- Programs that stop: an instruction is malformed, or a row has no frame address.
use Rattle.std.proofs.Common.{◌≡◌, ◌∙◌, ◌+◌, ◌<◌, ◌≤◌, ℕ, Bool, true, false, List, [], ◌∷◌, drop, length, map, get_or, Option, Some, None}
use Rattle.std.proofs.Common.{option_map, refl, sym, ap}
use Rattle.std.proofs.lemmas.List.{drop_more}
use Rattle.std.specs.Rc.{rc_value}
use Rattle.cfi_rows.specs.declared.cie_program.CieProgram.{CieProgram}
use Rattle.cfi_rows.specs.declared.program.Program.{Program}
use Rattle.cfi_rows.specs.declared.instruction.Instruction.{Instruction}
use Rattle.cfi_rows.specs.FrameRows.{Known, State, RowValue, PlacedRow, begins, step, prepended, row_of, and_rows, then_rows, rows}
use Rattle.cfi_rows.specs.FrameRows.{ends_row, known_after}
use Rattle.cfi_rows.specs.FramePrograms.{rows_of}
use Rattle.cfi_rows.specs.RuleEntries.{Ascend}
use Rattle.cfi_rows.specs.RowMachines.{known_of}
use Rattle.cfi_rows.specs.RowHistories.{before, row_over}
use Rattle.cfi_rows.proofs.OverRules.{rows-over}
use Rattle.cfi_rows.proofs.RowLists.{rows-end}

none-before : (a : ℕ) (o : Option RowValue) → prepended a o None ≡ None
none-before a None = refl
none-before a (Some row) = refl

none-and : (b : Bool) (s : State) → and_rows b s None ≡ None
none-and true s = none-before s.location (row_of s.known)
none-and false s = refl

-- at a malformed instruction
pub malformed : (i : Instruction) (s : State) (is : List Instruction) → step [] i s ≡ None → rows [] (i ∷ is) s ≡ None
malformed i s is e = ap (λ o. and_rows (ends_row i) s (then_rows o (rows [] is))) e ∙ none-and (ends_row i) s

pub stops : (is : List Instruction) (k : ℕ) (i : Instruction) (s : State) (told : List PlacedRow) (all : Option (List PlacedRow)) →
    k < length is → get_or is k i ≡ i → all ≡ before told (rows [] (drop k is) s) →
    ((more : List Instruction) → rows [] (i ∷ more) s ≡ None) → all ≡ None
stops is k i s told all l g e h =
    e ∙ ap (λ xs. before told (rows [] xs s)) (drop_more is k i l ∙ ap (λ (x : Instruction). x ∷ drop (k + 1) is) g)
    ∙ ap (before told) (h (drop (k + 1) is))

-- at the last row
pub stops-last : (is : List Instruction) (k : ℕ) (s : State) (told : List PlacedRow) (all : Option (List PlacedRow)) → length is ≤ k →
    all ≡ before told (rows [] (drop k is) s) →
    ((more : Option (List PlacedRow)) → prepended s.location (row_of s.known) more ≡ None) → all ≡ None
stops-last is k s told all l e h = e ∙ ap (before told) (rows-end is k s l ∙ h (Some []))

run-over : (known : Known) (start : ℕ) (is : List Instruction) → Ascend 0 known.rules →
    rows [] is (begins start (record { cfa = known.cfa; rules = [] })) ≡ None → rows known.rules is (begins start known) ≡ None
run-over known start is a e =
    rows-over known.rules is (begins start (record { cfa = known.cfa; rules = [] })) a (record { known = tt; saved = tt })
    ∙ ap (option_map (map (row_over known.rules))) e

pub run-stops : (p : Program) (read : CieProgram) → read ≡ rc_value p.initial → Ascend 0 read.known.rules →
    rows [] p.instructions.items (begins p.start (record { cfa = (known_of read.known).cfa; rules = [] })) ≡ None → rows_of p ≡ None
run-stops p read e a h =
    ap (λ (x : CieProgram). rows (known_of x.known).rules p.instructions.items (begins p.start (known_of x.known))) (sym e)
    ∙ run-over (known_of read.known) p.start p.instructions.items a h

-- nothing is known after a malformed instruction
unknown-rest : (is : List Instruction) → known_after is None ≡ None
unknown-rest [] = refl
unknown-rest (i ∷ is) = refl

pub unknown-at : (is : List Instruction) (k : ℕ) (i : Instruction) (s : State) (all : Option Known) → k < length is → get_or is k i ≡ i →
    all ≡ known_after (drop k is) (Some s) → step [] i s ≡ None → all ≡ None
unknown-at is k i s all l g e h =
    e ∙ ap (λ xs. known_after xs (Some s)) (drop_more is k i l ∙ ap (λ (x : Instruction). x ∷ drop (k + 1) is) g)
    ∙ ap (known_after (drop (k + 1) is)) h ∙ unknown-rest (drop (k + 1) is)

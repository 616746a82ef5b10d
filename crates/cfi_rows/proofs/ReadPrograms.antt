-- CIEs and FDEs that are read for their rows.
use Rattle.std.proofs.Common.{◌≡◌, ◌∙◌, ℕ, List, Result, Ok, Err, Option, Some, None, refl, sym, ap, subst}
use Rattle.std.specs.Prelude.{IfOk}
use Rattle.table_core.specs.ReadSteps.{and_so}
use Rattle.std.specs.Rc.{rc_value}
use Rattle.cfi_rows.specs.declared.fde.FdeHead.{FdeHead}
use Rattle.cfi_rows.specs.declared.instruction.Instruction.{Instruction}
use Rattle.cfi_rows.specs.declared.instruction.Malformed.{Malformed}
use Rattle.cfi_rows.specs.declared.instruction.Malformed.TheVariants.{Entry}
use Rattle.cfi_rows.specs.declared.cie_program.CieProgram.{CieProgram}
use Rattle.cfi_rows.specs.declared.program.Program.{Program}
use Rattle.cfi_rows.specs.FrameInstructions.{instructions_at}
use Rattle.cfi_rows.specs.FrameRows.{Known, PlacedRow, begins, rows}
use Rattle.cfi_rows.specs.Heads.{head_of}
use Rattle.cfi_rows.specs.Entries.{Head, Cie, Fde, RawEntry, head_context, fde_at, fde_made, fde_context, sound_if}
use Rattle.cfi_rows.specs.FdeHeads.{fde_head_at}
use Rattle.cfi_rows.specs.RowMachines.{known_of}
use Rattle.cfi_rows.specs.FramePrograms.{IsCieProgram, IsProgram, rows_of}
use Rattle.cfi_rows.proofs.FdeParts as fde

-- a CIE's own context is the context of its kept part
context-same : (k : CieProgram) (c : Cie) (end : ℕ) → IsCieProgram k c →
    head_context end (head_of k.head) ≡ fde_context c end
context-same k c end h = ap (head_context end) (sym h.head)

head-same : (k : CieProgram) (c : Cie) (end : ℕ) (e : RawEntry) → IsCieProgram k c →
    fde_head_at c.augmentation end e.body ≡ fde_head_at (head_of k.head).augmentation end e.body
head-same k c end e kept = ap (λ (x : Head). fde_head_at x.augmentation end e.body) kept.head

pub no-head : (k : CieProgram) (c : Cie) (end : ℕ) (e : RawEntry) → IsCieProgram k c →
    fde_head_at (head_of k.head).augmentation end e.body ≡ Err Entry → fde_at c end e ≡ Err Entry
no-head k c end e kept f = fde.no-head c end e (head-same k c end e kept ∙ f)

pub no-list : (k : CieProgram) (c : Cie) (end : ℕ) (e : RawEntry) (h : FdeHead) (rest : List ℕ) → IsCieProgram k c →
    fde_head_at (head_of k.head).augmentation end e.body ≡ Ok (h, rest) →
    instructions_at (head_context end (head_of k.head)) rest ≡ Err Entry → fde_at c end e ≡ Err Entry
no-list k c end e h rest kept f g =
    fde.no-instructions c end e h rest (head-same k c end e kept ∙ f)
    (ap (λ x. instructions_at x rest) (sym (context-same k c end kept)) ∙ g)

made : (c : Cie) (p : Program) (place start size table : ℕ) (is : List Instruction) (o : Option (List PlacedRow)) →
    start ≡ p.start → rows_of p ≡ o →
    IfOk (and_so (sound_if o) (fde_made c place start size table is)) (IsProgram p)
made c p place start size table is None e f = tt
made c p place start size table is (Some rs) e f = record { start = e; rows = f }

rows-same : (k : CieProgram) (c : Cie) (h : FdeHead) (is : List Instruction) (p : Program) → IsCieProgram k c →
    known_of (rc_value p.initial).known ≡ known_of k.known →
    h.start ≡ p.start → is ≡ p.instructions.items → rows_of p ≡ rows c.known.rules is (begins h.start c.known)
rows-same k c h is p kept same e f =
    ap (λ (x : Known). rows x.rules p.instructions.items (begins p.start x)) (same ∙ sym kept.known)
    ∙ ap (λ n. rows c.known.rules p.instructions.items (begins n c.known)) (sym e)
    ∙ ap (λ xs. rows c.known.rules xs (begins h.start c.known)) (sym f)

pub fde-made : (k : CieProgram) (c : Cie) (end : ℕ) (e : RawEntry) (h : FdeHead) (rest : List ℕ) (is : List Instruction) (p : Program) →
    IsCieProgram k c → fde_head_at (head_of k.head).augmentation end e.body ≡ Ok (h, rest) →
    instructions_at (head_context end (head_of k.head)) rest ≡ Ok is → known_of (rc_value p.initial).known ≡ known_of k.known →
    h.start ≡ p.start → is ≡ p.instructions.items → IfOk (fde_at c end e) (IsProgram p)
fde-made k c end e h rest is p kept f g same s l =
    let f2 : fde_head_at c.augmentation end e.body ≡ Ok (h, rest) = head-same k c end e kept ∙ f in
    let g2 : instructions_at (fde_context c end) rest ≡ Ok is = ap (λ x. instructions_at x rest) (sym (context-same k c end kept)) ∙ g in
    subst (λ (r : Result Fde Malformed). IfOk r (IsProgram p))
    (sym (fde.with-list c end e h rest is f2 g2
    ∙ ap (λ o. and_so (sound_if o) (fde_made c e.place h.start h.size h.table is)) (sym (rows-same k c h is p kept same s l))))
    (made c p e.place h.start h.size h.table is (rows_of p) s refl)

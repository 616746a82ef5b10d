-- A CIE by its parts.
use Rattle.std.proofs.Common.{◌≡◌, ◌∙◌, ℕ, List, Ok, Err, Some, None, refl, ap}
use Rattle.std.specs.Prelude.{IsOkAnd, flat_map, sum_by, length}
use Rattle.rb_bytes.proofs.Results.{ok_when}
use Rattle.answer_runs.specs.Weights.{distinct}
use Rattle.table_core.specs.ReadSteps.{and_so}
use Rattle.cfi_rows.specs.declared.kept_cie.Cie.{Cie as Kept}
use Rattle.cfi_rows.specs.declared.instruction.Instruction.{Instruction}
use Rattle.cfi_rows.specs.declared.instruction.Malformed.TheVariants.{Entry}
use Rattle.cfi_rows.specs.FrameInstructions.{instructions_at}
use Rattle.cfi_rows.specs.FrameRows.{known_after, begins, nothing_known}
use Rattle.cfi_rows.specs.Heads.{head_of}
use Rattle.cfi_rows.specs.EntryCounts.{registers_set, bytes_in}
use Rattle.cfi_rows.specs.Outlines.{frame_after}
use Rattle.cfi_rows.specs.RegisterSets.{AreIn}
use Rattle.cfi_rows.specs.Entries.{Head, cie_at, cie_by, cie_after, cie_made, head_at, head_context, sound_if}
use Rattle.cfi_rows.specs.KeptCies.{cie_of, IsKeptCie}
use Rattle.cfi_rows.proofs.Outlining.{KnownFrame, known-frame, unknown}

abbrev head_kept : Kept → Head
head_kept k = head_of k.head

head-only : (end : ℕ) (body rest : List ℕ) (h : Head) → head_at end body ≡ Ok (h, rest) →
    cie_at end body ≡ and_so (instructions_at (head_context end h) rest) (cie_after h)
head-only end body rest h e = ap (λ r. and_so r (cie_by end)) e

pub with-list : (end : ℕ) (body rest : List ℕ) (h : Head) (is : List Instruction) → head_at end body ≡ Ok (h, rest) →
    instructions_at (head_context end h) rest ≡ Ok is → cie_at end body ≡ cie_after h is
with-list end body rest h is e f = head-only end body rest h e ∙ ap (λ r. and_so r (cie_after h)) f

pub no-known : (end : ℕ) (body rest : List ℕ) (h : Head) (is : List Instruction) → head_at end body ≡ Ok (h, rest) →
    instructions_at (head_context end h) rest ≡ Ok is → known_after is (Some (begins 0 nothing_known)) ≡ None → cie_at end body ≡ Err Entry
no-known end body rest h is e f n = with-list end body rest h is e f ∙ ap (λ o. and_so (sound_if o) (cie_made h is)) n

pub no-frame : (end : ℕ) (body rest : List ℕ) (h : Head) (is : List Instruction) → head_at end body ≡ Ok (h, rest) →
    instructions_at (head_context end h) rest ≡ Ok is → frame_after is ≡ None → cie_at end body ≡ Err Entry
no-frame end body rest h is e f n = no-known end body rest h is e f (unknown is n)

by-known : (end : ℕ) (body rest : List ℕ) (k : Kept) (is : List Instruction) → head_at end body ≡ Ok (head_kept k, rest) →
    instructions_at (head_context end (head_kept k)) rest ≡ Ok is → KnownFrame is k.frame →
    AreIn (flat_map registers_set is) k.registers.set → length (distinct (flat_map registers_set is)) ≡ k.registers.count →
    sum_by bytes_in is ≡ k.bytes → IsOkAnd (cie_at end body) (IsKeptCie k)
by-known end body rest k is e f n r c b =
    ok_when (IsKeptCie k) (cie_at end body) (cie_of k is n.known)
    (with-list end body rest (head_kept k) is e f ∙ ap (λ o. and_so (sound_if o) (cie_made (head_kept k) is)) n.known_is)
    (record { same = refl; kept = record { frame = n.kind; registers = r; count = c; bytes = b } })

pub made : (end : ℕ) (body rest : List ℕ) (k : Kept) (is : List Instruction) → head_at end body ≡ Ok (head_kept k, rest) →
    instructions_at (head_context end (head_kept k)) rest ≡ Ok is → frame_after is ≡ Some k.frame →
    AreIn (flat_map registers_set is) k.registers.set → length (distinct (flat_map registers_set is)) ≡ k.registers.count →
    sum_by bytes_in is ≡ k.bytes → IsOkAnd (cie_at end body) (IsKeptCie k)
made end body rest k is e f n = by-known end body rest k is e f (known-frame is k.frame n)

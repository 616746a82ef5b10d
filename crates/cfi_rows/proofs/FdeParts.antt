-- An FDE by its parts.
use Rattle.std.proofs.Common.{◌≡◌, ◌∙◌, ◌+◌, ◌++◌, ◌^◌, ℕ, Bool, true, false, cond, List, [], Result, Ok, Err, Option, Some, None, refl}
use Rattle.std.proofs.Common.{sym, ap, subst, arith}
use Rattle.std.specs.Prelude.{IsOkAnd, flat_map, sum_by, length, nat_lt}
use Rattle.std.proofs.lemmas.List.Sums.{sum_by-append}
use Rattle.std.proofs.lemmas.List.Concat.{flat_map-append}
use Rattle.rb_bytes.specs.Readers.{and_then}
use Rattle.rb_bytes.proofs.Results.{ok_when}
use Rattle.answer_runs.specs.Weights.{distinct}
use Rattle.table_core.specs.ReadSteps.{and_so}
use Rattle.cfi_rows.specs.declared.kept_cie.Cie.{Cie as Kept}
use Rattle.cfi_rows.specs.declared.registers.Registers.{Registers}
use Rattle.cfi_rows.specs.declared.fde.FdeHead.{FdeHead}
use Rattle.cfi_rows.specs.declared.frame_table.Fde.{Fde as ReadFde}
use Rattle.cfi_rows.specs.declared.instruction.Instruction.{Instruction}
use Rattle.cfi_rows.specs.declared.instruction.Malformed.{Malformed}
use Rattle.cfi_rows.specs.declared.instruction.Malformed.TheVariants.{Entry}
use Rattle.cfi_rows.specs.declared.outline.FrameKind.{FrameKind}
use Rattle.cfi_rows.specs.FrameInstructions.{Read, instructions_at, pointer_at, stored_at}
use Rattle.cfi_rows.specs.FrameRows.{Known, rows, begins}
use Rattle.cfi_rows.specs.EntryCounts.{registers_set, bytes_in}
use Rattle.cfi_rows.specs.Outlines.{outline_rows, kind_of}
use Rattle.cfi_rows.specs.RegisterSets.{AreIn, AreCounted}
use Rattle.cfi_rows.specs.ReadEntries.{fde_of}
use Rattle.cfi_rows.specs.Entries.{Cie, Fde, RawEntry, fde_at, fde_sized, fde_from, fde_by, fde_after, fde_made, fde_context}
use Rattle.cfi_rows.specs.Entries.{size_encoding, table_at, sound_if}
use Rattle.cfi_rows.specs.FdeHeads.{fde_head_at, head_sized, head_from, head_by}
use Rattle.cfi_rows.specs.KeptCies.{cie_of, IsKept}
use Rattle.cfi_rows.proofs.Outlining.{CountedRows, counted-rows, no-rows}

-- the FDE that the fields make
abbrev from_head : Cie → ℕ → ℕ → FdeHead → List ℕ → Result Fde Malformed
from_head cie end place h rest = fde_by cie end place h.start h.size h.table rest

by-table : (cie : Cie) (end place start size : ℕ) (r : Read ℕ) →
    and_then r (fde_by cie end place start size) ≡ and_then (and_then r (head_by start size)) (from_head cie end place)
by-table cie end place start size (Ok read) = refl
by-table cie end place start size (Err e) = refl

by-test : (cie : Cie) (end place start size : ℕ) (b : Bool) (r : Read ℕ) →
    cond b (and_then r (fde_by cie end place start size)) (Err Entry) ≡
    and_then (cond b (and_then r (head_by start size)) (Err Entry)) (from_head cie end place)
by-test cie end place start size true r = by-table cie end place start size r
by-test cie end place start size false r = refl

by-size : (cie : Cie) (end place start : ℕ) (r : Read ℕ) →
    and_then r (fde_from cie end place start) ≡ and_then (and_then r (head_from cie.augmentation end start)) (from_head cie end place)
by-size cie end place start (Ok read) =
    by-test cie end place start read.0 (nat_lt (start + read.0) (2 ^ 64)) (table_at cie.augmentation end read.1)
by-size cie end place start (Err e) = refl

by-start : (cie : Cie) (end place : ℕ) (r : Read ℕ) →
    and_then r (fde_sized cie end place) ≡ and_then (and_then r (head_sized cie.augmentation end)) (from_head cie end place)
by-start cie end place (Ok read) = by-size cie end place read.0 (stored_at (size_encoding cie.augmentation.encoding) read.1)
by-start cie end place (Err e) = refl

split : (cie : Cie) (end : ℕ) (e : RawEntry) → fde_at cie end e ≡ and_then (fde_head_at cie.augmentation end e.body)
    (from_head cie end e.place)
split cie end e = by-start cie end e.place (pointer_at cie.augmentation.encoding end e.body)

with-head : (cie : Cie) (end : ℕ) (e : RawEntry) (h : FdeHead) (rest : List ℕ) → fde_head_at cie.augmentation end e.body ≡ Ok (h, rest) →
    fde_at cie end e ≡ and_so (instructions_at (fde_context cie end) rest) (fde_after cie e.place h.start h.size h.table)
with-head cie end e h rest f = split cie end e ∙ ap (λ r. and_then r (from_head cie end e.place)) f

pub no-head : (cie : Cie) (end : ℕ) (e : RawEntry) → fde_head_at cie.augmentation end e.body ≡ Err Entry → fde_at cie end e ≡ Err Entry
no-head cie end e f = split cie end e ∙ ap (λ r. and_then r (from_head cie end e.place)) f

pub no-instructions : (cie : Cie) (end : ℕ) (e : RawEntry) (h : FdeHead) (rest : List ℕ) →
    fde_head_at cie.augmentation end e.body ≡ Ok (h, rest) →
    instructions_at (fde_context cie end) rest ≡ Err Entry → fde_at cie end e ≡ Err Entry
no-instructions cie end e h rest f g = with-head cie end e h rest f ∙ ap (λ r. and_so r (fde_after cie e.place h.start h.size h.table)) g

pub with-list : (cie : Cie) (end : ℕ) (e : RawEntry) (h : FdeHead) (rest : List ℕ) (is : List Instruction) →
    fde_head_at cie.augmentation end e.body ≡ Ok (h, rest) → instructions_at (fde_context cie end) rest ≡ Ok is →
    fde_at cie end e ≡ and_so (sound_if (rows cie.known.rules is (begins h.start cie.known)))
    (fde_made cie e.place h.start h.size h.table is)
with-list cie end e h rest is f g = with-head cie end e h rest f ∙ ap (λ r. and_so r (fde_after cie e.place h.start h.size h.table)) g

-- rows by the kind that is kept
of-kind : (is : List Instruction) (start : ℕ) (k j : FrameKind) (o : Option ℕ) → k ≡ j →
    outline_rows is (record { location = start; frame = j; saved = [] }) ≡ o →
    outline_rows is (record { location = start; frame = k; saved = [] }) ≡ o
of-kind is start k j o e f = ap (λ (x : FrameKind). outline_rows is (record { location = start; frame = x; saved = [] })) e ∙ f

pub unsound : (k : Kept) (own : List Instruction) (known : Known) (end : ℕ) (e : RawEntry) (h : FdeHead) (rest : List ℕ)
    (is : List Instruction) →
    IsKept k own known → fde_head_at (cie_of k own known).augmentation end e.body ≡ Ok (h, rest) →
    instructions_at (fde_context (cie_of k own known) end) rest ≡ Ok is →
    outline_rows is (record { location = h.start; frame = k.frame; saved = [] }) ≡ None → fde_at (cie_of k own known) end e ≡ Err Entry
unsound k own known end e h rest is kept f g n =
    with-list (cie_of k own known) end e h rest is f g
    ∙ ap (λ o. and_so (sound_if o) (fde_made (cie_of k own known) e.place h.start h.size h.table is))
    (no-rows known.rules is (begins h.start known) (of-kind is h.start (kind_of known.cfa) k.frame None kept.frame n))

register-sum : (k : Kept) (own is : List Instruction) (known : Known) (r : Registers) → IsKept k own known →
    ((xs : List ℕ) → AreIn xs k.registers.set → AreCounted xs (flat_map registers_set is) k.registers.set r) →
    k.registers.count + r.count ≡ length (distinct (flat_map registers_set (own ++ is)))
register-sum k own is known r kept h =
    let counted = (h (flat_map registers_set own) kept.registers).count in
    let first = kept.count in
    let all : length (distinct (flat_map registers_set (own ++ is))) ≡ length
    (distinct (flat_map registers_set own ++ flat_map registers_set is)) =
    ap (λ xs. length (distinct xs)) (flat_map-append registers_set own is) in
    omega arith

byte-sum : (k : Kept) (own is : List Instruction) (known : Known) (n : ℕ) → IsKept k own known → n ≡ sum_by bytes_in is →
    n + k.bytes ≡ sum_by bytes_in (own ++ is)
byte-sum k own is known n kept e =
    let all = sum_by-append bytes_in own is in let first = kept.bytes in omega arith

-- the entry as it is answered
abbrev entry_of : Kept → RawEntry → FdeHead → ℕ → ℕ → ℕ → ReadFde
entry_of k e h rows registers bytes =
    record {
      place = e.place;
      start = h.start;
      end = h.start + h.size;
      handler = k.head.augmentation.handler;
      indirect = k.head.augmentation.indirect;
      table = h.table;
      signal = k.head.augmentation.signal;
      ra = k.head.ra;
      rows = rows;
      registers = registers;
      bytes = bytes;
    }

by-rows : (k : Kept) (own : List Instruction) (known : Known) (end : ℕ) (e : RawEntry) (h : FdeHead) (rest : List ℕ)
    (is : List Instruction)
    (n : ℕ) (r : Registers) (b : ℕ) → IsKept k own known → fde_head_at (cie_of k own known).augmentation end e.body ≡ Ok (h, rest) →
    instructions_at (fde_context (cie_of k own known) end) rest ≡ Ok is → CountedRows known.rules is (begins h.start known) n →
    ((xs : List ℕ) → AreIn xs k.registers.set → AreCounted xs (flat_map registers_set is) k.registers.set r) → b ≡ sum_by bytes_in is →
    IsOkAnd (fde_at (cie_of k own known) end e) (λ x. entry_of k e h n (k.registers.count + r.count) (b + k.bytes) ≡ fde_of x)
by-rows k own known end e h rest is n r b kept f g rs counted sum =
    ok_when (λ x. entry_of k e h n (k.registers.count + r.count) (b + k.bytes) ≡ fde_of x) (fde_at (cie_of k own known) end e)
    (record {
      place = e.place;
      start = h.start;
      end = h.start + h.size;
      table = h.table;
      cie = cie_of k own known;
      instructions = is;
      rows
          = rs.list;
    })
    (with-list (cie_of k own known) end e h rest is f g
    ∙ ap (λ o. and_so (sound_if o) (fde_made (cie_of k own known) e.place h.start h.size h.table is)) rs.rows_are)
    (λ i. entry_of k e h (sym rs.count i) (register-sum k own is known r kept counted i) (byte-sum k own is known b kept sum i))

pub made : (k : Kept) (own : List Instruction) (known : Known) (end : ℕ) (e : RawEntry) (h : FdeHead) (rest : List ℕ)
    (is : List Instruction)
    (n : ℕ) (r : Registers) (b : ℕ) → IsKept k own known → fde_head_at (cie_of k own known).augmentation end e.body ≡ Ok (h, rest) →
    instructions_at (fde_context (cie_of k own known) end) rest ≡ Ok is →
    outline_rows is (record { location = h.start; frame = k.frame; saved = [] }) ≡ Some n →
    ((xs : List ℕ) → AreIn xs k.registers.set → AreCounted xs (flat_map registers_set is) k.registers.set r) → b ≡ sum_by bytes_in is →
    IsOkAnd (fde_at (cie_of k own known) end e) (λ x. entry_of k e h n (k.registers.count + r.count) (b + k.bytes) ≡ fde_of x)
made k own known end e h rest is n r b kept f g o =
    by-rows k own known end e h rest is n r b kept f g
    (counted-rows known.rules is (begins h.start known) n (of-kind is h.start (kind_of known.cfa) k.frame (Some n) kept.frame o))

-- with its fields as they are computed
pub made-as : (k : Kept) (own : List Instruction) (known : Known) (end : ℕ) (e : RawEntry) (h : FdeHead) (rest : List ℕ)
    (is : List Instruction)
    (n : ℕ) (r : Registers) (b place regs total : ℕ) → IsKept k own known →
    fde_head_at (cie_of k own known).augmentation end e.body ≡ Ok (h, rest) →
    instructions_at (fde_context (cie_of k own known) end) rest ≡ Ok is →
    outline_rows is (record { location = h.start; frame = k.frame; saved = [] }) ≡ Some n →
    ((xs : List ℕ) → AreIn xs k.registers.set → AreCounted xs (flat_map registers_set is) k.registers.set r) → b ≡ sum_by bytes_in is →
    place ≡ e.place → regs ≡ k.registers.count + r.count → total ≡ b + k.bytes →
    IsOkAnd (fde_at (cie_of k own known) end e) (λ x. record {
      place = place;
      start = h.start;
      end = h.start + h.size;
      handler = k.head.augmentation.handler;
      indirect = k.head.augmentation.indirect;
      table = h.table;
      signal = k.head.augmentation.signal;
      ra = k.head.ra;
      rows = n;
      registers = regs;
      bytes = total;
    } ≡ fde_of x)
made-as k own known end e h rest is n r b place regs total kept f g o counted sum p q t =
    subst (λ (y : ReadFde). IsOkAnd (fde_at (cie_of k own known) end e) (λ x. y ≡ fde_of x))
    (λ i. record {
      place = sym p i;
      start = h.start;
      end = h.start + h.size;
      handler = k.head.augmentation.handler;
      indirect = k.head.augmentation.indirect;
      table = h.table;
      signal = k.head.augmentation.signal;
      ra = k.head.ra;
      rows = n;
      registers = sym q i;
      bytes = sym t i;
    })
    (made k own known end e h rest is n r b kept f g o counted sum)

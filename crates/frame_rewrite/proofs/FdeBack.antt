-- An FDE that is written is read back.
use Rattle.std.proofs.Common.{ℕ, zero, suc, ◌+◌, ◌-◌, ◌%◌, ◌^◌, ◌≤◌, ◌<◌, ◌≡◌, ◌==◌, List, [], ◌∷◌, ◌++◌, Some, Ok, cond, ltb, true, false, refl}
use Rattle.std.proofs.Common.{◌∙◌, sym, ap, arith, length, Bool, append_assoc, inl, inr}
use Rattle.std.specs.Prelude.{All, not}
use Rattle.std.proofs.lemmas.Bool.{cases_lt}
use Rattle.std.proofs.lemmas.Bool.Decides.{nat_tests}
use Rattle.byteorder.specs.Endian.{little_bytes}
use Rattle.rb_bytes.specs.Readers.{bytes_at, and_then}
use Rattle.answer_runs.specs.declared.run.Run.{Run}
use Rattle.table_core.specs.ReadSteps.{and_so}
use Rattle.addr_map.specs.declared.span.Span.{Span}
use Rattle.cfi_rows.specs.declared.encoding.Encoding.{Encoding}
use Rattle.cfi_rows.specs.declared.encoding.Encoding.TheVariants.{Absptr, PcrelSdata4}
use Rattle.cfi_rows.specs.declared.instruction.Instruction.{Instruction}
use Rattle.cfi_rows.specs.FrameRows.{PlacedRow, begins, rows}
use Rattle.cfi_rows.specs.FrameInstructions.{whole, Read, block_at, extended, stored_at, pointed, pointer_at, instructions_at}
use Rattle.cfi_rows.specs.Entries.{Augmentation, RawEntry, Cie, Fde, fde_at, size_encoding, table_at, table_by, fde_context, end_of}
use Rattle.frame_rewrite.specs.declared.cie_key.CieKey.{CieKey}
use Rattle.frame_rewrite.specs.declared.form.Form.{Form}
use Rattle.frame_rewrite.specs.declared.form.Form.TheVariants.{Debug, Loaded}
use Rattle.frame_rewrite.specs.FrameAnswers.{FrameAnswer}
use Rattle.frame_rewrite.specs.Index.{distance, distance_bytes}
use Rattle.frame_rewrite.specs.SpelledFits.{RangeFits, RowFits, Near}
use Rattle.frame_rewrite.specs.SpelledFrames.{is_debug, key_of, has_data, spelled_range, spelled_table, first_known, spelled_rows}
use Rattle.frame_rewrite.specs.SpelledFrames.{zeros, padding, start_of, last_end, fde_fields, fde_body}
use Rattle.frame_rewrite.proofs.NumbersBack.{number-back, bytes-back}
use Rattle.frame_rewrite.proofs.InstructionsBack.{program, program-back, nops}
use Rattle.frame_rewrite.proofs.RowsBack.{placed, Follow, rows-back}
use Rattle.frame_rewrite.proofs.CieBack.{cie_of, augmentation_of, encoding_of, table_of, small-uleb, plain-tabled}

abbrev pub fde_of : Form → List Span → CieKey → ℕ → Run FrameAnswer → List (Run FrameAnswer) → Fde
fde_of form spans k place r more =
    record {
      place = place;
      start = start_of spans r;
      end = last_end (r.start + r.len) more;
      table = r.answer.table;
      cie = cie_of (is_debug form) k;
      instructions = program (first_known r.answer.signal) (start_of spans r) r.answer.row more
          ++ nops (padding (is_debug form) (length (fde_fields form place spans r more)));
      rows = record { start = start_of spans r; row = r.answer.row } ∷ placed more;
    }

-- A table is read at the address that it was written for; `.debug_frame` at any.
abbrev pub IsAt : Form → (address : ℕ) → Type 0
IsAt Debug address = Unit {0}
IsAt (Loaded at) address = at ≡ address

-- The range

-- a distance leads from its place back to the address
extended-so : (p s : ℕ) → p < 2 ^ 31 → s < 2 ^ 31 → (p + extended (distance s p)) % 2 ^ 64 ≡ s
extended-so p s f g = elim (cases_lt s p) [
  | inl less ↦
      let d : distance s p ≡ s + 2 ^ 32 - p = omega arith in
      let t : ltb (distance s p) (2 ^ 31) ≡ false = grind (arith, nat_tests) in
      rw t (omega (arith, d))
  | inr more ↦
      let d : distance s p ≡ s - p = omega arith in
      let t : ltb (distance s p) (2 ^ 31) ≡ true = grind (arith, nat_tests) in
      rw t (omega (arith, d))
]

small-distance : (s p : ℕ) → distance s p < 256 ^ 4
small-distance s p = omega arith

record ReadsRange (encoding : Encoding) (end : ℕ) (body : List ℕ) (start size : ℕ) (rest : List ℕ) : Type 0 where
  behind : List ℕ
  start_is : pointer_at encoding end body ≡ Ok (start, behind)
  size_is : stored_at (size_encoding encoding) behind ≡ Ok (size, rest)

range-back : (form : Form) (end place start size : ℕ) (rest : List ℕ) → RangeFits form place start size → start < 2 ^ 64
    → size < 2 ^ 64 → ((at : ℕ) → form ≡ Loaded at → end ≡ at + place + 8 + length (spelled_range form place start size ++ rest))
    → ReadsRange (encoding_of (is_debug form)) end (spelled_range form place start size ++ rest) start size rest
range-back Debug end place start size rest f g h at = record {
  behind = little_bytes 8 size ++ rest;
  start_is =
      ap (λ (l : List ℕ). pointer_at Absptr end l) (append_assoc (little_bytes 8 start) (little_bytes 8 size) rest)
      ∙ ap (λ (x : Read ℕ). and_then x (λ stored rest. Ok (stored, rest)))
      (number-back 8 start (little_bytes 8 size ++ rest) (omega arith));
  size_is = number-back 8 size rest (omega arith);
}
range-back (Loaded at) end place start size rest f g h is =
    let from = at + place + 8 in
    let body = spelled_range (Loaded at) place start size ++ rest in
    let e : end - length body ≡ from = gone end from (length body) (is at refl) in
    record {
      behind = little_bytes 4 size ++ rest;
      start_is =
          ap (λ (x : Read ℕ). and_then x (λ stored rest. Ok (pointed PcrelSdata4 (end - length body) stored, rest)))
          (ap (λ (l : List ℕ). stored_at PcrelSdata4 l) (append_assoc (distance_bytes start from) (little_bytes 4 size) rest)
          ∙ ap (λ (x : Read ℕ). and_then x (λ n rest. Ok (extended n, rest)))
          (number-back 4 (distance start from) (little_bytes 4 size ++ rest) (small-distance start from)))
          ∙ ap (λ (n : ℕ). the_read ((n + extended (distance start from)) % 2 ^ 64)) e
          ∙ ap the_read (extended-so from start f.0 f.1);
      size_is =
          ap (λ (x : Read ℕ). and_then x (λ n rest. Ok (extended n, rest))) (number-back 4 size rest (omega (arith, f.2)))
          ∙ ap the_size (same size f.2);
    } where
      gone : (end from n : ℕ) → end ≡ from + n → end - n ≡ from
      gone end from n e = omega arith

      the_read : ℕ → Read ℕ
      the_read n = Ok (n, little_bytes 4 size ++ rest)

      the_size : ℕ → Read ℕ
      the_size n = Ok (n, rest)

      same : (n : ℕ) → n < 2 ^ 31 → extended n ≡ n
      same n h = let t : ltb n (2 ^ 31) ≡ true = grind (arith, nat_tests) in rw t refl

-- The exception table

table-kept : (t : ℕ) → cond (t == 0) 0 t ≡ t
table-kept zero = refl
table-kept (suc t) = let z : (suc t == 0) ≡ false = grind (arith, nat_tests) in rw z refl

-- augmentation data of an FDE
table-full : (a : Augmentation) (end t : ℕ) (rest : List ℕ) → a.has_data ≡ true → a.table ≡ Some Absptr → t < 2 ^ 64
    → table_at a end (8 ∷ (little_bytes 8 t ++ rest)) ≡ Ok (t, rest)
table-full a end t rest has is f =
    let d : block_at (8 ∷ (little_bytes 8 t ++ rest)) ≡ Ok (little_bytes 8 t, rest) =
    ap (λ (r : Read ℕ). and_then r (λ n more. whole (bytes_at n more)))
    (small-uleb 8 (little_bytes 8 t ++ rest) (omega arith)) ∙ bytes-back (little_bytes 8 t) rest in
    rw (has, is) (ap (λ (r : Read (List ℕ)). and_then r (λ bytes more. and_so (table_by (Some Absptr) (end - length more)
    bytes) (λ x. Ok (x, more)))) d
    ∙ ap (λ (r : Read ℕ). and_so (and_so r (λ read. Ok (cond (read.0 == 0) 0 read.0))) (λ x. Ok (x, rest)))
    (number-back 8 t [] (omega arith))
    ∙ ap (λ (x : ℕ). the_read x rest) (table-kept t)) where
      the_read : ℕ → List ℕ → Read ℕ
      the_read x rest = Ok (x, rest)

table-empty : (end : ℕ) (rest : List ℕ) → block_at (0 ∷ rest) ≡ Ok ([], rest)
table-empty end rest = ap (λ (r : Read ℕ). and_then r (λ n more. whole (bytes_at n more)))
    (small-uleb 0 rest (omega arith)) ∙ bytes-back [] rest

table-back : (debug : Bool) (k : CieKey) (end t : ℕ) (rest : List ℕ) → k.tabled ≡ not (t == 0) → t < 2 ^ 64
    → table_at (augmentation_of debug k) end (spelled_table (has_data debug k) k.tabled t ++ rest) ≡ Ok (t, rest)
table-back debug k end t rest said f = by (has_data debug k) k.tabled refl refl where
  none : (t : ℕ) → false ≡ not (t == 0) → 0 ≡ t
  none zero e = refl
  none (suc t) e = absurd (grind (arith, nat_tests))

  the_read : ℕ → Read ℕ
  the_read x = Ok (x, rest)

  augmentation : (b tabled : Bool) → Augmentation
  augmentation b tabled = record {
    has_data = b;
    encoding = encoding_of debug;
    table = table_of tabled;
    handler = k.handler;
    indirect = k.indirect;
    signal = k.signal;
  }

  by : (b tabled : Bool) → has_data debug k ≡ b → k.tabled ≡ tabled → table_at (record {
    has_data = b;
    encoding = encoding_of debug;
    table = table_of tabled;
    handler = k.handler;
    indirect = k.indirect;
    signal = k.signal;
  }) end (spelled_table b tabled t ++ rest) ≡ Ok (t, rest)
  by true true e h = table-full (augmentation true true) end t rest refl refl f
  by true false e h =
      ap (λ (r : Read (List ℕ)). and_then r (λ bytes more. Ok (0, more))) (table-empty end rest)
      ∙ ap the_read (none t (sym h ∙ said))
  by false true e h = absurd (clash (plain-tabled debug k e ∙ h)) where
    clash : false ≡ true → ⊥
    clash e = cc
  by false false e h = ap the_read (none t (sym h ∙ said))

fde-read : (cie : Cie) (end : ℕ) (e : RawEntry) (s n to t : ℕ) (l1 l2 l3 : List ℕ) (is : List Instruction)
    (rs : List PlacedRow)
    → pointer_at cie.augmentation.encoding end e.body ≡ Ok (s, l1)
    → stored_at (size_encoding cie.augmentation.encoding) l1 ≡ Ok (n, l2) → s + n ≡ to → to < 2 ^ 64
    → table_at cie.augmentation end l2 ≡ Ok (t, l3) → instructions_at (fde_context cie end) l3 ≡ Ok is
    → rows cie.known.rules is (begins s cie.known) ≡ Some rs
    → fde_at cie end e ≡ Ok (record {
      place = e.place;
      start = s;
      end = to;
      table = t;
      cie = cie;
      instructions = is;
      rows = rs;
    })
fde-read cie end e s n to t l1 l2 l3 is rs a b sum h c i r =
    let f : ltb (s + n) (2 ^ 64) ≡ true = grind (arith, nat_tests) in
    rw (a, b, f, c, i, r, sum) refl

pub fde-back : (form : Form) (spans : List Span) (address place id : ℕ) (r : Run FrameAnswer) (more : List (Run FrameAnswer))
    → IsAt form address → start_of spans r ≤ last_end (r.start + r.len) more
    → last_end (r.start + r.len) more < 2 ^ 64
    → RangeFits form place (start_of spans r) (last_end (r.start + r.len) more - start_of spans r)
    → r.answer.table < 2 ^ 64 → RowFits r.answer.row
    → Follow (start_of spans r) more → Near (start_of spans r) more
    → All (λ (q : Run FrameAnswer). RowFits q.answer.row) more
    → fde_at (cie_of (is_debug form) (key_of spans r.answer))
    (end_of address (record { place = place; id = id; body = fde_body form place spans r more }))
    (record { place = place; id = id; body = fde_body form place spans r more })
    ≡ Ok (fde_of form spans (key_of spans r.answer) place r more)
fde-back form spans address place id r more here least h range t f follow near fit =
    let debug = is_debug form in
    let key = key_of spans r.answer in
    let start = start_of spans r in
    let size = last_end (r.start + r.len) more - start in
    let table = spelled_table (has_data debug key) key.tabled r.answer.table in
    let rows = spelled_rows (first_known r.answer.signal) start r.answer.row more in
    let pad = padding debug (length (fde_fields form place spans r more)) in
    let end = end_of address (record { place = place; id = id; body = fde_body form place spans r more }) in
    let rest = table ++ (rows ++ zeros pad) in
    let is : fde_body form place spans r more ≡ spelled_range form place start size ++ rest =
    parts (spelled_range form place start size) table rows (zeros pad) in
    let read = range-back form end place start size rest range (small _ _ least h) (small_size _ _ h)
    (ended form address place (fde_body form place spans r more) (spelled_range form place start size ++ rest) here is) in
    fde-read (cie_of debug key) end (record { place = place; id = id; body = fde_body form place spans r more })
    start size (last_end (r.start + r.len) more) r.answer.table read.behind rest (rows ++ zeros pad)
    (program (first_known r.answer.signal) start r.answer.row more ++ nops pad) _
    (ap (pointer_at (encoding_of debug) end) is ∙ read.start_is) read.size_is
    (sized _ _ least) h
    (table-back debug key end r.answer.table (rows ++ zeros pad) refl t)
    (program-back (encoding_of debug, end) pad (first_known r.answer.signal) start r.answer.row more refl f near fit)
    (rows-back start pad (first_known r.answer.signal) r.answer.row more tt f.rules follow) where
      small : (a b : ℕ) → a ≤ b → b < 2 ^ 64 → a < 2 ^ 64
      small a b l h = omega arith

      small_size : (a b : ℕ) → b < 2 ^ 64 → b - a < 2 ^ 64
      small_size a b h = omega arith

      sized : (a b : ℕ) → a ≤ b → a + (b - a) ≡ b
      sized a b l = omega arith

      parts : (a b c d : List ℕ) → (a ++ (b ++ c)) ++ d ≡ a ++ (b ++ (c ++ d))
      parts a b c d = simp append_assoc

      same : (a b : ℕ) → ◌≡◌ {A = Form} (Loaded a) (Loaded b) → a ≡ b
      same a b e = cc

      ended : (form : Form) (address place : ℕ) (body want : List ℕ) → IsAt form address → body ≡ want
          → (at : ℕ) → form ≡ Loaded at → address + place + 8 + length body ≡ at + place + 8 + length want
      ended Debug address place body want here e at is = absurd (cc)
      ended (Loaded a) address place body want here e at is =
          let l : length body ≡ length want = ap length e in
          let m : a ≡ at = same a at is in
          omega (arith, here, l, m)

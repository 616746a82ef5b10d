-- A CIE that is written is read back.
use Rattle.std.proofs.Common.{ℕ, zero, suc, pos, negsuc, subst, ◌+◌, ◌-◌, ◌^◌, ◌<◌, ◌≤◌, ◌≡◌, List, [], ◌∷◌, ◌++◌, Some, Result, Ok, ltb}
use Rattle.std.proofs.Common.{rules, Bool, true, false, refl, sym, ◌∙◌, ap, arith, length, drop, append_assoc, length-append}
use Rattle.std.proofs.lemmas.Bool.Decides.{nat_tests}
use Rattle.std.proofs.lemmas.List.{append-nil}
use Rattle.byteorder.specs.Endian.{little_bytes}
use Rattle.rb_bytes.specs.Readers.{bytes_at, text_at, and_then}
use Rattle.rb_bytes.specs.Leb.{uleb_at, sleb_at}
use Rattle.rb_bytes.proofs.UnsignedLeb.{IsShortestUleb-uleb, uleb-last}
use Rattle.rb_bytes.proofs.SignedLeb.{IsShortestSleb-sleb, sleb-last}
use Rattle.table_core.specs.ReadSteps.{and_so}
use Rattle.cfi_rows.specs.declared.instruction.Malformed.{Malformed}
use Rattle.cfi_rows.specs.declared.encoding.Encoding.{Encoding}
use Rattle.cfi_rows.specs.declared.encoding.Encoding.TheVariants.{Absptr, PcrelSdata4}
use Rattle.cfi_rows.specs.declared.row.Cfa.TheVariants.{Reg}
use Rattle.cfi_rows.specs.declared.instruction.Instruction.{Instruction}
use Rattle.cfi_rows.specs.declared.instruction.Instruction.TheVariants.{DefCfa}
use Rattle.cfi_rows.specs.FrameRows.{Known, nothing_known, known_after, begins}
use Rattle.cfi_rows.specs.FrameInstructions.{whole, Read, block_at, instructions_at}
use Rattle.std.specs.Prelude.{not, None, Option, ◌==◌, ◌||◌}
use Rattle.std.specs.List.{position_or_len}
use Rattle.cfi_rows.specs.Entries.{no_augmentation, Augmentation, with_data, with_handler, handler_at, letters_at}
use Rattle.cfi_rows.specs.Entries.{augmentation_at, Head, head_at, head_context, Cie, cie_at}
use Rattle.frame_rewrite.specs.declared.cie_key.CieKey.{CieKey}
use Rattle.frame_rewrite.specs.SpelledFits.{KeyFits}
use Rattle.frame_rewrite.specs.SpelledFrames.{bytes_if, has_handler, has_data, handler_encoding, cie_letters, letter_data, handler_data}
use Rattle.frame_rewrite.specs.SpelledFrames.{cie_text, cie_data, cie_code, cie_fields, cie_body, first_known, spelled_cfa, zeros}
use Rattle.frame_rewrite.proofs.Appends.{pos-false}
use Rattle.frame_rewrite.proofs.NumbersBack.{byte-back, number-back, bytes-back, length-zeros, drop-front, take-front, read_pair}
use Rattle.frame_rewrite.proofs.InstructionsBack.{Ending, plain, nops, nops-in, cfa-nops}

-- how addresses are encoded, and exception tables
abbrev pub encoding_of : (debug : Bool) → Encoding
encoding_of true = Absptr
encoding_of false = PcrelSdata4

abbrev pub table_of : (tabled : Bool) → Option Encoding
table_of true = Some Absptr
table_of false = None

abbrev pub augmentation_of : (debug : Bool) → CieKey → Augmentation
augmentation_of debug k = record {
  has_data = has_data debug k;
  encoding = encoding_of debug;
  table = table_of k.tabled;
  handler = k.handler;
  indirect = k.indirect;
  signal = k.signal;
}

-- the instructions of a CIE
abbrev pub first_list : (signal : Bool) → List Instruction
first_list false = DefCfa (Reg 2 (pos 0)) ∷ []
first_list true = []

abbrev pub cie_list : (debug : Bool) → CieKey → List Instruction
cie_list debug k = first_list k.signal ++ nops (24 - length (cie_fields debug k))

abbrev pub cie_of : (debug : Bool) → CieKey → Cie
cie_of debug k =
    record {
      code = 1;
      «data» = negsuc 0;
      ra = k.ra;
      augmentation = augmentation_of debug k;
      instructions = cie_list debug k;
      known = first_known k.signal;
    }

first-back : (end : Ending) (signal : Bool) (k : ℕ)
    → instructions_at (plain end) (cie_code signal ++ zeros k) ≡ Ok (first_list signal ++ nops k)
first-back end true k = nops-in end k (length (zeros k)) (let e : length (zeros k) ≡ k = length-zeros k in omega arith)
first-back end false k = subst (λ (l : List ℕ). instructions_at (plain end) (l ++ zeros k) ≡ Ok (DefCfa (Reg 2 (pos 0)) ∷ nops k))
    spelled (cfa-nops end k (Reg 2 (pos 0)) (omega arith, search rules)) where
      spelled : spelled_cfa (Reg 2 (pos 0)) ≡ 0x0c ∷ 2 ∷ 0 ∷ []
      spelled = rw (uleb-last 2 (omega arith), uleb-last 0 (omega arith)) refl

first-known : (signal : Bool) (k : ℕ)
    → known_after (first_list signal ++ nops k) (Some (begins 0 nothing_known)) ≡ Some (first_known signal)
first-known true zero = refl
first-known true (suc k) = first-known true k
first-known false zero = refl
first-known false (suc k) = first-known false k

pub small-uleb : (n : ℕ) (rest : List ℕ) → n < 128 → whole (uleb_at (n ∷ rest)) ≡ Ok (n, rest)
small-uleb n rest h =
    let f : n < 2 ^ 64 = omega arith in
    ap (λ (l : List ℕ). whole (uleb_at (l ++ rest))) (sym (uleb-last n h))
    ∙ ap whole ((IsShortestUleb-uleb n f).reads_back rest)

one-sleb : (rest : List ℕ) → whole (sleb_at (0x7f ∷ rest)) ≡ Ok (negsuc 0, rest)
one-sleb rest = ap (λ (l : List ℕ). whole (sleb_at (l ++ rest))) (sym (sleb-last (negsuc 0) refl))
    ∙ ap whole ((IsShortestSleb-sleb (negsuc 0) (search rules)).reads_back rest)

-- The letters, each with its data

handler-back : (a : Augmentation) (end h : ℕ) (indirect : Bool) (rest : List ℕ) → h < 2 ^ 64
    → handler_at a end (handler_encoding indirect) (little_bytes 8 h ++ rest) ≡ Ok (with_handler a indirect h, rest)
handler-back a end h true rest f = ap (λ (r : Read ℕ). and_then (and_then r (λ stored rest. Ok (stored, rest)))
    (λ p rest. Ok (with_handler a true p, rest))) (number-back 8 h rest (omega arith))
handler-back a end h false rest f = ap (λ (r : Read ℕ). and_then (and_then r (λ stored rest. Ok (stored, rest)))
    (λ p rest. Ok (with_handler a false p, rest))) (number-back 8 h rest (omega arith))

letter-P : (end h : ℕ) (indirect : Bool) (ls rest : List ℕ) → h < 2 ^ 64
    → letters_at end (0x50 ∷ ls) with_data (handler_encoding indirect ∷ (little_bytes 8 h ++ rest))
    ≡ letters_at end ls (with_handler with_data indirect h) rest
letter-P end h indirect ls rest f = ap (λ (r : Read Augmentation). and_so r (λ read. letters_at end ls read.0 read.1))
    (ap (λ (r : Read ℕ). and_then r (handler_at with_data end)) (byte-back (handler_encoding indirect) (little_bytes 8 h ++ rest))
    ∙ handler-back with_data end h indirect rest f)

-- a kind without a handler has none
none-handled : (h : ℕ) (indirect : Bool) → (not (h == 0) || indirect) ≡ false → (0 ≡ h) × (false ≡ indirect)
none-handled zero false e = (refl, refl)
none-handled zero true e = absurd (cc)
none-handled (suc h) indirect e = absurd (some h e) where
  some : (h : ℕ) → (not (suc h == 0) || indirect) ≡ false → ⊥
  some h e = let z : (suc h == 0) ≡ false = grind (arith, nat_tests) in absurd (cc)

read-P : (end : ℕ) (k : CieKey) (ls rest : List ℕ) → k.handler < 2 ^ 64
    → letters_at end (bytes_if (has_handler k) (0x50 ∷ []) ++ ls) with_data (handler_data k ++ rest)
    ≡ letters_at end ls (with_handler with_data k.indirect k.handler) rest
read-P end k ls rest f = by (has_handler k) refl where
  by : (b : Bool) → has_handler k ≡ b
      → letters_at end (bytes_if b (0x50 ∷ []) ++ ls) with_data
      (bytes_if b (handler_encoding k.indirect ∷ little_bytes 8 k.handler) ++ rest)
      ≡ letters_at end ls (with_handler with_data k.indirect k.handler) rest
  by true e = letter-P end k.handler k.indirect ls rest f
  by false e =
      let n = none-handled k.handler k.indirect e in
      λ i. letters_at end ls (with_handler with_data (n.1 i) (n.0 i)) rest

-- an augmentation so far
abbrev said : (h : ℕ) (indirect : Bool) → Option Encoding → Encoding → Augmentation
said h indirect table encoding = record {
  has_data = true;
  encoding = encoding;
  table = table;
  handler = h;
  indirect = indirect;
  signal = false;
}

read-L : (end h : ℕ) (indirect tabled : Bool) (ls rest : List ℕ)
    → letters_at end (bytes_if tabled (0x4c ∷ []) ++ ls) (said h indirect None Absptr) (bytes_if tabled (0 ∷ []) ++ rest)
    ≡ letters_at end ls (said h indirect (table_of tabled) Absptr) rest
read-L end h indirect true ls rest = rw (byte-back 0 rest) refl
read-L end h indirect false ls rest = refl

read-R : (end h : ℕ) (indirect : Bool) (table : Option Encoding) (debug : Bool) (ls rest : List ℕ)
    → letters_at end (bytes_if (not debug) (0x52 ∷ []) ++ ls) (said h indirect table Absptr)
    (bytes_if (not debug) (0x1b ∷ []) ++ rest)
    ≡ letters_at end ls (said h indirect table (encoding_of debug)) rest
read-R end h indirect table true ls rest = refl
read-R end h indirect table false ls rest = rw (byte-back 0x1b rest) refl

read-S : (end h : ℕ) (indirect : Bool) (table : Option Encoding) (encoding : Encoding) (signal : Bool)
    → letters_at end (bytes_if signal (0x53 ∷ [])) (said h indirect table encoding) []
    ≡ Ok (record {
      has_data = true;
      encoding = encoding;
      table = table;
      handler = h;
      indirect = indirect;
      signal = signal;
    })
read-S end h indirect table encoding true = refl
read-S end h indirect table encoding false = refl

-- an augmentation that is written
abbrev full_augmentation : (debug : Bool) → CieKey → Augmentation
full_augmentation debug k = record {
  has_data = true;
  encoding = encoding_of debug;
  table = table_of k.tabled;
  handler = k.handler;
  indirect = k.indirect;
  signal = k.signal;
}

letters-back : (end : ℕ) (debug : Bool) (k : CieKey) → k.handler < 2 ^ 64
    → letters_at end (cie_letters debug k) with_data (letter_data debug k) ≡ Ok (full_augmentation debug k)
letters-back end debug k f =
    let h = k.handler in
    read-P end k (bytes_if k.tabled (0x4c ∷ []) ++ (bytes_if (not debug) (0x52 ∷ []) ++ bytes_if k.signal (0x53 ∷ [])))
    (bytes_if k.tabled (0 ∷ []) ++ bytes_if (not debug) (0x1b ∷ [])) f
    ∙ read-L end h k.indirect k.tabled (bytes_if (not debug) (0x52 ∷ []) ++ bytes_if k.signal (0x53 ∷ []))
    (bytes_if (not debug) (0x1b ∷ []))
    ∙ ap (letters_at end (bytes_if (not debug) (0x52 ∷ []) ++ bytes_if k.signal (0x53 ∷ [])) (said h k.indirect (table_of k.tabled) Absptr))
    (sym (append-nil (bytes_if (not debug) (0x1b ∷ []))))
    ∙ read-R end h k.indirect (table_of k.tabled) debug (bytes_if k.signal (0x53 ∷ [])) []
    ∙ read-S end h k.indirect (table_of k.tabled) (encoding_of debug) k.signal

data-length : (h t r : Bool) (indirect : Bool) (n : ℕ)
    → length (bytes_if h (handler_encoding indirect ∷ little_bytes 8 n) ++ (bytes_if t (0 ∷ []) ++ bytes_if r (0x1b ∷ []))) ≤ 11
data-length true true true indirect n = omega arith
data-length true true false indirect n = omega arith
data-length true false true indirect n = omega arith
data-length true false false indirect n = omega arith
data-length false true true indirect n = omega arith
data-length false true false indirect n = omega arith
data-length false false true indirect n = omega arith
data-length false false false indirect n = omega arith

some-data : (end : ℕ) (debug : Bool) (k : CieKey) (rest : List ℕ) → k.handler < 2 ^ 64
    → augmentation_at end (0x7a ∷ cie_letters debug k) (length (letter_data debug k) ∷ (letter_data debug k ++ rest))
    ≡ Ok (full_augmentation debug k, rest)
some-data end debug k rest f =
    let bytes = letter_data debug k in
    let few : length bytes ≤ 11 = data-length (has_handler k) k.tabled (not debug) k.indirect k.handler in
    let d : block_at (length bytes ∷ (bytes ++ rest)) ≡ Ok (bytes, rest) =
    ap (λ (r : Read ℕ). and_then r (λ n more. whole (bytes_at n more))) (small-uleb (length bytes) (bytes ++ rest) (omega (arith, few)))
    ∙ bytes-back bytes rest in
    ap (λ (r : Read (List ℕ)). and_then r (λ bytes more. and_so (letters_at (end - length more) (cie_letters debug k)
    with_data bytes) (λ a. Ok (a, more)))) d
    ∙ ap (λ (r : Result Augmentation Malformed). and_so r (λ a. Ok (a, rest))) (letters-back (end - length rest) debug k f)

-- The text

abbrev NoZero : List ℕ → Type 0
NoZero [] = Unit {0}
NoZero (b ∷ bs) = ((b == 0) ≡ false) × NoZero bs

zero-at : (ts rest : List ℕ) → NoZero ts → position_or_len (λ b. b == 0) (ts ++ 0 ∷ rest) ≡ length ts
zero-at [] rest n = refl
zero-at (b ∷ bs) rest n =
    let e = pos-false (λ b. b == 0) b (bs ++ 0 ∷ rest) n.0 in
    let h = zero-at bs rest n.1 in
    omega (arith, e, h)

drop-past : (ts rest : List ℕ) → drop (length ts + 1) (ts ++ 0 ∷ rest) ≡ rest
drop-past ts rest = ap (λ (l : List ℕ). drop (length ts + 1) l) (sym (append_assoc ts (0 ∷ []) rest))
    ∙ drop-front (ts ++ 0 ∷ []) rest (length ts + 1) (sym (length-append ts (0 ∷ [])))

text-of : (ts rest : List ℕ) → NoZero ts → whole (text_at (ts ++ 0 ∷ rest)) ≡ Ok (ts, rest)
text-of ts rest n =
    let p = zero-at ts rest n in
    let t : ltb (length ts) (length (ts ++ 0 ∷ rest)) ≡ true = grind (arith, nat_tests, length-append {A = ℕ}) in
    rw (p, t) (read_pair _ ts _ rest (take-front ts (0 ∷ rest) (length ts) refl) (drop-past ts rest))

none-if : (b : Bool) (c : ℕ) (ls : List ℕ) → (c == 0) ≡ false → NoZero ls → NoZero (bytes_if b (c ∷ []) ++ ls)
none-if true c ls e n = (e, n)
none-if false c ls e n = n

last-none : (b : Bool) (c : ℕ) → (c == 0) ≡ false → NoZero (bytes_if b (c ∷ []))
last-none true c e = (e, tt)
last-none false c e = tt

letters-none : (debug : Bool) (k : CieKey) → NoZero (cie_letters debug k)
letters-none debug k =
    none-if (has_handler k) 0x50 (bytes_if k.tabled (0x4c ∷ []) ++ (bytes_if (not debug) (0x52 ∷ []) ++ bytes_if k.signal (0x53 ∷ []))) refl
    (none-if k.tabled 0x4c (bytes_if (not debug) (0x52 ∷ []) ++ bytes_if k.signal (0x53 ∷ [])) refl
    (none-if (not debug) 0x52 (bytes_if k.signal (0x53 ∷ [])) refl (last-none k.signal 0x53 refl)))

-- the fields before the instructions

head-from : (end ra : ℕ) (ts left rest : List ℕ) (a : Augmentation) → NoZero ts → augmentation_at end ts left ≡ Ok (a, rest)
    → head_at end (1 ∷ (ts ++ 0 ∷ (1 ∷ 0x7f ∷ ra ∷ left)))
    ≡ Ok (record { code = 1; «data» = negsuc 0; ra = ra; augmentation = a }, rest)
head-from end ra ts left rest a n e =
    rw (
      byte-back 1 (ts ++ 0 ∷ (1 ∷ 0x7f ∷ ra ∷ left)),
      text-of ts (1 ∷ 0x7f ∷ ra ∷ left) n,
      small-uleb 1 (0x7f ∷ ra ∷ left) (omega arith),
      one-sleb (ra ∷ left),
      byte-back ra left,
      e,
    ) refl

-- what a kind is that needs no augmentation
record IsPlain (debug : Bool) (k : CieKey) : Type 0 where
  absolute : true ≡ debug
  handler : 0 ≡ k.handler
  indirect : false ≡ k.indirect
  tabled : false ≡ k.tabled
  signal : false ≡ k.signal

plain-so : (debug : Bool) (k : CieKey) → has_data debug k ≡ false → IsPlain debug k
plain-so debug k e =
    let p = four debug (has_handler k) k.tabled k.signal e in
    let h = none-handled k.handler k.indirect p.1 in
    record { absolute = p.0; handler = h.0; indirect = h.1; tabled = p.2; signal = p.3 } where
      four : (debug h t s : Bool) → (not debug || h || t || s) ≡ false
          → (true ≡ debug) × (h ≡ false) × (false ≡ t) × (false ≡ s)
      four true false false false e = (refl, refl, refl, refl)
      four true false false true e = absurd (cc)
      four true false true s e = absurd (cc)
      four true true t s e = absurd (cc)
      four false h t s e = absurd (cc)

-- without an augmentation an entry has no exception table
pub plain-tabled : (debug : Bool) (k : CieKey) → has_data debug k ≡ false → false ≡ k.tabled
plain-tabled debug k e = (plain-so debug k e).tabled

head-back : (end : ℕ) (debug : Bool) (k : CieKey) (rest : List ℕ) → k.handler < 2 ^ 64
    → head_at end (1 ∷ (cie_text debug k ++ (1 ∷ 0x7f ∷ k.ra ∷ (cie_data debug k ++ rest))))
    ≡ Ok (record { code = 1; «data» = negsuc 0; ra = k.ra; augmentation = augmentation_of debug k }, rest)
head-back end debug k rest f = by (has_data debug k) refl where
  bytes : List ℕ
  bytes = letter_data debug k

  by : (b : Bool) → has_data debug k ≡ b → head_at end (1 ∷ ((bytes_if b (0x7a ∷ cie_letters debug k) ++ 0 ∷ [])
      ++ (1 ∷ 0x7f ∷ k.ra ∷ (bytes_if b (length bytes ∷ bytes) ++ rest))))
      ≡ Ok (
        record {
          code = 1;
          «data» = negsuc 0;
          ra = k.ra;
          augmentation = record {
            has_data = b;
            encoding = encoding_of debug;
            table = table_of k.tabled;
            handler = k.handler;
            indirect = k.indirect;
            signal = k.signal;
          };
        },
        rest,
      )
  by true e =
      ap (λ (l : List ℕ). head_at end (1 ∷ l)) (append_assoc (0x7a ∷ cie_letters debug k) (0 ∷ [])
      (1 ∷ 0x7f ∷ k.ra ∷ (length bytes ∷ (bytes ++ rest))))
      ∙ head-from end k.ra (0x7a ∷ cie_letters debug k) (length bytes ∷ (bytes ++ rest)) rest (full_augmentation debug k)
      (refl, letters-none debug k) (some-data end debug k rest f)
  by false e =
      let p = plain-so debug k e in
      head-from end k.ra [] rest rest no_augmentation tt refl
      ∙ (λ i. Ok (
        record {
          code = 1;
          «data» = negsuc 0;
          ra = k.ra;
          augmentation = record {
            has_data = false;
            encoding = encoding_of (p.absolute i);
            table = table_of (p.tabled i);
            handler = p.handler i;
            indirect = p.indirect i;
            signal = p.signal i;
          };
        },
        rest,
      ))

-- a CIE by its parts
cie-from : (end : ℕ) (body rest : List ℕ) (h : Head) (is : List Instruction) (known : Known)
    → head_at end body ≡ Ok (h, rest) → instructions_at (head_context end h) rest ≡ Ok is
    → known_after is (Some (begins 0 nothing_known)) ≡ Some known → cie_at end body ≡ Ok (record {
      code = h.code;
      «data» = h.«data»;
      ra = h.ra;
      augmentation = h.augmentation;
      instructions = is;
      known = known;
    })
cie-from end body rest h is known a b c = rw (a, b, c) refl

fields-then : (t d c z : List ℕ) (ra : ℕ) → (1 ∷ (t ++ (1 ∷ 0x7f ∷ ra ∷ (d ++ c)))) ++ z
    ≡ 1 ∷ (t ++ (1 ∷ 0x7f ∷ ra ∷ (d ++ (c ++ z))))
fields-then t d c z ra = simp append_assoc

pub cie-back : (end : ℕ) (debug : Bool) (k : CieKey) → KeyFits k → cie_at end (cie_body debug k) ≡ Ok (cie_of debug k)
cie-back end debug k f =
    let more = 24 - length (cie_fields debug k) in
    ap (cie_at end) (fields-then (cie_text debug k) (cie_data debug k) (cie_code k.signal) (zeros more) k.ra)
    ∙ cie-from end (1 ∷ (cie_text debug k ++ (1 ∷ 0x7f ∷ k.ra ∷ (cie_data debug k ++ (cie_code k.signal ++ zeros more)))))
    (cie_code k.signal ++ zeros more)
    (record { code = 1; «data» = negsuc 0; ra = k.ra; augmentation = augmentation_of debug k })
    (first_list k.signal ++ nops more) (first_known k.signal)
    (head-back end debug k (cie_code k.signal ++ zeros more) f.handler)
    (first-back (encoding_of debug, end) k.signal more) (first-known k.signal more)

-- how long it is

one-if : (b : Bool) (c : ℕ) → length (bytes_if b (c ∷ [])) ≤ 1
one-if true c = omega arith
one-if false c = omega arith

more-if : (b : Bool) (c : ℕ) (bytes : List ℕ) (n : ℕ) → length bytes ≤ n → length (bytes_if b (c ∷ bytes)) ≤ suc n
more-if true c bytes n h = omega arith
more-if false c bytes n h = omega arith

letters-length : (debug : Bool) (k : CieKey) → length (cie_letters debug k) ≤ 3 + length (bytes_if k.signal (0x53 ∷ []))
letters-length debug k =
    let s = bytes_if k.signal (0x53 ∷ []) in
    let r = bytes_if (not debug) (0x52 ∷ []) in
    let t = bytes_if k.tabled (0x4c ∷ []) in
    let h = bytes_if (has_handler k) (0x50 ∷ []) in
    sums _ (length h) _ (length t) _ (length r) (length s) (length-append h (t ++ (r ++ s))) (length-append t (r ++ s))
    (length-append r s) (one-if (has_handler k) 0x50) (one-if k.tabled 0x4c) (one-if (not debug) 0x52) where
      sums : (a h b t c r s : ℕ) → a ≡ h + b → b ≡ t + c → c ≡ r + s → h ≤ 1 → t ≤ 1 → r ≤ 1 → a ≤ 3 + s
      sums a h b t c r s d e f x y z = omega arith

fields-length : (debug : Bool) (k : CieKey) → length (cie_fields debug k) ≤ 24
fields-length debug k =
    let text = bytes_if (has_data debug k) (0x7a ∷ cie_letters debug k) in
    let rest = cie_data debug k ++ cie_code k.signal in
    sums _ (length (cie_text debug k)) (length text) _ (length rest) (length (cie_data debug k)) (length (cie_code k.signal)) _
    (length-append (cie_text debug k) (1 ∷ 0x7f ∷ k.ra ∷ rest)) (length-append text (0 ∷ []))
    (length-append (cie_data debug k) (cie_code k.signal))
    (more-if (has_data debug k) 0x7a (cie_letters debug k) _ (letters-length debug k))
    (more-if (has_data debug k) (length (letter_data debug k)) (letter_data debug k) 11
    (data-length (has_handler k) k.tabled (not debug) k.indirect k.handler)) (code-length k.signal) refl where
      code-length : (signal : Bool) → length (bytes_if signal (0x53 ∷ [])) + length (cie_code signal) ≤ 3
      code-length true = omega arith
      code-length false = omega arith

      sums : (a t u b r d c s : ℕ) → a ≡ t + b → t ≡ u + 1 → r ≡ d + c → u ≤ suc (3 + s) → d ≤ suc 11 → s + c ≤ 3
          → b ≡ suc (suc (suc r)) → suc a ≤ 24
      sums a t u b r d c s e f g h i j k = omega arith

pub cie-length : (debug : Bool) (k : CieKey) → length (cie_body debug k) ≡ 24
cie-length debug k =
    let few = fields-length debug k in
    let n = 24 - length (cie_fields debug k) in
    sums _ (length (cie_fields debug k)) (length (zeros n)) (length-append (cie_fields debug k) (zeros n)) (length-zeros n) few where
      sums : (a f z : ℕ) → a ≡ f + z → z ≡ 24 - f → f ≤ 24 → a ≡ 24
      sums a f z e g h = omega arith

-- The return register of each entry of a table of bytes has one byte.
use Rattle.std.proofs.Common.{ℕ, zero, suc, ◌+◌, ◌-◌, ◌<◌, ◌≡◌, ◌==◌, ◌||◌, ◌&&◌, List, [], ◌∷◌, length, take, drop, Ok, Err, cond, Bool}
use Rattle.std.proofs.Common.{true, false, not, refl, arith}
use Rattle.std.specs.Prelude.{All, nat_le, nat_lt, ◌^◌, Some}
use Rattle.std.specs.List.{position_or_len}
use Rattle.std.proofs.lemmas.Bool.Decides.{nat_tests}
use Rattle.std.proofs.lemmas.List.Elements.{All-nil, All-cons, All-head, All-take, All-drop, All-contains}
use Rattle.byteorder.specs.Endian.{little_number}
use Rattle.rb_bytes.specs.Readers.{number_read, text_at, and_then}
use Rattle.rb_bytes.specs.declared.gap.Gap.TheVariants.{Short, Wide}
use Rattle.rb_bytes.specs.Leb.{uleb_at, sleb_at, leb_length, uleb_value, sleb_value, fits_i64}
use Rattle.table_core.specs.ReadSteps.{and_so}
use Rattle.cfi_rows.specs.FrameInstructions.{Read, whole}
use Rattle.cfi_rows.specs.declared.instruction.Malformed.TheVariants.{Entry}
use Rattle.cfi_rows.specs.Entries.{RawEntry, Front, Ends, Breaks, Stands, WalkedEntries, front_of, entry_of, walk, onward, walked_entries}
use Rattle.cfi_rows.specs.Entries.{Head, head_at, sizes_at, return_register_at, augmentation_at, Cie, Fde, cie_at, cie_by, cie_after}
use Rattle.cfi_rows.specs.Entries.{cie_made, head_context, end_of, fde_at, fde_made, sound_if, frames}
use Rattle.cfi_rows.specs.FrameInstructions.{instructions_at}
use Rattle.cfi_rows.specs.FrameRows.{known_after, rows, begins, nothing_known}
use Rattle.frame_rewrite.proofs.ReadEntries.{IfFde, IfCie, cie-so, fde-so, fde-read, all-by-cie}

abbrev pub Bytes : List ℕ → Type 0
Bytes l = All (λ (b : ℕ). b < 256) l

-- A property of what a reader reads, and of the bytes after it

abbrev IfRead : {X : Type 0} → (X → List ℕ → Type 0) → Read X → Type 0
IfRead R (Ok x) = R x.0 x.1
IfRead R (Err e) = Unit {0}

then-read : {X Y : Type 0} (R : X → List ℕ → Type 0) (S : Y → List ℕ → Type 0) (r : Read X) (f : X → List ℕ → Read Y) → IfRead R r
    → ((x : X) (l : List ℕ) → R x l → IfRead S (f x l)) → IfRead S (and_then r f)
then-read R S (Ok x) f g h = h x.0 x.1 g
then-read R S (Err e) f g h = tt

abbrev Nothing : {X : Type 0} → X → List ℕ → Type 0
Nothing x l = Unit {0}

abbrev Left : {X : Type 0} → X → List ℕ → Type 0
Left x l = Bytes l

abbrev Register : ℕ → List ℕ → Type 0
Register r l = r < 256

any-read : {X : Type 0} (r : Read X) → IfRead Nothing r
any-read (Ok x) = tt
any-read (Err e) = tt

number-read : (n : ℕ) (l : List ℕ) → Bytes l → IfRead Left (whole (number_read n l))
number-read n l h = either (nat_lt (length l) n) where
  either : (b : Bool) → IfRead Left (whole (cond b (Err Short) (Ok (little_number n l, drop n l))))
  either true = tt
  either false = All-drop (λ (b : ℕ). b < 256) n l h

first-byte : (l : List ℕ) → Bytes l → little_number 1 l < 256
first-byte [] h = omega arith
first-byte (b ∷ bs) h = let s : b < 256 = All-head (λ (b : ℕ). b < 256) b bs h in omega arith

byte-read : (l : List ℕ) → Bytes l → IfRead Register (whole (number_read 1 l))
byte-read l h = either (nat_lt (length l) 1) where
  either : (b : Bool) → IfRead Register (whole (cond b (Err Short) (Ok (little_number 1 l, drop 1 l))))
  either true = tt
  either false = first-byte l h

text-read : (l : List ℕ) → Bytes l → IfRead Left (whole (text_at l))
text-read l h = either (nat_lt (position_or_len (λ b. b == 0) l) (length l)) where
  either : (b : Bool) → IfRead Left (whole (cond b (Ok (
    take (position_or_len (λ b. b == 0) l) l,
    drop
        (position_or_len (λ b. b == 0) l + 1) l,
  )) (Err Short)))
  either true = All-drop (λ (b : ℕ). b < 256) (position_or_len (λ b. b == 0) l + 1) l h
  either false = tt

uleb-read : (l : List ℕ) → Bytes l → IfRead Left (whole (uleb_at l))
uleb-read l h = either (nat_lt (length l) (leb_length l)) (nat_lt (uleb_value (take (leb_length l) l)) (2 ^ 64)) where
  either : (b c : Bool)
      → IfRead Left (whole (cond b (Err Short) (cond c (Ok (uleb_value (take (leb_length l) l), drop (leb_length l) l)) (Err Wide))))
  either true c = tt
  either false true = All-drop (λ (b : ℕ). b < 256) (leb_length l) l h
  either false false = tt

sleb-read : (l : List ℕ) → Bytes l → IfRead Left (whole (sleb_at l))
sleb-read l h = either (nat_lt (length l) (leb_length l)) (fits_i64 (sleb_value (take (leb_length l) l))) where
  either : (b c : Bool)
      → IfRead Left (whole (cond b (Err Short) (cond c (Ok (sleb_value (take (leb_length l) l), drop (leb_length l) l)) (Err Wide))))
  either true c = tt
  either false true = All-drop (λ (b : ℕ). b < 256) (leb_length l) l h
  either false false = tt

sizes-read : (version : ℕ) (l : List ℕ) → Bytes l → IfRead Left (sizes_at version l)
sizes-read version l h = either (version == 4) (version == 1 || version == 3) where
  sized : (sizes : ℕ) (rest : List ℕ) → Bytes rest → (b : Bool) → IfRead Left (cond b (Ok (sizes, rest)) (Err Entry))
  sized sizes rest g true = g
  sized sizes rest g false = tt

  either : (b c : Bool) → IfRead Left (cond b
      (and_then (whole (number_read 2 l)) (λ sizes rest. cond (sizes == 8) (Ok (sizes, rest)) (Err Entry)))
      (cond c (Ok (0, l)) (Err Entry)))
  either true c = then-read Left Left (whole (number_read 2 l)) _ (number-read 2 l h) (λ sizes rest g. sized sizes rest g (sizes == 8))
  either false true = h
  either false false = tt

register-read : (version : ℕ) (l : List ℕ) → Bytes l → IfRead Register (return_register_at version l)
register-read version l h = either (version == 1) where
  small : (r : ℕ) (rest : List ℕ) (b : Bool) → nat_le r 255 ≡ b → IfRead Register (cond b (Ok (r, rest)) (Err Entry))
  small r rest true e = grind (arith, nat_tests)
  small r rest false e = tt

  either : (b : Bool) → IfRead Register (cond b (whole (number_read 1 l))
      (and_then (whole (uleb_at l)) (λ r rest. cond (nat_le r 255) (Ok (r, rest)) (Err Entry))))
  either true = byte-read l h
  either false = then-read Nothing Register (whole (uleb_at l)) _ (any-read (whole (uleb_at l)))
      (λ r rest g. small r rest (nat_le r 255) refl)

abbrev Small : Head → List ℕ → Type 0
Small h l = h.ra < 256

head-read : (end : ℕ) (body : List ℕ) → Bytes body → IfRead Small (head_at end body)
head-read end body h =
    then-read Left Small (whole (number_read 1 body)) _ (number-read 1 body h) (λ version l1 h1.
    then-read Left Small (whole (text_at l1)) _ (text-read l1 h1) (λ text l2 h2.
    then-read Left Small (sizes_at version l2) _ (sizes-read version l2 h2) (λ n l3 h3.
    then-read Left Small (whole (uleb_at l3)) _ (uleb-read l3 h3) (λ code l4 h4.
    then-read Left Small (whole (sleb_at l4)) _ (sleb-read l4 h4) (λ factor l5 h5.
    then-read Register Small (return_register_at version l5) _ (register-read version l5 h5) (λ ra l6 small.
    then-read Nothing Small (augmentation_at end text l6) _ (any-read (augmentation_at end text l6)) (λ a l7 g. small)))))))

-- Entries

abbrev Returns : Cie → Type 0
Returns c = c.ra < 256

abbrev pub FdeReturns : Fde → Type 0
FdeReturns f = f.cie.ra < 256

cie-returns : (end : ℕ) (body : List ℕ) → Bytes body → IfCie Returns (cie_at end body)
cie-returns end body h = by (head_at end body) (head-read end body h) where
  by : (r : Read Head) → IfRead Small r → IfCie Returns (and_so r (cie_by end))
  by (Ok read) small = cie-so Returns (instructions_at (head_context end read.0) read.1) (cie_after read.0) (λ is.
      cie-so Returns (sound_if (known_after is (Some (begins 0 nothing_known)))) (cie_made read.0 is) (λ k. small))
  by (Err e) small = tt

fde-returns : (c : Cie) (end : ℕ) (e : RawEntry) → Returns c → IfFde FdeReturns (fde_at c end e)
fde-returns c end e small = fde-read FdeReturns c end e (λ start size table is.
    fde-so FdeReturns (sound_if (rows c.known.rules is (begins start c.known))) (fde_made c e.place start size table is) (λ rs. small))

-- the bytes of each entry that is walked

abbrev Stand : Front → Type 0
Stand Ends = Unit {0}
Stand Breaks = Unit {0}
Stand (Stands e rest) = Bytes e.body × Bytes rest

entry-bytes : (place n : ℕ) (l : List ℕ) → Bytes l → Stand (entry_of place n l)
entry-bytes place n l h = either (n == 0xffffffff || nat_lt n 4 || nat_lt (length l) n) where
  either : (b : Bool) → Stand (cond b Breaks
      (Stands (record { place = place; id = little_number 4 l; body = take (n - 4) (drop 4 l) }) (drop n l)))
  either true = tt
  either false = (
    All-take (λ (b : ℕ). b < 256) (n - 4) (drop 4 l) (All-drop (λ (b : ℕ). b < 256) 4 l h),
    All-drop (λ (b : ℕ). b < 256) n l h,
  )

front-bytes : (debug : Bool) (place : ℕ) (l : List ℕ) → Bytes l → Stand (front_of debug place l)
front-bytes debug place l h = either (nat_lt (length l) 4) (not debug && (little_number 4 l == 0)) where
  either : (b c : Bool) → Stand (cond b Breaks (cond c Ends (entry_of place (little_number 4 l) (drop 4 l))))
  either true c = tt
  either false true = tt
  either false false = entry-bytes place (little_number 4 l) (drop 4 l) (All-drop (λ (b : ℕ). b < 256) 4 l h)

abbrev HaveBytes : List RawEntry → Type 0
HaveBytes es = All (λ (e : RawEntry). Bytes e.body) es

onward-bytes : (place : ℕ) (f : Front) (more : ℕ → List ℕ → WalkedEntries) → Stand f
    → ((p : ℕ) (l : List ℕ) → Bytes l → HaveBytes (more p l).entries) → HaveBytes (onward place f more).entries
onward-bytes place Ends more s h = All-nil (λ (e : RawEntry). Bytes e.body)
onward-bytes place Breaks more s h = All-nil (λ (e : RawEntry). Bytes e.body)
onward-bytes place (Stands e rest) more s h =
    All-cons (λ (e : RawEntry). Bytes e.body) e _ s.0 (h (place + 8 + length e.body) rest s.1)

walk-bytes : (debug : Bool) (n place : ℕ) (l : List ℕ) → Bytes l → HaveBytes (walk debug n place l).entries
unfolding walk
walk-bytes debug n place [] h = All-nil (λ (e : RawEntry). Bytes e.body)
walk-bytes debug zero place (b ∷ bs) h = All-nil (λ (e : RawEntry). Bytes e.body)
walk-bytes debug (suc n) place (b ∷ bs) h =
    onward-bytes place (front_of debug place (b ∷ bs)) (walk debug n) (front-bytes debug place (b ∷ bs) h) (walk-bytes debug n)

pub frames-return : (debug : Bool) (address : ℕ) (table : List ℕ) → Bytes table → All FdeReturns (frames debug address table).list
frames-return debug address table h = all-by-cie FdeReturns Returns debug address table
    (λ y c i. cie-returns (end_of address y) y.body (All-contains (λ (e : RawEntry). Bytes e.body)
    (walked_entries debug table).entries y (walk-bytes debug (length table) 0 table h) c)) fde-returns

-- LEB128 numbers in memory, from one of their bytes on.
use Rattle.std.proofs.Common.{◌≡◌, ◌∙◌, sym, ap, subst, refl, ℕ, zero, suc, ◌+◌, ◌*◌, ◌/◌, ◌%◌, ◌^◌, ◌<◌, ◌≤◌, ℤ, pos}
use Rattle.std.proofs.Common.{negsuc, ◌⊎◌, ⊎_elim, ◌↔◌, Bool, true, false, IsTrue, IsSome, IsSomeAnd, List, [], ◌∷◌, length}
use Rattle.std.proofs.Common.{Option, Some, None, if◌then◌else◌, arith}
use Rattle.std.specs.Option.{option_map}
use Rattle.std.proofs.lemmas.Bool.{lt-ltb, le-ltb}
use Rattle.std.proofs.Math.Nat.{pow-suc}
use Rattle.rb_bytes.specs.Leb.{is_last, low_bits, high_bits}
use Rattle.elf_image.specs.declared.elf.Elf.{Elf}
use Rattle.elf_code.specs.Fields.{leb_from, leb_at, HoldBits}
use Rattle.elf_image.specs.memory.LoadedBytes.{byte_at}
use Rattle.rv_reloc.specs.declared.tails.LebRest.{LebRest}
use Rattle.rv_code.specs.layout.FunctionLists.{address_end}
use Rattle.code_starts.specs.LoadedMemory.{IsLow}
use Rattle.rv_reloc.specs.Tails.{AreLebBytes, IsTail, TailAt, no_tail, is_tail, magnitude}

-- The first byte.

at_zero : (elf : Elf) (a : ℕ) → leb_at elf a zero ≡ None
unfolding leb_at
at_zero elf a = refl

at_suc : (elf : Elf) (a n : ℕ) → leb_at elf a (suc n) ≡ leb_from (byte_at elf a) (leb_at elf (a + 1) n)
unfolding leb_at
at_suc elf a n = refl

from_last : (o : Option ℕ) (b : ℕ) (rest : Option (List ℕ)) → o ≡ Some b → is_last b ≡ true → leb_from o rest ≡ Some (b ∷ [])
from_last None b rest e last = absurd (cc)
from_last (Some c) b rest e last =
    let same : c ≡ b = cc in
    let here : is_last c ≡ true = ap is_last same ∙ last in
    ap (λ (t : Bool). if t then Some (c ∷ []) else option_map (λ bs. c ∷ bs) rest) here ∙ ap (λ (x : ℕ). Some (x ∷ [])) same

from_more : (o : Option ℕ) (b : ℕ) (rest : Option (List ℕ)) → o ≡ Some b → is_last b ≡ false →
    leb_from o rest ≡ option_map (λ bs. b ∷ bs) rest
from_more None b rest e last = absurd (cc)
from_more (Some c) b rest e last =
    let same : c ≡ b = cc in
    let here : is_last c ≡ false = ap is_last same ∙ last in
    ap (λ (t : Bool). if t then Some (c ∷ []) else option_map (λ bs. c ∷ bs) rest) here
    ∙ ap (λ (x : ℕ). option_map (λ bs. x ∷ bs) rest) same

from_none : (o : Option ℕ) (rest : Option (List ℕ)) → o ≡ None → leb_from o rest ≡ None
from_none None rest e = refl
from_none (Some c) rest e = absurd (cc)

none_more : (b : ℕ) (o : Option (List ℕ)) → o ≡ None → option_map (λ bs. b ∷ bs) o ≡ None
none_more b None e = refl
none_more b (Some bs) e = absurd (cc)

some_more : (b : ℕ) (o : Option (List ℕ)) (bs : List ℕ) → o ≡ Some bs → option_map (λ cs. b ∷ cs) o ≡ Some (b ∷ bs)
some_more b None bs e = absurd (cc)
some_more b (Some cs) bs e = let same : cs ≡ bs = cc in ap (λ (ds : List ℕ). Some (b ∷ ds)) same

pub never-unloaded : (elf : Elf) (a : ℕ) → byte_at elf a ≡ None → (n : ℕ) → leb_at elf a n ≡ None
never-unloaded elf a none zero = at_zero elf a
never-unloaded elf a none (suc n) = at_suc elf a n ∙ from_none (byte_at elf a) (leb_at elf (a + 1) n) none

never-more : (elf : Elf) (a b : ℕ) → byte_at elf a ≡ Some b → is_last b ≡ false →
    ((n : ℕ) → leb_at elf (a + 1) n ≡ None) → (n : ℕ) → leb_at elf a n ≡ None
never-more elf a b byte more never zero = at_zero elf a
never-more elf a b byte more never (suc n) =
    at_suc elf a n ∙ from_more (byte_at elf a) b (leb_at elf (a + 1) n) byte more ∙ none_more b (leb_at elf (a + 1) n) (never n)

last_within : (elf : Elf) (a b : ℕ) → byte_at elf a ≡ Some b → is_last b ≡ true → (n : ℕ) → 1 ≤ n → leb_at elf a n ≡ Some (b ∷ [])
last_within elf a b byte last zero some = absurd (omega arith)
last_within elf a b byte last (suc n) some = at_suc elf a n ∙ from_last (byte_at elf a) b (leb_at elf (a + 1) n) byte last

last_beyond : (elf : Elf) (a : ℕ) (n : ℕ) → n < 1 → leb_at elf a n ≡ None
last_beyond elf a zero few = at_zero elf a
last_beyond elf a (suc n) few = absurd (omega arith)

bytes-last : (elf : Elf) (a b : ℕ) → byte_at elf a ≡ Some b → is_last b ≡ true → AreLebBytes elf a (b ∷ [])
bytes-last elf a b byte last = record {
  within = λ n upto. last_within elf a b byte last n (let one : 1 ≤ n = omega arith in one);
  beyond = λ n few. last_beyond elf a n (omega arith);
}

more_within : (elf : Elf) (a b : ℕ) (bs : List ℕ) → byte_at elf a ≡ Some b → is_last b ≡ false →
    AreLebBytes elf (a + 1) bs → (n : ℕ) → length (b ∷ bs) ≤ n → leb_at elf a n ≡ Some (b ∷ bs)
more_within elf a b bs byte more are zero upto = absurd (omega arith)
more_within elf a b bs byte more are (suc n) upto =
    at_suc elf a n ∙ from_more (byte_at elf a) b (leb_at elf (a + 1) n) byte more
    ∙ some_more b (leb_at elf (a + 1) n) bs (are.within n (omega arith))

more_beyond : (elf : Elf) (a b : ℕ) (bs : List ℕ) → byte_at elf a ≡ Some b → is_last b ≡ false →
    AreLebBytes elf (a + 1) bs → (n : ℕ) → n < length (b ∷ bs) → leb_at elf a n ≡ None
more_beyond elf a b bs byte more are zero few = at_zero elf a
more_beyond elf a b bs byte more are (suc n) few =
    at_suc elf a n ∙ from_more (byte_at elf a) b (leb_at elf (a + 1) n) byte more
    ∙ none_more b (leb_at elf (a + 1) n) (are.beyond n (omega arith))

bytes-more : (elf : Elf) (a b : ℕ) (bs : List ℕ) → byte_at elf a ≡ Some b → is_last b ≡ false → AreLebBytes elf (a + 1) bs →
    AreLebBytes elf a (b ∷ bs)
bytes-more elf a b bs byte more are =
    record { within = more_within elf a b bs byte more are; beyond = more_beyond elf a b bs byte more are }

-- All bytes.

-- The number doesn't depend on the bound for its number of bytes.
pub bytes-from : (elf : Elf) (n a : ℕ) (bs : List ℕ) → leb_at elf a n ≡ Some bs → AreLebBytes elf a bs
bytes-from elf zero a bs is = let e : None ≡ Some bs = sym (at_zero elf a) ∙ is in absurd (cc)
bytes-from elf (suc n) a bs is = by (bytes-from elf n (a + 1)) (byte_at elf a) refl
  where
    rest_by : ((cs : List ℕ) → leb_at elf (a + 1) n ≡ Some cs → AreLebBytes elf (a + 1) cs) → (b : ℕ) → byte_at elf a ≡ Some b →
        is_last b ≡ false → (o : Option (List ℕ)) → leb_at elf (a + 1) n ≡ o → AreLebBytes elf a bs
    rest_by later b byte more None rest =
        let e : None ≡ Some bs = sym (none_more b (leb_at elf (a + 1) n) rest)
        ∙ sym (from_more (byte_at elf a) b (leb_at elf (a + 1) n) byte more) ∙ sym (at_suc elf a n) ∙ is in
        absurd (cc)
    rest_by later b byte more (Some cs) rest =
        let e : Some (b ∷ cs) ≡ Some bs = sym (some_more b (leb_at elf (a + 1) n) cs rest)
        ∙ sym (from_more (byte_at elf a) b (leb_at elf (a + 1) n) byte more) ∙ sym (at_suc elf a n) ∙ is in
        let same : b ∷ cs ≡ bs = cc in
        subst (AreLebBytes elf a) same (bytes-more elf a b cs byte more (later cs rest))

    last_by : ((cs : List ℕ) → leb_at elf (a + 1) n ≡ Some cs → AreLebBytes elf (a + 1) cs) → (b : ℕ) → byte_at elf a ≡ Some b →
        (t : Bool) → is_last b ≡ t → AreLebBytes elf a bs
    last_by later b byte true last =
        let e : Some (b ∷ []) ≡ Some bs =
        sym (from_last (byte_at elf a) b (leb_at elf (a + 1) n) byte last) ∙ sym (at_suc elf a n) ∙ is in
        let same : b ∷ [] ≡ bs = cc in
        subst (AreLebBytes elf a) same (bytes-last elf a b byte last)
    last_by later b byte false more = rest_by later b byte more (leb_at elf (a + 1) n) refl

    by : ((cs : List ℕ) → leb_at elf (a + 1) n ≡ Some cs → AreLebBytes elf (a + 1) cs) → (o : Option ℕ) → byte_at elf a ≡ o →
        AreLebBytes elf a bs
    by later None byte = let e : None ≡ Some bs = sym (never-unloaded elf a byte (suc n)) ∙ is in absurd (cc)
    by later (Some b) byte = last_by later b byte (is_last b) refl

pub bytes-once : (elf : Elf) (a : ℕ) (bs cs : List ℕ) → AreLebBytes elf a bs → AreLebBytes elf a cs → bs ≡ cs
bytes-once elf a bs cs are are' =
    let e : Some bs ≡ Some cs = sym (are.within (length bs + length cs) (omega arith))
    ∙ are'.within (length bs + length cs) (omega arith) in
    cc

pub bytes-some : (elf : Elf) (a : ℕ) (bs : List ℕ) → AreLebBytes elf a bs → 0 < length bs
bytes-some elf a [] are = let e : None ≡ Some [] = sym (at_zero elf a) ∙ are.within 0 (omega arith) in absurd (cc)
bytes-some elf a (b ∷ bs) are = omega arith

never-bytes : (elf : Elf) (a : ℕ) (bs : List ℕ) → AreLebBytes elf a bs → ((n : ℕ) → leb_at elf a n ≡ None) → ⊥
never-bytes elf a bs are never =
    let e : None ≡ Some bs = sym (never (length bs)) ∙ are.within (length bs) (omega arith) in absurd (cc)

-- The first byte, which may be the last.
pub data Front (elf : Elf) (a b : ℕ) (bs : List ℕ) : Type 0 where
  one : is_last b ≡ true → bs ≡ b ∷ [] → Front elf a b bs
  more : is_last b ≡ false → (cs : List ℕ) → bs ≡ b ∷ cs → AreLebBytes elf (a + 1) cs → Front elf a b bs

pub front : (elf : Elf) (a b : ℕ) (bs : List ℕ) → AreLebBytes elf a bs → byte_at elf a ≡ Some b → Front elf a b bs
front elf a b bs are byte = by (is_last b) refl
  where
    rest_by : is_last b ≡ false → (o : Option (List ℕ)) → leb_at elf (a + 1) (length bs) ≡ o → Front elf a b bs
    rest_by last None rest =
        let e : None ≡ Some bs = sym (none_more b (leb_at elf (a + 1) (length bs)) rest)
        ∙ sym (from_more (byte_at elf a) b (leb_at elf (a + 1) (length bs)) byte last) ∙ sym (at_suc elf a (length bs))
        ∙ are.within (suc (length bs)) (omega arith) in
        absurd (cc)
    rest_by last (Some cs) rest =
        let after = bytes-from elf (length bs) (a + 1) cs rest in
        more last cs (bytes-once elf a bs (b ∷ cs) are (bytes-more elf a b cs byte last after)) after

    by : (t : Bool) → is_last b ≡ t → Front elf a b bs
    by true last = one last (bytes-once elf a bs (b ∷ []) are (bytes-last elf a b byte last))
    by false last = rest_by last (leb_at elf (a + 1) (length bs)) refl

pub unloaded-bytes : (elf : Elf) (a : ℕ) (bs : List ℕ) → AreLebBytes elf a bs → byte_at elf a ≡ None → ⊥
unloaded-bytes elf a bs are byte = never-bytes elf a bs are (never-unloaded elf a byte)

-- Tails.

pub tail-unloaded : (elf : Elf) (a : ℕ) → byte_at elf a ≡ None → TailAt elf a None
tail-unloaded elf a byte = no_tail (never-unloaded elf a byte)

pub tail-last : (elf : Elf) (a b : ℕ) (t : LebRest) → byte_at elf a ≡ Some b → b < 128 → t.end ≡ a + 1 →
    IsTrue t.is_zeros ↔ HoldBits (b ∷ []) (pos 0) → IsTrue t.is_ones ↔ HoldBits (b ∷ []) (negsuc 0) → TailAt elf a (Some t)
tail-last elf a b t byte low end zeros ones = is_tail t (record {
  bytes = b ∷ [];
  are = bytes-last elf a b byte (lt-ltb b 128 low);
  end = end;
  zeros = zeros;
  ones = ones;
})

tail_of : {elf : Elf} {a : ℕ} (t : LebRest) → TailAt elf a (Some t) → IsTail elf a t
tail_of t (is_tail _ is) = is

no_tail_of : {elf : Elf} {a : ℕ} → TailAt elf a None → (n : ℕ) → leb_at elf a n ≡ None
no_tail_of (no_tail never) = never

pub tail-more : (elf : Elf) (a b : ℕ) (t u : LebRest) → byte_at elf a ≡ Some b → 128 ≤ b →
    TailAt elf (a + 1) (Some t) → u.end ≡ t.end →
    IsTrue u.is_zeros ↔ ((b % 128 ≡ 0) × IsTrue t.is_zeros) → IsTrue u.is_ones ↔ ((b % 128 ≡ 127) × IsTrue t.is_ones) →
    TailAt elf a (Some u)
tail-more elf a b t u byte high next end zeros ones =
    let is = tail_of t next in
    is_tail u (record {
      bytes = b ∷ is.bytes;
      are = bytes-more elf a b is.bytes byte (le-ltb b 128 high) is.are;
      end = let e = is.end in omega arith;
      zeros = (λ y. let both = zeros.0 y in (both.0, is.zeros.0 both.1), λ h. zeros.1 (h.0, is.zeros.1 h.1));
      ones = (λ y. let both = ones.0 y in (both.0, is.ones.0 both.1), λ h. ones.1 (h.0, is.ones.1 h.1));
    })

pub tail-never : (elf : Elf) (a b : ℕ) → byte_at elf a ≡ Some b → 128 ≤ b → TailAt elf (a + 1) None → TailAt elf a None
tail-never elf a b byte high next = no_tail (never-more elf a b byte (le-ltb b 128 high) (no_tail_of next))

-- Bits.

pub first-bits : (elf : Elf) (a b : ℕ) (bs : List ℕ) (z : ℤ) → AreLebBytes elf a bs → byte_at elf a ≡ Some b → HoldBits bs z →
    b % 128 ≡ low_bits z
first-bits elf a b bs z are byte hold = by (front elf a b bs are byte)
  where
    by : Front elf a b bs → b % 128 ≡ low_bits z
    by (one last is) = let h = subst (λ (cs : List ℕ). HoldBits cs z) is hold in h.0
    by (more last cs is after) = let h = subst (λ (ds : List ℕ). HoldBits ds z) is hold in h.0

pub last-bits : (elf : Elf) (a b : ℕ) (bs : List ℕ) (z : ℤ) → AreLebBytes elf a bs → byte_at elf a ≡ Some b → b < 128 →
    b % 128 ≡ low_bits z → HoldBits bs z
last-bits elf a b bs z are byte low same = by (front elf a b bs are byte)
  where
    by : Front elf a b bs → HoldBits bs z
    by (one last is) = subst (λ (cs : List ℕ). HoldBits cs z) (sym is) (same, tt)
    by (more last cs is after) = let e : true ≡ false = sym (lt-ltb b 128 low) ∙ last in absurd (cc)

pub more-bits : (elf : Elf) (a b : ℕ) (bs : List ℕ) (z : ℤ) (r : Bool) → AreLebBytes elf a bs → byte_at elf a ≡ Some b → 128 ≤ b →
    b % 128 ≡ low_bits z → ((cs : List ℕ) → AreLebBytes elf (a + 1) cs → IsTrue r ↔ HoldBits cs (high_bits z)) →
    IsTrue r ↔ HoldBits bs z
more-bits elf a b bs z r are byte high same rest = by (front elf a b bs are byte)
  where
    by : Front elf a b bs → IsTrue r ↔ HoldBits bs z
    by (one last is) = let e : true ≡ false = sym last ∙ le-ltb b 128 high in absurd (cc)
    by (more last cs is after) = (
      λ y. subst (λ (ds : List ℕ). HoldBits ds z) (sym is) (same, (rest cs after).0 y),
      λ hold. (rest cs after).1 (let h = subst (λ (ds : List ℕ). HoldBits ds z) is hold in h.1),
    )

high_magnitude : (z : ℤ) → magnitude (high_bits z) ≡ magnitude z / 128
high_magnitude (pos n) = refl
high_magnitude (negsuc n) = refl

pub high-small : (z : ℤ) (n m : ℕ) → n ≡ suc m → magnitude z < 128 ^ n → magnitude (high_bits z) < 128 ^ m
high-small z n m is below =
    let p : 128 ^ suc m ≡ 128 ^ m * 128 = pow-suc 128 m in
    let q : 128 ^ n ≡ 128 ^ suc m = ap (λ (k : ℕ). 128 ^ k) is in
    let h = high_magnitude z in
    omega arith

-- No tail at or above the end of loaded addresses.
pub tail-end : (elf : Elf) (a : ℕ) → IsLow elf → address_end ≤ a → TailAt elf a None
tail-end elf a low high = tail-unloaded elf a (by (byte_at elf a) refl)
  where
    by : (o : Option ℕ) → byte_at elf a ≡ o → byte_at elf a ≡ None
    by None is = is
    by (Some b) is = let below = low.below a (subst (λ (o : Option ℕ). IsSome o) (sym is) refl) in absurd (omega arith)

-- Fields in sections.

pub size-beyond : (elf : Elf) (a n : ℕ) (t : LebRest) → TailAt elf a (Some t) → (n ≡ 0) ⊎ (a + n < t.end) →
    None ≡ option_map length (leb_at elf a n)
size-beyond elf a n t at short =
    let is = tail_of t at in
    let some = bytes-some elf a is.bytes is.are in
    let end = is.end in
    let few : n < length is.bytes =
    ⊎_elim (λ (none : n ≡ 0). let less : n < length is.bytes = omega arith in less)
    (λ (before : a + n < t.end). let less : n < length is.bytes = omega arith in less) short in
    sym (ap (option_map length) (is.are.beyond n few))

pub field-holds : (elf : Elf) (a n m : ℕ) (z : ℤ) (r : Bool) → option_map length (leb_at elf a n) ≡ Some m →
    ((bs : List ℕ) → AreLebBytes elf a bs → IsTrue r ↔ HoldBits bs z) →
    IsTrue r ↔ IsSomeAnd (leb_at elf a n) (λ bs. HoldBits bs z)
field-holds elf a n m z r size test = by (leb_at elf a n) refl
  where
    by : (o : Option (List ℕ)) → leb_at elf a n ≡ o → IsTrue r ↔ IsSomeAnd (leb_at elf a n) (λ bs. HoldBits bs z)
    by None is = let e : None ≡ Some m = sym (ap (option_map length) is) ∙ size in absurd (cc)
    by (Some bs) is =
        subst (λ (o : Option (List ℕ)). IsTrue r ↔ IsSomeAnd o (λ cs. HoldBits cs z)) (sym is)
        (test bs (bytes-from elf n a bs is))

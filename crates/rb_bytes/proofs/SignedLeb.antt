-- Signed LEB128 numbers: their values, and that the encoding is read back and is the shortest.
use Rattle.std.proofs.Common.{◌≡◌, ◌<◌, ◌≤◌, ◌+◌, ◌-◌, ◌*◌, ◌/◌, ◌%◌, ◌^◌, ℕ, zero, suc, ℤ, pos, negsuc, ◌+ℤ◌, ◌*ℤ◌, ◌-ℤ◌}
use Rattle.std.proofs.Common.{List, [], ◌∷◌, ◌++◌, true, false, nat_lt, arith, refl, sym, ◌∙◌, ap, take, drop, length, Ok}
use Rattle.std.proofs.Common.{inl, inr, length-append, length-take, length-drop, append_assoc}
use lib.Signed.{mag}
use Rattle.std.proofs.lemmas.Bool.{cases_lt}
use Rattle.std.proofs.lemmas.Int.{ints, to_z-of_z}
use Rattle.std.proofs.lemmas.List.{take_at, drop_at}
use Rattle.std.proofs.Math.Nat.{pow-succ', pow-zero}
use Rattle.std.proofs.lemmas.Grind.{common_steps}
use Rattle.std.specs.Prelude.{FitsSigned}
use Rattle.std.specs.Int.{w64}
use Rattle.rb_bytes.specs.declared.gap.Gap.TheVariants.{Short, Wide}
use Rattle.rb_bytes.proofs.ReaderAnswers.{ok_from_tests}
use Rattle.rb_bytes.specs.Leb.{leb_length, signed_bits, sleb_from, sleb_value, sleb_at, low_bits, high_bits, fits_seven_bits}
use Rattle.rb_bytes.specs.Leb.{fits_i64, sleb_within, sleb, IsShortestSleb}

-- Seven bits below a negative number.
below_neg : (low n : ℕ) → low < 128 → pos low +ℤ pos 128 *ℤ negsuc n ≡ negsuc (128 * n + (127 - low))
below_neg low n h = omega (arith, ints)

-- The magnitude of a number with seven bits appended below.
mag-below-ge : (low : ℕ) (z : ℤ) → low < 128 → 128 * mag z ≤ mag (pos low +ℤ pos 128 *ℤ z)
mag-below-ge low (pos n) h = omega arith
mag-below-ge low (negsuc n) h = rw (below_neg low n h) (omega arith)

mag-below-lt : (low m : ℕ) (z : ℤ) → low < 128 → mag z < m → mag (pos low +ℤ pos 128 *ℤ z) < 128 * m
mag-below-lt low m (pos n) h lt = omega arith
mag-below-lt low m (negsuc n) h lt = rw (below_neg low n h) (omega arith)

-- The bytes from index i on have no greater magnitude than all bytes.
sleb_value-drop-le : (i byte : ℕ) (bytes : List ℕ) → i ≤ length bytes →
    mag (sleb_value (drop i (byte ∷ bytes))) ≤ mag (sleb_from byte bytes)
sleb_value-drop-le zero byte bytes h = omega arith
sleb_value-drop-le (suc i) byte [] h = absurd (omega arith)
sleb_value-drop-le (suc i) byte (next ∷ bytes) h =
    omega (arith, sleb_value-drop-le i next bytes (omega arith), mag-below-ge (byte % 128) (sleb_from next bytes) (omega arith))

sleb_value-drop-mul-le : (i byte : ℕ) (bytes : List ℕ) → 0 < i → i ≤ length bytes →
    128 * mag (sleb_value (drop i (byte ∷ bytes))) ≤ mag (sleb_from byte bytes)
sleb_value-drop-mul-le zero byte bytes p h = absurd (omega arith)
sleb_value-drop-mul-le (suc i) byte [] p h = absurd (omega arith)
sleb_value-drop-mul-le (suc i) byte (next ∷ bytes) p h =
    omega (arith, sleb_value-drop-le i next bytes (omega arith), mag-below-ge (byte % 128) (sleb_from next bytes) (omega arith))

fits-shifted : (z : ℤ) → mag z < 2 ^ 56 → FitsSigned w64 (z *ℤ pos 128)
fits-shifted z lt =
    let e : z *ℤ pos 128 ≡ pos 0 +ℤ pos 128 *ℤ z = omega (arith, ints) in
    let shifted : mag (z *ℤ pos 128) < 2 ^ 63 = rw e (omega (arith, mag-below-lt 0 (2 ^ 56) z (omega arith) lt)) in
    record { sfits = shifted }

-- If the value of a suffix times 128 doesn't fit 64 bits, the value of all bytes doesn't fit either.
pub sleb_value-too_large : (i : ℕ) (bytes : List ℕ) → 0 < i → i < length bytes →
    (FitsSigned w64 (sleb_value (drop i bytes) *ℤ pos 128) → ⊥) → FitsSigned w64 (sleb_value bytes) → ⊥
sleb_value-too_large i [] p h large fits = absurd (omega arith)
sleb_value-too_large i (byte ∷ bytes) p h large fits =
    let z = sleb_value (drop i (byte ∷ bytes)) in
    elim (cases_lt (mag z) (2 ^ 56)) [
      | inl lt ↦ large (fits-shifted z lt)
      | inr ge ↦ omega (arith, sleb_value-drop-mul-le i byte bytes p (omega arith), fits.sfits)
    ]

-- The seven bits of a byte, by their sign.
signed_bits-pos : (byte : ℕ) → byte % 128 < 64 → signed_bits byte ≡ pos (byte % 128)
signed_bits-pos byte lt = grind arith

signed_bits-neg : (byte : ℕ) → 64 ≤ byte % 128 → signed_bits byte ≡ negsuc (127 - byte % 128)
signed_bits-neg byte le =
    let e : pos (byte % 128) -ℤ pos 128 ≡ negsuc (127 - byte % 128) = omega (arith, ints) in
    let f : nat_lt (byte % 128) 64 ≡ false = grind arith in rw f e

signed_bits-mag-lt : (byte : ℕ) → mag (signed_bits byte) < 64
signed_bits-mag-lt byte = elim (cases_lt (byte % 128) 64) [
  | inl lt ↦ rw (signed_bits-pos byte lt) lt
  | inr ge ↦ rw (signed_bits-neg byte ge) (omega arith)
]

-- The magnitude of the value of k + 1 bytes is below 64 * 128^k.
sleb_from-mag-lt : (byte : ℕ) (bytes : List ℕ) → mag (sleb_from byte bytes) < 64 * 128 ^ length bytes
sleb_from-mag-lt byte [] = omega (arith, signed_bits-mag-lt byte, pow-zero 128)
sleb_from-mag-lt byte (next ∷ bytes) =
    omega (
      arith,
      mag-below-lt (byte % 128) (64 * 128 ^ length bytes) (sleb_from next bytes) (omega arith)
          (sleb_from-mag-lt next bytes),
      pow-succ' 128 (length bytes),
    )

sleb_value-mag-lt : (bytes : List ℕ) → 0 < length bytes → mag (sleb_value bytes) < 64 * 128 ^ (length bytes - 1)
sleb_value-mag-lt [] h = absurd (omega arith)
sleb_value-mag-lt (byte ∷ bytes) h =
    let e : suc (length bytes) - 1 ≡ length bytes = omega arith in
    rw e (sleb_from-mag-lt byte bytes)

-- The bytes of the encoding.

sleb_within-last : (k : ℕ) (z : ℤ) → fits_seven_bits z ≡ true → sleb_within k z ≡ low_bits z ∷ []
sleb_within-last zero z e = refl
sleb_within-last (suc k) z e = rw e refl

sleb_within-next : (k : ℕ) (z : ℤ) → fits_seven_bits z ≡ false →
    sleb_within (suc k) z ≡ (low_bits z + 128) ∷ sleb_within k (high_bits z)
sleb_within-next k z e = rw e refl

low_bits-lt : (z : ℤ) → low_bits z < 128
low_bits-lt (pos n) = omega arith
low_bits-lt (negsuc n) = omega arith

mag-high_bits : (z : ℤ) → mag (high_bits z) ≡ mag z / 128
mag-high_bits (pos n) = refl
mag-high_bits (negsuc n) = refl

fits_seven_bits-true : (z : ℤ) → mag z < 64 → fits_seven_bits z ≡ true
fits_seven_bits-true (pos n) lt = grind arith
fits_seven_bits-true (negsuc n) lt = grind arith

fits_seven_bits-false : (z : ℤ) → 64 ≤ mag z → fits_seven_bits z ≡ false
fits_seven_bits-false (pos n) le = grind arith
fits_seven_bits-false (negsuc n) le = grind arith

quotient-lt : (k n : ℕ) → n < 64 * 128 ^ suc k → n / 128 < 64 * 128 ^ k
quotient-lt k n lt = let e = pow-succ' 128 k in omega (arith, rw e at lt)

length-sleb_within-pos : (k : ℕ) (z : ℤ) → 0 < length (sleb_within k z)
length-sleb_within-pos zero z = omega arith
length-sleb_within-pos (suc k) z = elim (cases_lt (mag z) 64) [
  | inl lt ↦ rw (sleb_within-last (suc k) z (fits_seven_bits-true z lt)) (omega arith)
  | inr ge ↦ rw (sleb_within-next k z (fits_seven_bits-false z ge)) (omega arith)
]

length-sleb_within-le-suc : (k : ℕ) (z : ℤ) → length (sleb_within k z) ≤ suc k
length-sleb_within-le-suc zero z = omega arith
length-sleb_within-le-suc (suc k) z = elim (cases_lt (mag z) 64) [
  | inl lt ↦ rw (sleb_within-last (suc k) z (fits_seven_bits-true z lt)) (omega arith)
  | inr ge ↦ rw (sleb_within-next k z (fits_seven_bits-false z ge)) (omega (arith, length-sleb_within-le-suc k (high_bits z)))
]

length-sleb_within-le : (k j : ℕ) (z : ℤ) → mag z < 64 * 128 ^ j → length (sleb_within k z) ≤ suc j
length-sleb_within-le zero j z lt = omega arith
length-sleb_within-le (suc k) zero z lt =
    let small : mag z < 64 = omega arith in rw (sleb_within-last (suc k) z (fits_seven_bits-true z small)) (omega arith)
length-sleb_within-le (suc k) (suc j) z lt = elim (cases_lt (mag z) 64) [
  | inl small ↦ rw (sleb_within-last (suc k) z (fits_seven_bits-true z small)) (omega arith)
  | inr ge ↦ rw (sleb_within-next k z (fits_seven_bits-false z ge))
      (omega (arith, length-sleb_within-le k j (high_bits z) (rw (mag-high_bits z) (quotient-lt j (mag z) lt))))
]

sleb_within-more : (k : ℕ) (z : ℤ) → mag z < 64 * 128 ^ k → sleb_within (suc k) z ≡ sleb_within k z
sleb_within-more zero z lt = let small : mag z < 64 = omega arith in sleb_within-last (suc zero) z (fits_seven_bits-true z small)
sleb_within-more (suc k) z lt = elim (cases_lt (mag z) 64) [
  | inl small ↦ sleb_within-last (suc (suc k)) z (fits_seven_bits-true z small)
      ∙ sym (sleb_within-last (suc k) z (fits_seven_bits-true z small))
  | inr ge ↦ let e = fits_seven_bits-false z ge in
      sleb_within-next (suc k) z e
      ∙ ap (λ bytes. (low_bits z + 128) ∷ bytes)
      (sleb_within-more k (high_bits z) (rw (mag-high_bits z) (quotient-lt k (mag z) lt)))
      ∙ sym (sleb_within-next k z e)
]

-- The encoding is read back.

leb_length-last : (byte : ℕ) (rest : List ℕ) → byte < 128 → leb_length (byte ∷ rest) ≡ 1
leb_length-last byte rest lt = grind arith

leb_length-next : (byte : ℕ) (rest : List ℕ) → 128 ≤ byte → leb_length (byte ∷ rest) ≡ suc (leb_length rest)
leb_length-next byte rest le = grind arith

leb_length-sleb_within : (k : ℕ) (z : ℤ) (rest : List ℕ) → leb_length (sleb_within k z ++ rest) ≡ length (sleb_within k z)
leb_length-sleb_within zero z rest = leb_length-last (low_bits z) rest (low_bits-lt z)
leb_length-sleb_within (suc k) z rest = elim (cases_lt (mag z) 64) [
  | inl lt ↦ rw (sleb_within-last (suc k) z (fits_seven_bits-true z lt)) (leb_length-last (low_bits z) rest (low_bits-lt z))
  | inr ge ↦ rw (sleb_within-next k z (fits_seven_bits-false z ge))
      (leb_length-next (low_bits z + 128) (sleb_within k (high_bits z) ++ rest) (omega arith)
      ∙ ap suc (leb_length-sleb_within k (high_bits z) rest))
]

sleb_from-value : (byte : ℕ) (bytes : List ℕ) → 0 < length bytes →
    sleb_from byte bytes ≡ pos (byte % 128) +ℤ pos 128 *ℤ sleb_value bytes
sleb_from-value byte [] h = absurd (omega arith)
sleb_from-value byte (next ∷ bytes) h = refl

signed_bits-low_bits : (z : ℤ) → mag z < 64 → signed_bits (low_bits z) ≡ z
signed_bits-low_bits (pos n) lt = let e : n % 128 % 128 ≡ n = omega arith in signed_bits-pos (n % 128) (omega arith) ∙ ap pos e
signed_bits-low_bits (negsuc n) lt =
    let e : 127 - (127 - n % 128) % 128 ≡ n = omega arith in signed_bits-neg (127 - n % 128) (omega arith) ∙ ap negsuc e

low-high : (z : ℤ) → pos ((low_bits z + 128) % 128) +ℤ pos 128 *ℤ high_bits z ≡ z
low-high (pos n) = ap pos (omega arith)
low-high (negsuc n) =
    let e : 128 * (n / 128) + (127 - (127 - n % 128 + 128) % 128) ≡ n = omega arith in
    below_neg ((127 - n % 128 + 128) % 128) (n / 128) (omega arith) ∙ ap negsuc e

sleb_value-sleb_within : (k : ℕ) (z : ℤ) → mag z < 64 * 128 ^ k → sleb_value (sleb_within k z) ≡ z
sleb_value-sleb_within zero z lt = let small : mag z < 64 = omega arith in signed_bits-low_bits z small
sleb_value-sleb_within (suc k) z lt = elim (cases_lt (mag z) 64) [
  | inl small ↦ rw (sleb_within-last (suc k) z (fits_seven_bits-true z small)) (signed_bits-low_bits z small)
  | inr ge ↦ rw (sleb_within-next k z (fits_seven_bits-false z ge))
      (sleb_from-value (low_bits z + 128) (sleb_within k (high_bits z)) (length-sleb_within-pos k (high_bits z))
      ∙ ap (λ v. pos ((low_bits z + 128) % 128) +ℤ pos 128 *ℤ v)
      (sleb_value-sleb_within k (high_bits z) (rw (mag-high_bits z) (quotient-lt k (mag z) lt)))
      ∙ low-high z)
]

-- Reading.

fits_i64-true : (z : ℤ) → mag z < 2 ^ 63 → fits_i64 z ≡ true
fits_i64-true (pos n) lt = grind arith
fits_i64-true (negsuc n) lt = grind arith

-- The number at the front of `spelling ++ rest` has the bytes `spelling`.
sleb_at-append : (z : ℤ) (spelling rest : List ℕ) → leb_length (spelling ++ rest) ≡ length spelling → sleb_value spelling ≡ z →
    fits_i64 z ≡ true → sleb_at (spelling ++ rest) ≡ Ok (z, rest)
sleb_at-append z spelling rest e value fits =
    let enough : length spelling ≤ length (spelling ++ rest) = omega (arith, length-append spelling rest) in
    let long : nat_lt (length (spelling ++ rest)) (length spelling) ≡ false = grind arith in
    rw (e, take_at spelling rest _ refl, drop_at spelling rest _ refl, value, fits, long) refl

-- What a result `Ok` implies.
sleb_at-ok : (z : ℤ) (bytes rest : List ℕ) → sleb_at bytes ≡ Ok (z, rest) → (leb_length bytes ≤ length bytes)
    × (sleb_value (take (leb_length bytes) bytes) ≡ z) × (drop (leb_length bytes) bytes ≡ rest)
sleb_at-ok z bytes rest e =
    let k = leb_length bytes in let value = sleb_value (take k bytes) in
    let p = ok_from_tests (nat_lt (length bytes) k) (fits_i64 value) (value, drop k bytes) (z, rest) Short Wide e in
    let long = p.0 in
    (grind (arith, common_steps), ap (λ q. q.0) p.1, ap (λ q. q.1) p.1)

-- The encoding of a number that k bytes are read as has at most k bytes.
sleb_within-le-read : (j k : ℕ) (z : ℤ) (bytes rest : List ℕ) → 0 < k → k ≤ length bytes → sleb_value (take k bytes) ≡ z →
    drop k bytes ≡ rest → length (sleb_within j z) + length rest ≤ length bytes
sleb_within-le-read j k z bytes rest h enough value e =
    let taken : length (take k bytes) ≡ k = simp length-take (omega arith) in
    let some : 0 < length (take k bytes) = omega arith in
    let lt : mag z < 64 * 128 ^ (k - 1) = rw (taken, value) at (sleb_value-mag-lt (take k bytes) some) in
    let left : length rest + k ≡ length bytes = rw (← e) (simp length-drop (omega arith)) in
    omega (arith, length-sleb_within-le j (k - 1) z lt)

IsShortestSleb-mag : (z : ℤ) → mag z < 2 ^ 63 → IsShortestSleb z (sleb z)
unfolding sleb
IsShortestSleb-mag z lt = record {
  reads_back = λ rest. sleb_at-append z (sleb_within 9 z) rest (leb_length-sleb_within 9 z rest)
      (sleb_value-sleb_within 9 z (omega arith)) (fits_i64-true z lt);
  shortest = λ bytes rest e. let o = sleb_at-ok z bytes rest e in
      sleb_within-le-read 9 (leb_length bytes) z bytes rest (omega arith) o.0 o.1 o.2;
}

pub IsShortestSleb-sleb : (z : ℤ) → FitsSigned w64 z → IsShortestSleb z (sleb z)
IsShortestSleb-sleb z fits = IsShortestSleb-mag z fits.sfits

-- Lemmas for the writer's loop.

pub length-sleb-le : (z : ℤ) → length (sleb z) ≤ 10
unfolding sleb
length-sleb-le z = length-sleb_within-le-suc 9 z

pub length-sleb-pos : (z : ℤ) → 0 < length (sleb z)
unfolding sleb
length-sleb-pos z = length-sleb_within-pos 9 z

pub sleb-last : (z : ℤ) → fits_seven_bits z ≡ true → sleb z ≡ low_bits z ∷ []
unfolding sleb
sleb-last z e = sleb_within-last 9 z e

pub sleb-next : (z : ℤ) → fits_seven_bits z ≡ false → FitsSigned w64 z → sleb z ≡ (low_bits z + 128) ∷ sleb (high_bits z)
unfolding sleb
sleb-next z e fits = let lt = fits.sfits in sleb_within-next 8 z e
    ∙ ap (λ bytes. (low_bits z + 128) ∷ bytes) (sym (sleb_within-more 8 (high_bits z) (rw (mag-high_bits z) (omega arith))))

pub ruleset spellings = (IsShortestSleb-sleb, length-sleb-le, length-sleb-pos, sleb-last, sleb-next, append_assoc, to_z-of_z)

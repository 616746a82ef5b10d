-- Unsigned LEB128 numbers: their values, and that the encoding is read back and is the shortest.
use Rattle.std.proofs.Common.{◌≡◌, ◌<◌, ◌≤◌, ◌+◌, ◌-◌, ◌*◌, ◌/◌, ◌%◌, ◌^◌, ℕ, zero, suc, List, [], ◌∷◌, ◌++◌, nat_lt, arith}
use Rattle.std.proofs.Common.{refl, sym, ◌∙◌, ap, take, drop, length, Ok, length-append, length-take}
use Rattle.std.proofs.Common.{length-drop, append_assoc}
use Rattle.std.proofs.lemmas.List.{take_at, drop_at}
use Rattle.std.proofs.Math.Nat.{pow-succ', pow-zero}
use Rattle.std.proofs.lemmas.Grind.{common_steps}
use Rattle.rb_bytes.specs.declared.gap.Gap.TheVariants.{Short, Wide}
use Rattle.rb_bytes.proofs.ReaderAnswers.{ok_from_tests}
use Rattle.rb_bytes.specs.Leb.{leb_length, uleb_value, uleb_at, uleb_within, uleb, IsShortestUleb}

-- The bytes from index i on have no greater value than all bytes.
uleb_value-drop-le : (i : ℕ) (bytes : List ℕ) → uleb_value (drop i bytes) ≤ uleb_value bytes
uleb_value-drop-le zero bytes = grind (arith, common_steps)
uleb_value-drop-le (suc i) [] = omega arith
uleb_value-drop-le (suc i) (byte ∷ bytes) = omega (arith, uleb_value-drop-le i bytes)

-- If i is above 0, the value is at least 128 times less.
pub uleb_value-drop-mul-le : (i : ℕ) (bytes : List ℕ) → 0 < i → 128 * uleb_value (drop i bytes) ≤ uleb_value bytes
uleb_value-drop-mul-le zero bytes h = absurd (omega arith)
uleb_value-drop-mul-le (suc i) [] h = omega arith
uleb_value-drop-mul-le (suc i) (byte ∷ bytes) h = omega (arith, uleb_value-drop-le i bytes)

uleb_value-lt : (bytes : List ℕ) → uleb_value bytes < 128 ^ length bytes
uleb_value-lt [] = omega (arith, pow-zero 128)
uleb_value-lt (byte ∷ bytes) = omega (arith, uleb_value-lt bytes, pow-succ' 128 (length bytes))

-- Each byte holds at most seven bits of the number.
quotient-lt : (k n : ℕ) → n < 128 ^ suc k → n / 128 < 128 ^ k
quotient-lt k n lt = let e = pow-succ' 128 k in omega (arith, rw e at lt)

uleb_value-uleb_within : (k n : ℕ) → n < 128 ^ suc k → uleb_value (uleb_within k n) ≡ n
uleb_value-uleb_within zero n lt = omega arith
uleb_value-uleb_within (suc k) n lt = let ih = uleb_value-uleb_within k (n / 128) (quotient-lt (suc k) n lt) in grind arith

leb_length-uleb_within : (k n : ℕ) (rest : List ℕ) → n < 128 ^ suc k →
    leb_length (uleb_within k n ++ rest) ≡ length (uleb_within k n)
leb_length-uleb_within zero n rest lt = let small : n < 128 = omega arith in grind arith
leb_length-uleb_within (suc k) n rest lt =
    let ih = leb_length-uleb_within k (n / 128) rest (quotient-lt (suc k) n lt) in grind arith

length-uleb_within-le : (k j n : ℕ) → 0 < j → n < 128 ^ j → length (uleb_within k n) ≤ j
length-uleb_within-le zero j n h lt = omega arith
length-uleb_within-le (suc k) zero n h lt = absurd (omega arith)
length-uleb_within-le (suc k) (suc zero) n h lt = let small : n < 128 = omega arith in grind arith
length-uleb_within-le (suc k) (suc (suc j)) n h lt =
    let ih = length-uleb_within-le k (suc j) (n / 128) (omega arith) (quotient-lt (suc j) n lt) in grind arith

-- The bytes of the encoding.

uleb_within-more : (k n : ℕ) → n < 128 ^ suc k → uleb_within (suc k) n ≡ uleb_within k n
uleb_within-more zero n lt = let small : n < 128 = omega arith in grind arith
uleb_within-more (suc k) n lt = let ih = uleb_within-more k (n / 128) (quotient-lt (suc k) n lt) in grind arith

length-uleb_within-le-suc : (k n : ℕ) → length (uleb_within k n) ≤ suc k
length-uleb_within-le-suc zero n = omega arith
length-uleb_within-le-suc (suc k) n = let ih = length-uleb_within-le-suc k (n / 128) in grind arith

pub length-uleb-le : (n : ℕ) → length (uleb n) ≤ 10
unfolding uleb
length-uleb-le n = length-uleb_within-le-suc 9 n

pub uleb-last : (n : ℕ) → n < 128 → uleb n ≡ n ∷ []
unfolding uleb
uleb-last n lt = uleb_within-last 8 n lt where
  uleb_within-last : (k n : ℕ) → n < 128 → uleb_within (suc k) n ≡ n ∷ []
  uleb_within-last k n lt = grind arith

uleb_within-next : (k n : ℕ) → 128 ≤ n → uleb_within (suc k) n ≡ (n % 128 + 128) ∷ uleb_within k (n / 128)
uleb_within-next k n le = grind arith

pub uleb-next : (n : ℕ) → 128 ≤ n → n < 2 ^ 64 → uleb n ≡ (n % 128 + 128) ∷ uleb (n / 128)
unfolding uleb
uleb-next n le lt =
    uleb_within-next 8 n le ∙ ap (λ bytes. (n % 128 + 128) ∷ bytes) (sym (uleb_within-more 8 (n / 128) (omega arith)))

length-uleb_within-pos : (k n : ℕ) → 0 < length (uleb_within k n)
length-uleb_within-pos zero n = omega arith
length-uleb_within-pos (suc k) n = grind arith

pub length-uleb-pos : (n : ℕ) → 0 < length (uleb n)
unfolding uleb
length-uleb-pos n = length-uleb_within-pos 9 n

-- Reading.

-- The number at the front of `spelling ++ rest` has the bytes `spelling`.
uleb_at-append : (spelling rest : List ℕ) → leb_length (spelling ++ rest) ≡ length spelling → uleb_value spelling < 2 ^ 64 →
    uleb_at (spelling ++ rest) ≡ Ok (uleb_value spelling, rest)
uleb_at-append spelling rest e lt =
    let enough : length spelling ≤ length (spelling ++ rest) = omega (arith, length-append spelling rest) in
    rw (e, take_at spelling rest _ refl, drop_at spelling rest _ refl) (grind arith)

uleb_at-ok : (n : ℕ) (bytes rest : List ℕ) → uleb_at bytes ≡ Ok (n, rest) → (leb_length bytes ≤ length bytes)
    × (uleb_value (take (leb_length bytes) bytes) ≡ n) × (drop (leb_length bytes) bytes ≡ rest)
uleb_at-ok n bytes rest e =
    let k = leb_length bytes in let value = uleb_value (take k bytes) in
    let p = ok_from_tests (nat_lt (length bytes) k) (nat_lt value (2 ^ 64)) (value, drop k bytes) (n, rest) Short Wide e in
    let long = p.0 in
    (grind (arith, common_steps), ap (λ q. q.0) p.1, ap (λ q. q.1) p.1)

-- The encoding of a number that k bytes are read as has at most k bytes.
uleb_within-le-read : (j k n : ℕ) (bytes rest : List ℕ) → 0 < k → k ≤ length bytes → uleb_value (take k bytes) ≡ n →
    drop k bytes ≡ rest → length (uleb_within j n) + length rest ≤ length bytes
uleb_within-le-read j k n bytes rest h enough value e =
    let taken : length (take k bytes) ≡ k = simp length-take (omega arith) in
    let lt : n < 128 ^ k = rw (taken, value) at (uleb_value-lt (take k bytes)) in
    let left : length rest + k ≡ length bytes = rw (← e) (simp length-drop (omega arith)) in
    omega (arith, length-uleb_within-le j k n h lt)

pub IsShortestUleb-uleb : (n : ℕ) → n < 2 ^ 64 → IsShortestUleb n (uleb n)
unfolding uleb
IsShortestUleb-uleb n lt =
    let value = uleb_value-uleb_within 9 n (omega arith) in record {
      reads_back = λ rest. uleb_at-append (uleb_within 9 n) rest (leb_length-uleb_within 9 n rest (omega arith)) (rw value lt)
          ∙ ap (λ v. Ok (v, rest)) value;
      shortest = λ bytes rest e. let o = uleb_at-ok n bytes rest e in
          uleb_within-le-read 9 (leb_length bytes) n bytes rest (omega arith) o.0 o.1 o.2;
    }

pub ruleset spellings = (IsShortestUleb-uleb, length-uleb-le, length-uleb-pos, uleb-last, uleb-next, append_assoc)

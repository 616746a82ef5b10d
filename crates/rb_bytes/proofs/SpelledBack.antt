-- Numbers and texts that are written are read back, whatever follows them.
use Rattle.std.proofs.Common.{◌≡◌, ◌<◌, ◌^◌, ◌+◌, ◌++◌, ℕ, ℤ, List, ◌∷◌, Result, Ok, false, refl, sym, ap, arith}
use Rattle.std.proofs.Common.{length, take, drop, nat_lt, length-append, FitsSigned}
use Rattle.std.specs.Int.{w64}
use Rattle.std.proofs.lemmas.Bool.Decides.{nat_tests}
use Rattle.std.proofs.lemmas.Grind.{common_steps}
use Rattle.byteorder.specs.Endian.{little_number, little_bytes}
use Rattle.byteorder.specs.Numbers.{little_number-reads_back, length-bytes_low_first}
use Rattle.rb_bytes.specs.declared.gap.Gap.{Gap}
use Rattle.rb_bytes.specs.Readers.{number_read, bytes_at}
use Rattle.rb_bytes.specs.Leb.{uleb_at, sleb_at, uleb, sleb}
use Rattle.rb_bytes.proofs.UnsignedLeb.{IsShortestUleb-uleb}
use Rattle.rb_bytes.proofs.SignedLeb.{IsShortestSleb-sleb}

pub length-little : (n x : ℕ) → length (little_bytes n x) ≡ n
length-little n x = length-bytes_low_first 0 n x

pub number_back : (n x : ℕ) (rest : List ℕ) → x < 256 ^ n → number_read n (little_bytes n x ++ rest) ≡ Ok (x, rest)
number_back n x rest h =
    let l : n ≡ length (little_bytes n x) = sym (length-little n x) in
    let e : little_number n (little_bytes n x ++ rest) ≡ x = little_number-reads_back n x rest h in
    let r : drop n (little_bytes n x ++ rest) ≡ rest = grind (arith, common_steps) in
    let t : nat_lt (length (little_bytes n x ++ rest)) n ≡ false = grind (arith, nat_tests, length-append (little_bytes n x) rest) in
    rw (t, e, r) refl

pub byte_back : (b : ℕ) (rest : List ℕ) → number_read 1 (b ∷ rest) ≡ Ok (b, rest)
byte_back b rest =
    let t : nat_lt (length (b ∷ rest)) 1 ≡ false = grind (arith, nat_tests) in
    let z : b + 0 ≡ b = omega arith in
    let found : ℕ → Result (ℕ × List ℕ) Gap = λ n. Ok (n, rest) in
    rw t (ap found z)

pub bytes_back : (bytes rest : List ℕ) → bytes_at (length bytes) (bytes ++ rest) ≡ Ok (bytes, rest)
bytes_back bytes rest =
    let s : take (length bytes) (bytes ++ rest) ≡ bytes = grind (arith, common_steps) in
    let r : drop (length bytes) (bytes ++ rest) ≡ rest = grind (arith, common_steps) in
    let t : nat_lt (length (bytes ++ rest)) (length bytes) ≡ false = grind (arith, nat_tests, length-append bytes rest) in
    rw (t, s, r) refl

pub uleb_back : (n : ℕ) (rest : List ℕ) → n < 2 ^ 64 → uleb_at (uleb n ++ rest) ≡ Ok (n, rest)
uleb_back n rest h = (IsShortestUleb-uleb n h).reads_back rest

pub sleb_back : (z : ℤ) (rest : List ℕ) → FitsSigned w64 z → sleb_at (sleb z ++ rest) ≡ Ok (z, rest)
sleb_back z rest h = (IsShortestSleb-sleb z h).reads_back rest

-- Numbers and blocks that are written are read back.
use Rattle.std.proofs.Common.{ℕ, zero, suc, ℤ, ◌^◌, ◌<◌, ◌≡◌, List, ◌∷◌, ◌++◌, Result, Ok, ltb, false, refl, sym, ◌∙◌}
use Rattle.std.proofs.Common.{ap, arith, length, take, drop, append_assoc, length-append, FitsSigned}
use Rattle.std.specs.Int.{w64}
use Rattle.std.proofs.lemmas.Bool.Decides.{nat_tests}
use Rattle.std.proofs.lemmas.Grind.{common_steps}
use Rattle.byteorder.specs.Endian.{little_number, little_bytes}
use Rattle.byteorder.specs.Numbers.{little_number-reads_back, length-bytes_low_first}
use Rattle.rb_bytes.specs.Readers.{number_read, bytes_at, and_then}
use Rattle.rb_bytes.specs.Leb.{uleb, sleb}
use Rattle.rb_bytes.proofs.UnsignedLeb.{IsShortestUleb-uleb}
use Rattle.rb_bytes.proofs.SignedLeb.{IsShortestSleb-sleb}
use Rattle.cfi_rows.specs.declared.instruction.Malformed.{Malformed}
use Rattle.cfi_rows.specs.FrameInstructions.{whole, Read, uleb_then, sleb_then, block_at}
use Rattle.frame_rewrite.specs.SpelledFrames.{spelled_block, zeros}

pub drop-front : (xs ys : List ℕ) (n : ℕ) → n ≡ length xs → drop n (xs ++ ys) ≡ ys
drop-front xs ys n e = grind (arith, common_steps)

pub take-front : (xs ys : List ℕ) (n : ℕ) → n ≡ length xs → take n (xs ++ ys) ≡ xs
take-front xs ys n e = grind (arith, common_steps)

pub length-little : (n d : ℕ) → length (little_bytes n d) ≡ n
length-little n d = length-bytes_low_first 0 n d

pub read_pair : {X : Type 0} (a b : X) (r t : List ℕ) → a ≡ b → r ≡ t
    → ◌≡◌ {A = Result (X × List ℕ) Malformed} (Ok (a, r)) (Ok (b, t))
read_pair a b r t e f = cc

pub number-back : (n d : ℕ) (rest : List ℕ) → d < 256 ^ n → whole (number_read n (little_bytes n d ++ rest)) ≡ Ok (d, rest)
number-back n d rest f =
    let l : n ≡ length (little_bytes n d) = sym (length-little n d) in
    let v : little_number n (little_bytes n d ++ rest) ≡ d = little_number-reads_back n d rest f in
    let r : drop n (little_bytes n d ++ rest) ≡ rest = drop-front (little_bytes n d) rest n l in
    let t : ltb (length (little_bytes n d ++ rest)) n ≡ false = grind (arith, nat_tests, length-append {A = ℕ}) in
    rw t (read_pair _ d _ rest v r)

pub byte-back : (b : ℕ) (rest : List ℕ) → whole (number_read 1 (b ∷ rest)) ≡ Ok (b, rest)
byte-back b rest =
    let t : ltb (length (b ∷ rest)) 1 ≡ false = grind (arith, nat_tests) in
    let v : little_number 1 (b ∷ rest) ≡ b = omega arith in
    rw t (read_pair _ b _ rest v refl)

pub uleb-back : {X : Type 0} (n : ℕ) (rest : List ℕ) (next : ℕ → List ℕ → Read X) → n < 2 ^ 64
    → uleb_then (uleb n ++ rest) next ≡ next n rest
uleb-back n rest next h = ap (λ (r : Result (ℕ × List ℕ) _). and_then (whole r) next)
    ((IsShortestUleb-uleb n h).reads_back rest)

pub sleb-back : {X : Type 0} (n : ℤ) (rest : List ℕ) (next : ℤ → List ℕ → Read X) → FitsSigned w64 n
    → sleb_then (sleb n ++ rest) next ≡ next n rest
sleb-back n rest next h = ap (λ (r : Result (ℤ × List ℕ) _). and_then (whole r) next)
    ((IsShortestSleb-sleb n h).reads_back rest)

pub bytes-back : (b rest : List ℕ) → whole (bytes_at (length b) (b ++ rest)) ≡ Ok (b, rest)
bytes-back b rest =
    let t : ltb (length (b ++ rest)) (length b) ≡ false = grind (arith, nat_tests, length-append {A = ℕ}) in
    rw t (read_pair _ b _ rest (take-front b rest (length b) refl) (drop-front b rest (length b) refl))

pub block-back : (b rest : List ℕ) → length b < 2 ^ 64 → block_at (spelled_block b ++ rest) ≡ Ok (b, rest)
block-back b rest h =
    ap block_at (append_assoc (uleb (length b)) b rest) ∙ uleb-back (length b) (b ++ rest) _ h ∙ bytes-back b rest

pub length-zeros : (k : ℕ) → length (zeros k) ≡ k
length-zeros zero = refl
length-zeros (suc k) = let h : length (zeros k) ≡ k = length-zeros k in omega arith

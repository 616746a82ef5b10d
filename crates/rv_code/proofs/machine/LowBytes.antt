-- The low bytes of a number, the number of a list of bytes, and the bytes of a list of numbers.
use Rattle.std.proofs.Common.{◌≡◌, ℕ, zero, suc, ◌+◌, ◌-◌, ◌*◌, ◌/◌, ◌%◌, ◌^◌, ◌<◌, List, [], ◌∷◌, length, refl, sym}
use Rattle.std.proofs.Common.{ap, ◌∙◌, arith, get_or, All, div-one}
use Rattle.std.specs.Prelude.{flat_map}
use Rattle.std.proofs.Math.Arith.{mod-mul}
use Rattle.std.proofs.Math.Nat.{div-div-eq-div-mul, one-le-pow}
use Rattle.std.proofs.lemmas.List.{get_or_append_left, get_or-append_right, length-append}
use Rattle.std.proofs.lemmas.List.Elements.{All-head, All-tail}
use Rattle.rv_code.specs.machine.Machine.{little, low_bytes}

pub length_low_bytes : (n x : ℕ) → length (low_bytes n x) ≡ n
unfolding low_bytes
length_low_bytes zero x = refl
length_low_bytes (suc n) x = ap suc (length_low_bytes n (x / 256))

-- The lowest byte and the bytes above it.
pub low_rest : (x m : ℕ) → 0 < m → x % 256 + 256 * (x / 256 % m) ≡ x % (256 * m)
low_rest x m h =
    let e : x % (m * 256) ≡ x / 256 % m * 256 + x % 256 = mod-mul x h (omega arith) in let f : m * 256 ≡ 256 * m =
    omega arith in let g : x % (256 * m) ≡ x % (m * 256) = rw f refl in omega (arith, e, g)

-- The number of a number's low bytes.
pub little_low_bytes : (n x : ℕ) → little (low_bytes n x) ≡ x % 256 ^ n
unfolding little low_bytes
little_low_bytes zero x = omega arith
little_low_bytes (suc n) x =
    let e : 256 ^ suc n ≡ 256 * 256 ^ n = grind arith in let h : 0 < 256 ^ n = one-le-pow n 256 (omega arith) in
    rw (little_low_bytes n (x / 256), e) (low_rest x (256 ^ n) h)

-- Byte i of a number's low bytes.
pub low_bytes_at : (n x i : ℕ) → i < n → get_or (low_bytes n x) i 0 ≡ x / 256 ^ i % 256
unfolding low_bytes
low_bytes_at zero x i h = absurd (omega (arith, h))
low_bytes_at (suc n) x zero h = rw (div-one x) refl
low_bytes_at (suc n) x (suc i) h =
    let p : 256 ^ suc i ≡ 256 * 256 ^ i = grind arith in
    low_bytes_at n (x / 256) i (omega (arith, h)) ∙ ap (λ (y : ℕ). y % 256) (div-div-eq-div-mul x 256 (256 ^ i)
    ∙ ap (λ (d : ℕ). x / d) (sym p))

-- Byte i of the number of a list of bytes.
pub little_at : (bs : List ℕ) (i : ℕ) → All (λ b. b < 256) bs → i < length bs → get_or bs i 0 ≡ little bs / 256 ^ i % 256
unfolding little
little_at [] i all h = absurd (omega (arith, h))
little_at (b ∷ bs) zero all h =
    let low = All-head (λ b. b < 256) b bs all in rw (div-one (b + 256 * little bs)) (omega (arith, low))
little_at (b ∷ bs) (suc i) all h =
    let low = All-head (λ b. b < 256) b bs all in
    let p : 256 ^ suc i ≡ 256 * 256 ^ i = grind arith in
    let down : (b + 256 * little bs) / 256 ≡ little bs = omega (arith, low) in
    little_at bs i (All-tail (λ b. b < 256) b bs all) (omega (arith, h))
    ∙ ap (λ (y : ℕ). y % 256) (ap (λ (y : ℕ). y / 256 ^ i) (sym down) ∙ div-div-eq-div-mul (b + 256 * little bs) 256
    (256 ^ i) ∙ ap (λ (d : ℕ). (b + 256 * little bs) / d) (sym p))

pub length_numbers : (ns : List ℕ) → length (flat_map (low_bytes 8) ns) ≡ 8 * length ns
length_numbers [] = refl
length_numbers (w ∷ ns) =
    let a = length-append (low_bytes 8 w) (flat_map (low_bytes 8) ns) in let b = length_low_bytes 8 w in
    let c = length_numbers ns in omega (arith, a, b, c)

-- Byte i of number j in the bytes of a list of numbers.
pub numbers_at : (ns : List ℕ) (j i : ℕ) → j < length ns → i < 8 →
    get_or (flat_map (low_bytes 8) ns) (8 * j + i) 0 ≡ get_or ns j 0 / 256 ^ i % 256
numbers_at [] j i h k = absurd (omega (arith, h))
numbers_at (w ∷ ns) zero i h k =
    let len = length_low_bytes 8 w in
    let at : 8 * 0 + i ≡ i = omega arith in
    ap (λ (n : ℕ). get_or (flat_map (low_bytes 8) (w ∷ ns)) n 0) at ∙ get_or_append_left (low_bytes 8 w)
    (flat_map (low_bytes 8) ns) 0 i (omega (arith, len, k)) ∙ low_bytes_at 8 w i k
numbers_at (w ∷ ns) (suc j) i h k =
    let len = length_low_bytes 8 w in
    let at : 8 * suc j + i - 8 ≡ 8 * j + i = omega arith in
    get_or-append_right (low_bytes 8 w) (flat_map (low_bytes 8) ns) 8 (8 * suc j + i) 0 len (omega arith)
    ∙ ap (λ (n : ℕ). get_or (flat_map (low_bytes 8) ns) n 0) at ∙ numbers_at ns j i (omega (arith, h)) k

-- Consecutive bytes of memory, one by one.
use Rattle.std.proofs.Common.{◌≡◌, ℕ, zero, suc, ◌+◌, ◌-◌, ◌*◌, ◌/◌, ◌<◌, ◌≤◌, ◌^◌, Bool, true, List, [], ◌∷◌, ◌++◌, length, take, drop}
use Rattle.std.proofs.Common.{get_or, refl, ap, arith, append_assoc, append-nil, div-one, drop_of_length-le, drop-cons}
use Rattle.std.specs.Prelude.{if◌then◌else◌, ◌==◌, ◌&&◌}
use Rattle.std.proofs.Math.Nat.{pow-le-pow_right, pow-suc, div-div-eq-div-mul}
use Rattle.rv_code.specs.machine.Machine.{plus, memory_bytes, put, little, all_may, low_bytes}
use Rattle.std.specs.Int.{w64, to_le_bytes, bytes_low_first}
use Rattle.rb_bytes.proofs.NumberBytes.{byte_at-power}
use Rattle.std.proofs.lemmas.Grind.{common_steps}

pub little_none : (memory : ℕ → ℕ) (a n : ℕ) → n ≡ 0 → little (memory_bytes memory a n) ≡ 0
unfolding memory_bytes little
little_none memory a n e = rw e refl

pub little_step : (memory : ℕ → ℕ) (a n : ℕ) → 0 < n →
    little (memory_bytes memory a n) ≡ memory a + 256 * little (memory_bytes memory (plus a 1) (n - 1))
unfolding memory_bytes little
little_step memory a zero h = absurd (omega arith)
little_step memory a (suc n) h = let e : suc n - 1 ≡ n = omega arith in rw e refl

pub bytes_none : (memory : ℕ → ℕ) (a n : ℕ) → n ≡ 0 → memory_bytes memory a n ≡ []
unfolding memory_bytes
bytes_none memory a n e = rw e refl

-- The bytes from a + i on start with the byte there.
pub bytes_next : (memory : ℕ → ℕ) (a i n : ℕ) → i < n →
    memory_bytes memory (plus a i) (n - i) ≡ memory (plus a i) ∷ memory_bytes memory (plus a (i + 1)) (n - (i + 1))
unfolding memory_bytes
bytes_next memory a i n h = grind (arith, common_steps)

-- The bytes copied so far, with one more.
pub bytes_more : (memory : ℕ → ℕ) (a i n : ℕ) (front whole : List ℕ) → i < n →
    front ++ memory_bytes memory (plus a i) (n - i) ≡ whole →
    (front ++ memory (plus a i) ∷ []) ++ memory_bytes memory (plus a (i + 1)) (n - (i + 1)) ≡ whole
bytes_more memory a i n front whole h e = grind (arith, common_steps, append_assoc, bytes_next)

-- No byte is left.
pub bytes_all : (memory : ℕ → ℕ) (a i n : ℕ) (front whole : List ℕ) → n ≤ i →
    front ++ memory_bytes memory (plus a i) (n - i) ≡ whole → front ≡ whole
bytes_all memory a i n front whole h e = grind (arith, common_steps, bytes_none, append-nil, div-one)

-- Seven bytes fit 56 bits.
pub byte_power : (n : ℕ) → n ≤ 7 → 256 ^ n ≤ 2 ^ 56
byte_power n h = pow-le-pow_right {n = 256} (omega arith) {i = n} {j = 7} h

pub put_none : (memory : ℕ → ℕ) (a q : ℕ) (bytes : List ℕ) →
    memory q ≡ put memory (plus a (length bytes)) (drop (length bytes) bytes) q
unfolding put
put_none memory a q bytes = let none : drop (length bytes) bytes ≡ [] = drop_of_length-le bytes (omega arith) in rw none refl

-- The bytes from index i on, with the first of them written last.
pub put_next : (memory : ℕ → ℕ) (a i q : ℕ) (bytes : List ℕ) → i < length bytes →
    put memory (plus a i) (drop i bytes) q
    ≡ (if q == plus a i then get_or bytes i 0 else put memory (plus a (i + 1)) (drop (i + 1) bytes) q)
unfolding put
put_next memory a i q bytes h = grind (arith, common_steps, drop-cons)

pub all_may_none : (may : ℕ → Bool) (a n : ℕ) → n ≡ 0 → all_may may a n ≡ true
unfolding all_may
all_may_none may a n e = rw e refl

pub all_may_next : (may : ℕ → Bool) (a i n : ℕ) → i < n → all_may may (plus a i) (n - i) ≡ may (plus a i)
    && all_may may (plus a (i + 1)) (n - (i + 1))
unfolding all_may
all_may_next may a i n h = grind (arith, common_steps)

pub bytes_low_first-low_bytes : (i n k v : ℕ) → n ≤ k → take n (bytes_low_first i k v) ≡ low_bytes n (v / 256 ^ i)
unfolding low_bytes
bytes_low_first-low_bytes i zero k v h = refl
bytes_low_first-low_bytes i (suc n) zero v h = absurd (omega arith)
bytes_low_first-low_bytes i (suc n) (suc k) v h =
    grind (arith, common_steps, div-div-eq-div-mul, pow-suc, byte_at-power, bytes_low_first-low_bytes (suc i) n k v (omega arith))

-- The low bytes of a number, among all eight.
pub low_bytes_of : (n v : ℕ) → n ≤ 8 → take n (to_le_bytes w64 v) ≡ low_bytes n v
low_bytes_of n v h = rw (div-one v) at (bytes_low_first-low_bytes 0 n 8 v h)

-- Bytes that are written over the same memory.
pub put_same : (old new : ℕ → ℕ) → ((q : ℕ) → old q ≡ new q) → (a q : ℕ) (bytes : List ℕ) → put old a bytes q ≡ put new a bytes q
unfolding put
put_same old new same a q [] = same q
put_same old new same a q (b ∷ bytes) = ap (λ rest. if q == a then b else rest) (put_same old new same (plus a 1) q bytes)

-- The eight bytes of a number.
pub to_le_bytes-low_bytes : (v : ℕ) → to_le_bytes w64 v ≡ low_bytes 8 v
to_le_bytes-low_bytes v = low_bytes_of 8 v (omega arith)

pub ruleset number_bytes = to_le_bytes-low_bytes

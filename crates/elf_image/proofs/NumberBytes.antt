-- Numbers in equal bytes of two lists.
use Rattle.std.proofs.Common.{◌≡◌, ℕ, zero, suc, ◌+◌, ◌≤◌, ◌<◌, List, get_or, arith, refl}
use Rattle.byteorder.specs.Endian.{little_from}

-- A number only depends on its bytes.
pub little_from-same : (i n : ℕ) (xs ys : List ℕ) → ((k : ℕ) → i ≤ k → k < i + n → get_or xs k 0 ≡ get_or ys k 0) →
    little_from i n xs ≡ little_from i n ys
little_from-same i zero xs ys same = refl
little_from-same i (suc n) xs ys same =
    let first : get_or xs i 0 ≡ get_or ys i 0 = same i (omega arith) (omega arith) in
    let rest : little_from (suc i) n xs ≡ little_from (suc i) n ys =
    little_from-same (suc i) n xs ys (λ k low high. same k (omega arith) (omega arith)) in
    cc

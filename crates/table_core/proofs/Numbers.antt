-- The number in the bytes that were taken.
use Rattle.std.proofs.Common.{◌≡◌, ◌≤◌, ◌<◌, ◌+◌, ◌*◌, ℕ, zero, suc, List, Bool, true, false, cond, Ok, Err, Result, refl, ap, sym, ◌∙◌}
use Rattle.std.proofs.Common.{arith, take, drop, length, nat_lt, get_or, get_or-take}
use Rattle.byteorder.specs.Endian.{little_from, little_number}
use Rattle.rb_bytes.specs.declared.gap.Gap.{Gap}
use Rattle.rb_bytes.specs.declared.gap.Gap.TheVariants.{Short}
use Rattle.rb_bytes.specs.Readers.{bytes_at, number_read}

pub little_from-take : (n i m : ℕ) (xs : List ℕ) → i + n ≤ m → little_from i n (take m xs) ≡ little_from i n xs
little_from-take zero i m xs h = refl
little_from-take (suc n) i m xs h =
    let lt : i < m = omega arith in
    let here : get_or (take m xs) i 0 ≡ get_or xs i 0 = get_or-take m xs i 0 lt in
    let more = little_from-take n (suc i) m xs (omega arith) in
    ap (λ (x : ℕ). x + 256 * little_from (suc i) n (take m xs)) here ∙ ap (λ (x : ℕ). get_or xs i 0 + 256 * x) more

value_by : {X E : Type 0} → X → Result (X × List ℕ) E → X
value_by d (Ok read) = read.0
value_by d (Err e) = d

left_by : {X E : Type 0} → List ℕ → Result (X × List ℕ) E → List ℕ
left_by d (Ok read) = read.1
left_by d (Err e) = d

-- Two equal readings gave the same value and left the same bytes.
pub same_value : {X E : Type 0} (a c : X) (b d : List ℕ) → ◌≡◌ {A = Result (X × List ℕ) E} (Ok (a, b)) (Ok (c, d)) → a ≡ c
unfolding value_by
same_value {X = X} {E = E} a c b d e = ap (λ (r : Result (X × List ℕ) E). value_by a r) e

pub same_left : {X E : Type 0} (a c : X) (b d : List ℕ) → ◌≡◌ {A = Result (X × List ℕ) E} (Ok (a, b)) (Ok (c, d)) → b ≡ d
unfolding left_by
same_left {X = X} {E = E} a c b d e = ap (λ (r : Result (X × List ℕ) E). left_by b r) e

number_by : (short : Bool) (n : ℕ) (left bytes rest : List ℕ) →
    ◌≡◌ {A = Result (List ℕ × List ℕ) Gap} (cond short (Err Short) (Ok (take n left, drop n left))) (Ok (bytes, rest)) →
    ◌≡◌ {A = Result (ℕ × List ℕ) Gap} (cond short (Err Short) (Ok (little_number n left, drop n left))) (Ok (little_number n bytes, rest))
number_by true n left bytes rest e = absurd (cc)
number_by false n left bytes rest e =
    let taken : take n left ≡ bytes = same_value _ _ _ _ e in
    let behind : drop n left ≡ rest = same_left _ _ _ _ e in
    let same : little_number n bytes ≡ little_number n left =
    ap (λ (xs : List ℕ). little_number n xs) (sym taken) ∙ little_from-take n 0 n left (omega (arith)) in
    cc

pub number_of_taken : (n : ℕ) (left bytes rest : List ℕ) → bytes_at n left ≡ Ok (bytes, rest) →
    number_read n left ≡ Ok (little_number n bytes, rest)
number_of_taken n left bytes rest e = number_by (nat_lt (length left) n) n left bytes rest e

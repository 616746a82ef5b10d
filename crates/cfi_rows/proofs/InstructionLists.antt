-- Instructions that are read one after another.
use Rattle.std.proofs.Common.{◌≡◌, ◌∙◌, ◌+◌, ◌-◌, ◌^◌, ◌<◌, ◌≤◌, ◌++◌, ℕ, suc, List, [], ◌∷◌, Result, Ok, Err, refl, sym, ap, arith, length, min}
use Rattle.std.proofs.Common.{append_assoc}
use Rattle.std.proofs.lemmas.List.{append-nil}
use Rattle.rb_bytes.specs.Readers.{and_then}
use Rattle.rb_bytes.proofs.Tests.{less_one}
use Rattle.table_core.specs.ReadSteps.{with_head}
use Rattle.cfi_rows.specs.declared.instruction.Malformed.{Malformed}
use Rattle.cfi_rows.specs.declared.instruction.Malformed.TheVariants.{Entry}
use Rattle.cfi_rows.specs.declared.instruction.Instruction.{Instruction}
use Rattle.std.specs.Prelude.{sum_by}
use Rattle.std.proofs.lemmas.List.Sums.{sum_by-append}
use Rattle.cfi_rows.specs.EntryCounts.{bytes_in}
use Rattle.cfi_rows.specs.FrameInstructions.{Context, instruction_at, instructions_in}

-- a list that was read, and then the rest
abbrev pub after : {X E : Type 0} → List X → Result (List X) E → Result (List X) E
after xs (Ok ys) = Ok (xs ++ ys)
after xs (Err e) = Err e

after-head : {X E : Type 0} (xs : List X) (x : X) (r : Result (List X) E) → after xs (with_head x r) ≡ after (xs ++ x ∷ []) r
after-head xs x (Ok ys) = ap (λ zs. Ok zs) (sym (append_assoc xs (x ∷ []) ys))
after-head xs x (Err e) = refl

-- the first of some bytes that aren't empty
in-step : (c : Context) (n : ℕ) (left : List ℕ) → 0 < length left → instructions_in c (suc n) left ≡
    and_then (instruction_at c left) (λ i rest. with_head i (instructions_in c n rest))
unfolding instructions_in
in-step c n [] h = absurd (omega arith)
in-step c n (b ∷ bs) h = refl

pub next : (c : Context) (n count : ℕ) (left : List ℕ) (xs : List Instruction) (i : Instruction) (rest : List ℕ) → count < n →
    0 < length left →
    instruction_at c left ≡ Ok (i, rest) →
    after xs (instructions_in c (n - count) left) ≡ after (xs ++ i ∷ []) (instructions_in c (n - (count + 1)) rest)
next c n count left xs i rest h l e =
    ap (λ m. after xs (instructions_in c m left)) (less_one n count h)
    ∙ ap (after xs) (in-step c (n - (count + 1)) left l ∙ ap (λ r. and_then r
    (λ i rest. with_head i (instructions_in c (n - (count + 1)) rest))) e)
    ∙ after-head xs i (instructions_in c (n - (count + 1)) rest)

pub fails : (c : Context) (n count : ℕ) (left : List ℕ) (xs : List Instruction) (m : Malformed) → count < n → 0 < length left →
    instruction_at c left ≡ Err m → after xs (instructions_in c (n - count) left) ≡ Err m
fails c n count left xs m h l e =
    ap (λ m. after xs (instructions_in c m left)) (less_one n count h)
    ∙ ap (after xs) (in-step c (n - (count + 1)) left l ∙ ap (λ r. and_then r
    (λ i rest. with_head i (instructions_in c (n - (count + 1)) rest))) e)

in-end : (c : Context) (n : ℕ) (left : List ℕ) → length left ≡ 0 → instructions_in c n left ≡ Ok []
unfolding instructions_in
in-end c n [] h = refl
in-end c n (b ∷ bs) h = absurd (omega arith)

pub ends : (c : Context) (n : ℕ) (left : List ℕ) (xs : List Instruction) → length left ≡ 0 → after xs (instructions_in c n left) ≡ Ok xs
ends c n left xs h = ap (after xs) (in-end c n left h) ∙ ap (λ zs. Ok zs) (append-nil xs)

in-out : (c : Context) (left : List ℕ) → 0 < length left → instructions_in c 0 left ≡ Err Entry
unfolding instructions_in
in-out c [] h = absurd (omega arith)
in-out c (b ∷ bs) h = refl

pub runs_out : (c : Context) (n count : ℕ) (left : List ℕ) (xs : List Instruction) → n ≤ count → 0 < length left →
    after xs (instructions_in c (n - count) left) ≡ Err Entry
runs_out c n count left xs h l = let z : n - count ≡ 0 = omega arith in
    ap (λ m. after xs (instructions_in c m left)) z ∙ ap (after xs) (in-out c left l)

-- bytes of expressions, with those of one more instruction
pub one-more : (xs ys : List Instruction) (i : Instruction) (left rest all : ℕ) → ys ≡ xs ++ i ∷ [] →
    sum_by bytes_in xs + left ≤ all → bytes_in i + rest ≤ left → sum_by bytes_in ys + rest ≤ all
one-more xs ys i left rest all e h l =
    let s : sum_by bytes_in ys ≡ sum_by bytes_in xs + sum_by bytes_in (i ∷ []) = ap (sum_by bytes_in) e ∙ sum_by-append bytes_in xs (i ∷ []) in
    omega arith

-- the bytes of expressions, if they come from few bytes
pub exact-bytes : (is js : List Instruction) (n m : ℕ) → js ≡ is → sum_by bytes_in is ≤ m → m < 2 ^ 63 →
    n ≡ min (sum_by bytes_in js) (2 ^ 64 - 1) → (sum_by bytes_in js ≡ n) × (n < 2 ^ 63)
exact-bytes is js n m e l s h =
    let f : sum_by bytes_in js ≡ sum_by bytes_in is = ap (sum_by bytes_in) e in (omega (arith, f, l, s, h), omega (arith, f, l, s, h))

-- Written operations are read back.
use Rattle.std.proofs.Common.{◌≡◌, ◌<◌, ◌≤◌, ◌-◌, ◌+◌, ◌^◌, ◌==◌, ◌++◌, ℕ, ℤ, List, [], ◌∷◌, refl, arith, sym, ◌∙◌, ap, append_assoc}
use Rattle.std.proofs.Common.{length, length-append, drop, take, true, false, nat_lt, nat_le, Result, Ok, FitsSigned}
use Rattle.std.specs.Int.{w64}
use Rattle.std.proofs.lemmas.Bool.Decides.{nat_tests}
use Rattle.std.proofs.lemmas.Grind.{common_steps}
use Rattle.std.proofs.lemmas.List.{append-nil}
use Rattle.byteorder.specs.Endian.{little_number, little_bytes}
use Rattle.byteorder.specs.Numbers.{little_number-reads_back, length-bytes_low_first}
use Rattle.rb_bytes.specs.declared.gap.Gap.{Gap}
use Rattle.rb_bytes.specs.Readers.{and_then, number_read}
use Rattle.rb_bytes.specs.Leb.{uleb_at, sleb_at, uleb, sleb}
use Rattle.rb_bytes.proofs.UnsignedLeb.{IsShortestUleb-uleb, length-uleb-le, uleb-last}
use Rattle.rb_bytes.proofs.SignedLeb.{IsShortestSleb-sleb}
use Rattle.line_rewrite.specs.declared.operation.LineOp.{LineOp}
use Rattle.line_rewrite.specs.declared.operation.LineOp.TheVariants.{Special, Copy, AdvancePc, AdvanceLine, SetFile, SetColumn}
use Rattle.line_rewrite.specs.declared.operation.LineOp.TheVariants.{NegateStmt, SetBasicBlock, ConstAddPc, FixedAdvancePc}
use Rattle.line_rewrite.specs.declared.operation.LineOp.TheVariants.{SetPrologueEnd, SetEpilogueBegin, SetIsa, EndSequence, SetAddress}
use Rattle.line_rewrite.specs.declared.operation.LineOp.TheVariants.{SetDiscriminator, Unknown}
use Rattle.line_rewrite.specs.Operations.{op_at, taking, standard_at, extended_at, extended_in, operations, Found}
use Rattle.line_rewrite.specs.Written.{spelled, all_spelled}
use Rattle.line_rewrite.proofs.Steps.{operations_step}

pub number_back : (n x : ℕ) (rest : List ℕ) → x < 256 ^ n → number_read n (little_bytes n x ++ rest) ≡ Ok (x, rest)
number_back n x rest h =
    let l : n ≡ length (little_bytes n x) = sym (length-bytes_low_first 0 n x) in
    let e : little_number n (little_bytes n x ++ rest) ≡ x = little_number-reads_back n x rest h in
    let r : drop n (little_bytes n x ++ rest) ≡ rest = grind (arith, common_steps) in
    let t : nat_lt (length (little_bytes n x ++ rest)) n ≡ false = grind (arith, nat_tests, length-append (little_bytes n x) rest) in
    rw (t, e, r) refl

pub byte_back : (b : ℕ) (rest : List ℕ) → number_read 1 (b ∷ rest) ≡ Ok (b, rest)
byte_back b rest =
    let t : nat_lt (length (b ∷ rest)) 1 ≡ false = grind (arith, nat_tests) in
    let z : b + 0 ≡ b = omega arith in
    let found : ℕ → Result (ℕ × List ℕ) Gap = λ n. Ok (n, rest) in
    rw t (ap found z)

pub uleb_back : (n : ℕ) (rest : List ℕ) → n < 2 ^ 64 → uleb_at (uleb n ++ rest) ≡ Ok (n, rest)
uleb_back n rest h = (IsShortestUleb-uleb n h).reads_back rest

pub sleb_back : (z : ℤ) (rest : List ℕ) → FitsSigned w64 z → sleb_at (sleb z ++ rest) ≡ Ok (z, rest)
sleb_back z rest h = (IsShortestSleb-sleb z h).reads_back rest

-- A byte below 128 is a LEB128 number.
pub small_back : (n : ℕ) (rest : List ℕ) → n < 128 → uleb_at (n ∷ rest) ≡ Ok (n, rest)
small_back n rest h =
    let e : uleb n ≡ n ∷ [] = uleb-last n h in
    sym (ap (λ (l : List ℕ). uleb_at (l ++ rest)) e) ∙ uleb_back n rest (omega arith)

-- The operation after an opcode.
behind_opcode : (lengths : List ℕ) (opcode : ℕ) (left : List ℕ) (found : Found) → opcode < 13 → (opcode == 0) ≡ false
    → standard_at lengths opcode left ≡ found → op_at 13 lengths (opcode ∷ left) ≡ found
unfolding op_at
behind_opcode lengths opcode left found h k e =
    let t : nat_le 13 opcode ≡ false = grind (arith, nat_tests) in
    rw (byte_back opcode left, t, k) e

behind_zero : (lengths left : List ℕ) (found : Found) → extended_at left ≡ found → op_at 13 lengths (0 ∷ left) ≡ found
unfolding op_at
behind_zero lengths left found e = rw (byte_back 0 left) e

operand_back : {X : Type 0} (make : X → LineOp) (x : X) (rest : List ℕ) (found : Result (X × List ℕ) Gap) → found ≡ Ok (x, rest)
    → taking make found ≡ Ok (make x, rest)
operand_back make x rest found e = ap (taking make) e

-- An extended operation of `n` bytes.
extended_back : (n : ℕ) (bytes rest : List ℕ) (op : LineOp) → n ≡ length bytes → n < 128 → extended_in bytes ≡ Ok op
    → extended_at (n ∷ (bytes ++ rest)) ≡ Ok (op, rest)
extended_back n bytes rest op e h is =
    let t : nat_lt (length (bytes ++ rest)) n ≡ false = grind (arith, nat_tests, length-append bytes rest) in
    let f : take n (bytes ++ rest) ≡ bytes = grind (arith, common_steps) in
    let d : drop n (bytes ++ rest) ≡ rest = grind (arith, common_steps) in
    rw (small_back n (bytes ++ rest) h, t, f, d, is) refl

address_in : (a : ℕ) → a < 2 ^ 64 → extended_in (2 ∷ little_bytes 8 a) ≡ Ok (SetAddress a)
address_in a h =
    let e : number_read 8 (little_bytes 8 a) ≡ Ok (a, []) = sym (ap (number_read 8) (append-nil (little_bytes 8 a)))
    ∙ number_back 8 a [] (omega arith) in
    ap (λ (r : Result (ℕ × List ℕ) Gap). and_then r (λ address _. Ok (SetAddress address))) e

discriminator_in : (n : ℕ) → n < 2 ^ 64 → extended_in (4 ∷ uleb n) ≡ Ok (SetDiscriminator n)
discriminator_in n h =
    let e : uleb_at (uleb n) ≡ Ok (n, []) = sym (ap uleb_at (append-nil (uleb n))) ∙ uleb_back n [] h in
    rw (byte_back 4 (uleb n), e) refl

end_in : extended_in (1 ∷ []) ≡ Ok EndSequence
end_in = refl

-- Operations that are written.
abbrev pub IsWritten : LineOp → Type 0
IsWritten (Special v) = v < 243
IsWritten ConstAddPc = ⊥
IsWritten (FixedAdvancePc n) = ⊥
IsWritten Unknown = ⊥
IsWritten Copy = Unit {0}
IsWritten (AdvancePc n) = n < 2 ^ 64
IsWritten (AdvanceLine z) = FitsSigned w64 z
IsWritten (SetFile n) = n < 2 ^ 64
IsWritten (SetColumn n) = n < 2 ^ 64
IsWritten NegateStmt = Unit {0}
IsWritten SetBasicBlock = Unit {0}
IsWritten SetPrologueEnd = Unit {0}
IsWritten SetEpilogueBegin = Unit {0}
IsWritten (SetIsa n) = n < 2 ^ 64
IsWritten EndSequence = Unit {0}
IsWritten (SetAddress n) = n < 2 ^ 64
IsWritten (SetDiscriminator n) = n < 2 ^ 64

special_back : (lengths : List ℕ) (v : ℕ) (rest : List ℕ) → op_at 13 lengths ((v + 13) ∷ rest) ≡ Ok (Special v, rest)
unfolding op_at
special_back lengths v rest =
    let t : nat_le 13 (v + 13) ≡ true = grind (arith, nat_tests) in
    let d : v + 13 - 13 ≡ v = omega arith in
    let found : ℕ → Found = λ n. Ok (Special n, rest) in
    rw (byte_back (v + 13) rest, t) (ap found d)

pub op_back : (lengths : List ℕ) (op : LineOp) (rest : List ℕ) → IsWritten op → op_at 13 lengths (spelled op ++ rest) ≡ Ok (op, rest)
op_back lengths Copy rest w = behind_opcode lengths 1 rest _ (omega arith) refl refl
op_back lengths (AdvancePc n) rest w =
    behind_opcode lengths 2 (uleb n ++ rest) _ (omega arith) refl (operand_back AdvancePc n rest _ (uleb_back n rest w))
op_back lengths (AdvanceLine z) rest w =
    behind_opcode lengths 3 (sleb z ++ rest) _ (omega arith) refl (operand_back AdvanceLine z rest _ (sleb_back z rest w))
op_back lengths (SetFile n) rest w =
    behind_opcode lengths 4 (uleb n ++ rest) _ (omega arith) refl (operand_back SetFile n rest _ (uleb_back n rest w))
op_back lengths (SetColumn n) rest w =
    behind_opcode lengths 5 (uleb n ++ rest) _ (omega arith) refl (operand_back SetColumn n rest _ (uleb_back n rest w))
op_back lengths NegateStmt rest w = behind_opcode lengths 6 rest _ (omega arith) refl refl
op_back lengths SetBasicBlock rest w = behind_opcode lengths 7 rest _ (omega arith) refl refl
op_back lengths SetPrologueEnd rest w = behind_opcode lengths 10 rest _ (omega arith) refl refl
op_back lengths SetEpilogueBegin rest w = behind_opcode lengths 11 rest _ (omega arith) refl refl
op_back lengths (SetIsa n) rest w =
    behind_opcode lengths 12 (uleb n ++ rest) _ (omega arith) refl (operand_back SetIsa n rest _ (uleb_back n rest w))
op_back lengths EndSequence rest w = behind_zero lengths _ _ (extended_back 1 (1 ∷ []) rest EndSequence (omega arith) (omega arith) end_in)
op_back lengths (SetAddress a) rest w =
    let l : 8 ≡ length (little_bytes 8 a) = sym (length-bytes_low_first 0 8 a) in
    behind_zero lengths _ _ (extended_back 9 (2 ∷ little_bytes 8 a) rest (SetAddress a) (omega arith) (omega arith) (address_in a w))
op_back lengths (SetDiscriminator n) rest w =
    let l : length (uleb n) ≤ 10 = length-uleb-le n in
    behind_zero lengths _ _
    (extended_back (length (uleb n) + 1) (4 ∷ uleb n) rest (SetDiscriminator n) (omega arith) (omega arith) (discriminator_in n w))
op_back lengths (Special v) rest w = special_back lengths v rest
op_back lengths ConstAddPc rest w = absurd w
op_back lengths (FixedAdvancePc n) rest w = absurd w
op_back lengths Unknown rest w = absurd w

abbrev pub AreWritten : List LineOp → Type 0
AreWritten [] = Unit {0}
AreWritten (op ∷ ops) = IsWritten op × AreWritten ops

pub ops_back : (lengths : List ℕ) (ops : List LineOp) (rest : List ℕ) → AreWritten ops
    → operations 13 lengths (all_spelled ops ++ rest) ≡ ops ++ operations 13 lengths rest
ops_back lengths [] rest w = refl
ops_back lengths (op ∷ ops) rest w =
    ap (operations 13 lengths) (append_assoc (spelled op) (all_spelled ops) rest)
    ∙ operations_step 13 lengths (spelled op ++ (all_spelled ops ++ rest)) (all_spelled ops ++ rest) op
    (op_back lengths op (all_spelled ops ++ rest) w.0)
    ∙ ap (λ (l : List LineOp). op ∷ l) (ops_back lengths ops rest w.1)

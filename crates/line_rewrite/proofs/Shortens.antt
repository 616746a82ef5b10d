-- Each operation takes at least one byte.
use Rattle.std.proofs.Common.{◌≡◌, ◌<◌, ◌≤◌, ◌-◌, ◌+◌, ℕ, List, [], zero, suc, refl, arith, sym, ◌∙◌, ap, Ok, Err, Result, length, drop}
use Rattle.std.proofs.Common.{length-drop, cond, Bool, true, false, ◌==◌, nat_le, slice_index}
use Rattle.std.proofs.lemmas.Bool.Decides.{nat_tests}
use Rattle.std.proofs.lemmas.List.{drop-drop}
use Rattle.rb_bytes.specs.declared.gap.Gap.{Gap}
use Rattle.rb_bytes.specs.declared.gap.Gap.TheVariants.{Short, Wide}
use Rattle.line_rewrite.specs.declared.operation.LineOp.TheVariants.{Special, Copy, AdvancePc, AdvanceLine, SetFile, SetColumn, NegateStmt}
use Rattle.line_rewrite.specs.declared.operation.LineOp.TheVariants.{SetBasicBlock, ConstAddPc, SetPrologueEnd, SetEpilogueBegin}
use Rattle.line_rewrite.specs.declared.operation.LineOp.TheVariants.{FixedAdvancePc, SetIsa, Unknown}
use Rattle.rb_bytes.specs.Readers.{and_then, number_read, bytes_at}
use Rattle.rb_bytes.specs.Leb.{uleb_at, sleb_at, leb_length}
use Rattle.line_rewrite.specs.declared.operation.LineOp.{LineOp}
use Rattle.line_rewrite.specs.Operations.{op_at, taking, standard_at, extended_at, extended_in, followed, unknown_at}

-- The bytes after a reading.
abbrev pub left_by : {X : Type 0} → Result (X × List ℕ) Gap → List ℕ
left_by (Ok read) = read.1
left_by (Err gap) = []

-- A reading takes at least `k` bytes.
pub record Shortens {X : Type 0} (k : ℕ) (bytes : List ℕ) (found : Result (X × List ℕ) Gap) : Type 0 where
  pub shorter : (x : X) (rest : List ℕ) → found ≡ Ok (x, rest) → length rest + k ≤ length bytes
  pub behind : (x : X) (rest : List ℕ) → found ≡ Ok (x, rest) → rest ≡ drop (length bytes - length rest) bytes

pub twice : (bytes middle rest : List ℕ) → length middle ≤ length bytes → length rest ≤ length middle →
    middle ≡ drop (length bytes - length middle) bytes
    → rest ≡ drop (length middle - length rest) middle → rest ≡ drop (length bytes - length rest) bytes
twice bytes middle rest h i e f =
    let n : (length bytes - length middle) + (length middle - length rest) ≡ length bytes - length rest = omega arith in
    f ∙ ap (drop (length middle - length rest)) e ∙ drop-drop (length middle - length rest) (length bytes - length middle) bytes
    ∙ ap (λ (k : ℕ). drop k bytes) n

pub then_shortens : {X Y : Type 0} (k : ℕ) (bytes : List ℕ) (found : Result (X × List ℕ) Gap) (next : X → List ℕ → Result (Y × List ℕ) Gap)
    → Shortens k bytes found → ((x : X) (rest : List ℕ) → Shortens 0 rest (next x rest)) → Shortens k bytes (and_then found next)
then_shortens k bytes (Ok read) next s t = record {
  shorter = λ y rest e.
      let h : length read.1 + k ≤ length bytes = s.shorter read.0 read.1 refl in
      let i : length rest + 0 ≤ length read.1 = (t read.0 read.1).shorter y rest e in
      omega arith;
  behind = λ y rest e.
      let h : length read.1 + k ≤ length bytes = s.shorter read.0 read.1 refl in
      let i : length rest + 0 ≤ length read.1 = (t read.0 read.1).shorter y rest e in
      twice bytes read.1 rest (omega arith) (omega arith) (s.behind read.0 read.1 refl) ((t read.0 read.1).behind y rest e);
}
then_shortens k bytes (Err gap) next s t = record { shorter = λ y rest e. absurd (cc); behind = λ y rest e. absurd (cc) }

pub cond_shortens : {X : Type 0} (k : ℕ) (bytes : List ℕ) (test : Bool) (a b : Result (X × List ℕ) Gap) → Shortens k bytes a →
    Shortens k bytes b → Shortens k bytes (cond test a b)
cond_shortens k bytes true a b s t = s
cond_shortens k bytes false a b s t = t

-- A reading that tests for `n` bytes and takes them.
pub dropped_shortens : {X : Type 0} (n : ℕ) (bytes : List ℕ) (test : Bool) (gap : Gap) (x : X) → (test ≡ false → n ≤ length bytes) →
    Shortens n bytes (cond test (Err gap) (Ok (x, drop n bytes)))
dropped_shortens n bytes true gap x h = record { shorter = λ y rest e. absurd (cc); behind = λ y rest e. absurd (cc) }
dropped_shortens n bytes false gap x h = record {
  shorter = λ y rest e.
      let i : n ≤ length bytes = h refl in
      let f : drop n bytes ≡ rest = ap left_by e in
      let g : length rest ≡ length bytes - n = ap length (sym f) ∙ length-drop n bytes in
      omega arith;
  behind = λ y rest e.
      let i : n ≤ length bytes = h refl in
      let f : drop n bytes ≡ rest = ap left_by e in
      let g : length rest ≡ length bytes - n = ap length (sym f) ∙ length-drop n bytes in
      let j : n ≡ length bytes - length rest = omega arith in
      sym f ∙ ap (λ (k : ℕ). drop k bytes) j;
}

pub number_shortens : (n : ℕ) (bytes : List ℕ) → Shortens n bytes (number_read n bytes)
number_shortens n bytes = dropped_shortens n bytes _ _ _ (λ e. grind (arith, nat_tests))

pub bytes_shortens : (n : ℕ) (bytes : List ℕ) → Shortens n bytes (bytes_at n bytes)
bytes_shortens n bytes = dropped_shortens n bytes _ _ _ (λ e. grind (arith, nat_tests))

same_behind : (bytes rest : List ℕ) → bytes ≡ rest → rest ≡ drop (length bytes - length rest) bytes
same_behind bytes rest f =
    let g : length rest ≡ length bytes = ap length (sym f) in
    let z : length bytes - length rest ≡ 0 = omega arith in
    sym f ∙ sym (ap (λ (k : ℕ). drop k bytes) z)

pub ok_shortens : {X : Type 0} (x : X) (bytes : List ℕ) → Shortens 0 bytes (Ok (x, bytes))
ok_shortens x bytes = record {
  shorter = λ y rest e. let f : bytes ≡ rest = ap left_by e in let g : length rest ≡ length bytes = ap length (sym f) in omega arith;
  behind = λ y rest e. let f : bytes ≡ rest = ap left_by e in same_behind bytes rest f;
}

pub less_shortens : {X : Type 0} (k : ℕ) (bytes : List ℕ) (found : Result (X × List ℕ) Gap) → Shortens k bytes found →
    Shortens 0 bytes found
less_shortens k bytes found s = record {
  shorter = λ x rest e. let h : length rest + k ≤ length bytes = s.shorter x rest e in omega arith;
  behind = s.behind;
}

-- A reading of a LEB128 number, or of one that must fit.
pub leb_shortens : {X : Type 0} (bytes : List ℕ) (n : ℕ) (short fits : Bool) (x : X) (d e : Gap) → 0 < n →
    (short ≡ false → n ≤ length bytes)
    → Shortens 0 bytes (cond short (Err d) (cond fits (Ok (x, drop n bytes)) (Err e)))
leb_shortens bytes n true fits x d e p h = record { shorter = λ y rest f. absurd (cc); behind = λ y rest f. absurd (cc) }
leb_shortens bytes n false false x d e p h = record { shorter = λ y rest f. absurd (cc); behind = λ y rest f. absurd (cc) }
leb_shortens bytes n false true x d e p h = less_shortens n bytes _ (dropped_shortens n bytes false d x h)

pub uleb_shortens : (bytes : List ℕ) → Shortens 0 bytes (uleb_at bytes)
uleb_shortens bytes = leb_shortens bytes (leb_length bytes) _ _ _ Short Wide (omega arith) (λ e. grind (arith, nat_tests))

pub sleb_shortens : (bytes : List ℕ) → Shortens 0 bytes (sleb_at bytes)
sleb_shortens bytes = leb_shortens bytes (leb_length bytes) _ _ _ Short Wide (omega arith) (λ e. grind (arith, nat_tests))

pub unknown_shortens : (n : ℕ) (bytes : List ℕ) → Shortens 0 bytes (unknown_at n bytes)
unknown_shortens zero bytes = ok_shortens Unknown bytes
unknown_shortens (suc n) bytes = then_shortens 0 bytes (uleb_at bytes) (λ _ left. unknown_at n left) (uleb_shortens bytes)
    (λ x rest. unknown_shortens n rest)

pub taking_shortens : {X : Type 0} (k : ℕ) (bytes : List ℕ) (make : X → LineOp) (found : Result (X × List ℕ) Gap) → Shortens k bytes found →
    Shortens k bytes (taking make found)
taking_shortens k bytes make found s = then_shortens k bytes found _ s (λ x rest. ok_shortens (make x) rest)

row_shortens : (bytes : List ℕ) (opcode n : ℕ) (a b : Result (LineOp × List ℕ) Gap) → Shortens 0 bytes a → Shortens 0 bytes b →
    Shortens 0 bytes (cond (opcode == n) a b)
row_shortens bytes opcode n a b s t = cond_shortens 0 bytes (opcode == n) a b s t

pub standard_shortens : (lengths : List ℕ) (opcode : ℕ) (bytes : List ℕ) → Shortens 0 bytes (standard_at lengths opcode bytes)
standard_shortens lengths opcode bytes =
    row_shortens bytes opcode 1 _ _ (ok_shortens Copy bytes)
    (row_shortens bytes opcode 2 _ _ (taking_shortens 0 bytes AdvancePc _ (uleb_shortens bytes))
    (row_shortens bytes opcode 3 _ _ (taking_shortens 0 bytes AdvanceLine _ (sleb_shortens bytes))
    (row_shortens bytes opcode 4 _ _ (taking_shortens 0 bytes SetFile _ (uleb_shortens bytes))
    (row_shortens bytes opcode 5 _ _ (taking_shortens 0 bytes SetColumn _ (uleb_shortens bytes))
    (row_shortens bytes opcode 6 _ _ (ok_shortens NegateStmt bytes)
    (row_shortens bytes opcode 7 _ _ (ok_shortens SetBasicBlock bytes)
    (row_shortens bytes opcode 8 _ _ (ok_shortens ConstAddPc bytes)
    (row_shortens bytes opcode 9 _ _ (taking_shortens 0 bytes FixedAdvancePc _ (less_shortens 2 bytes _ (number_shortens 2 bytes)))
    (row_shortens bytes opcode 10 _ _ (ok_shortens SetPrologueEnd bytes)
    (row_shortens bytes opcode 11 _ _ (ok_shortens SetEpilogueBegin bytes)
    (row_shortens bytes opcode 12 _ _ (taking_shortens 0 bytes SetIsa _ (uleb_shortens bytes))
    (unknown_shortens (slice_index lengths (opcode - 1)) bytes))))))))))))

followed_shortens : (left : List ℕ) (found : Result LineOp Gap) → Shortens 0 left (followed left found)
followed_shortens left (Ok op) = ok_shortens op left
followed_shortens left (Err gap) = record { shorter = λ x rest e. absurd (cc); behind = λ x rest e. absurd (cc) }

pub extended_shortens : (bytes : List ℕ) → Shortens 0 bytes (extended_at bytes)
extended_shortens bytes = then_shortens 0 bytes (uleb_at bytes) _ (uleb_shortens bytes)
    (λ size left. then_shortens 0 left (bytes_at size left) _ (less_shortens size left _ (bytes_shortens size left))
    (λ inner rest. followed_shortens rest (extended_in inner)))

pub op_shortens : (opcode_base : ℕ) (lengths bytes : List ℕ) → Shortens 1 bytes (op_at opcode_base lengths bytes)
unfolding op_at
op_shortens opcode_base lengths bytes = then_shortens 1 bytes (number_read 1 bytes) _ (number_shortens 1 bytes)
    (λ opcode left. cond_shortens 0 left (nat_le opcode_base opcode) _ _ (ok_shortens (Special (opcode - opcode_base)) left)
    (cond_shortens 0 left (opcode == 0) _ _ (extended_shortens left) (standard_shortens lengths opcode left)))

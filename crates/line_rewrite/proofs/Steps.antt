-- Operations one at a time.
use Rattle.std.proofs.Common.{◌≡◌, ◌<◌, ◌≤◌, ◌+◌, ℕ, List, [], ◌∷◌, zero, suc, refl, arith, sym, ◌∙◌, ap, Ok, Err, length}
use Rattle.std.proofs.Common.{Option, Some, None}
use Rattle.rb_bytes.specs.declared.gap.Gap.{Gap}
use Rattle.line_rewrite.specs.declared.coding.Coding.{Coding}
use Rattle.line_rewrite.specs.declared.registers.Registers.{Registers}
use Rattle.line_rewrite.specs.declared.operation.LineOp.{LineOp}
use Rattle.line_rewrite.specs.declared.effect.Effect.{Effect}
use Rattle.line_rewrite.specs.declared.effect.Effect.TheVariants.{Appends, Ends, Sets}
use Rattle.line_rewrite.specs.Operations.{op_at, ops_within, ops_behind, operations, Found}
use Rattle.line_rewrite.specs.LineMachine.{rows_from, rows_behind, after_op, after_row, effect_of}
use Rattle.line_rewrite.proofs.Shortens.{op_shortens}

behind_same : (base n m : ℕ) (lengths bytes : List ℕ) (found : Found) → op_at base lengths bytes ≡ found
    → ((rest : List ℕ) → length rest < length bytes → ops_within n base lengths rest ≡ ops_within m base lengths rest)
    → ops_behind (ops_within n base lengths) found ≡ ops_behind (ops_within m base lengths) found
behind_same base n m lengths bytes (Err gap) e same = refl
behind_same base n m lengths bytes (Ok read) e same =
    let h : length read.1 + 1 ≤ length bytes = (op_shortens base lengths bytes).shorter read.0 read.1 e in
    ap (λ (l : List LineOp). read.0 ∷ l) (same read.1 (omega arith))

-- No bytes give no operation.
op_of_none : (base n : ℕ) (lengths : List ℕ) → [] ≡ ops_behind (ops_within n base lengths) (op_at base lengths [])
unfolding op_at
op_of_none base n lengths = refl

-- Any limit that is at least the number of bytes gives the same result.
pub enough : (base n m : ℕ) (lengths bytes : List ℕ) → length bytes ≤ n → length bytes ≤ m
    → ops_within n base lengths bytes ≡ ops_within m base lengths bytes
unfolding ops_within
enough base zero zero lengths bytes h k = refl
enough base zero (suc m) lengths [] h k = op_of_none base m lengths
enough base zero (suc m) lengths (b ∷ bytes) h k = absurd (omega arith)
enough base (suc n) zero lengths [] h k = sym (op_of_none base n lengths)
enough base (suc n) zero lengths (b ∷ bytes) h k = absurd (omega arith)
enough base (suc n) (suc m) lengths bytes h k =
    behind_same base n m lengths bytes (op_at base lengths bytes) refl (λ rest s. enough base n m lengths rest (omega arith) (omega arith))

pub operations_step : (base : ℕ) (lengths bytes rest : List ℕ) (op : LineOp) → op_at base lengths bytes ≡ Ok (op, rest)
    → operations base lengths bytes ≡ op ∷ operations base lengths rest
unfolding operations ops_within
operations_step base lengths [] rest op e = let h : length rest + 1 ≤ 0 =
    (op_shortens base lengths []).shorter op rest e in absurd (omega arith)
operations_step base lengths (b ∷ bytes) rest op e =
    let h : length rest + 1 ≤ length (b ∷ bytes) = (op_shortens base lengths (b ∷ bytes)).shorter op rest e in
    ap (ops_behind (ops_within (length bytes) base lengths)) e
    ∙ ap (λ (l : List LineOp). op ∷ l) (enough base (length bytes) (length rest) lengths rest (omega arith) (omega arith))

pub operations_gap : (base : ℕ) (lengths bytes : List ℕ) (gap : Gap) → op_at base lengths bytes ≡ Err gap
    → operations base lengths bytes ≡ []
unfolding operations ops_within
operations_gap base lengths [] gap e = refl
operations_gap base lengths (b ∷ bytes) gap e = ap (ops_behind (ops_within (length bytes) base lengths)) e

pub operations_end : (base : ℕ) (lengths bytes : List ℕ) → length bytes ≡ 0 → operations base lengths bytes ≡ []
unfolding operations ops_within
operations_end base lengths [] e = refl
operations_end base lengths (b ∷ bytes) e = absurd (omega arith)

pub rows_step : (coding : Coding) (r : Registers) (lengths bytes rest : List ℕ) (op : LineOp)
    → op_at coding.opcode_base lengths bytes ≡ Ok (op, rest)
    → rows_from coding r (operations coding.opcode_base lengths bytes) ≡ rows_behind
    (λ r. rows_from coding r (operations coding.opcode_base lengths rest)) (effect_of op) (after_op coding op r)
unfolding rows_from
rows_step coding r lengths bytes rest op e = ap (rows_from coding r) (operations_step coding.opcode_base lengths bytes rest op e)

pub rows_gap : (coding : Coding) (r : Registers) (lengths bytes : List ℕ) (gap : Gap) → op_at coding.opcode_base lengths bytes ≡ Err gap
    → rows_from coding r (operations coding.opcode_base lengths bytes) ≡ []
unfolding rows_from
rows_gap coding r lengths bytes gap e = ap (rows_from coding r) (operations_gap coding.opcode_base lengths bytes gap e)

pub rows_end : (coding : Coding) (r : Registers) (lengths bytes : List ℕ) → length bytes ≡ 0
    → rows_from coding r (operations coding.opcode_base lengths bytes) ≡ []
unfolding rows_from
rows_end coding r lengths bytes e = ap (rows_from coding r) (operations_end coding.opcode_base lengths bytes e)

-- The rows with one more operation. `whole` are the rows from here on

module _ (coding : Coding) (r : Registers) (lengths bytes : List ℕ) (whole : List Registers)
    (inv : rows_from coding r (operations coding.opcode_base lengths bytes) ≡ whole) where
  pub none_out : length bytes ≡ 0 → whole ≡ []
  none_out e = sym inv ∙ rows_end coding r lengths bytes e

  pub none_gap : (gap : Gap) → op_at coding.opcode_base lengths bytes ≡ Err gap → whole ≡ []
  none_gap gap e = sym inv ∙ rows_gap coding r lengths bytes gap e

  module _ (rest : List ℕ) (op : LineOp) (read : op_at coding.opcode_base lengths bytes ≡ Ok (op, rest)) where
    step_is : (e : Effect) (o : Option Registers) → e ≡ effect_of op → o ≡ after_op coding op r
        → whole ≡ rows_behind (λ r. rows_from coding r (operations coding.opcode_base lengths rest)) e o
    step_is e o is after =
        sym inv ∙ rows_step coding r lengths bytes rest op read
        ∙ sym (λ i. rows_behind (λ r. rows_from coding r (operations coding.opcode_base lengths rest)) (is i) (after i))

    pub none_stops : None ≡ after_op coding op r → whole ≡ []
    none_stops after = step_is (effect_of op) None refl after

    pub none_ends : (next : Registers) → Ends ≡ effect_of op → Some next ≡ after_op coding op r → whole ≡ []
    none_ends next is after = step_is Ends (Some next) is after

    pub same_sets : (next : Registers) → Sets ≡ effect_of op → Some next ≡ after_op coding op r
        → rows_from coding next (operations coding.opcode_base lengths rest) ≡ whole
    same_sets next is after = sym (step_is Sets (Some next) is after)

    pub row_appends : (next : Registers) → Appends ≡ effect_of op → Some next ≡ after_op coding op r
        → whole ≡ next ∷ rows_from coding (after_row next) (operations coding.opcode_base lengths rest)
    row_appends next is after = step_is Appends (Some next) is after

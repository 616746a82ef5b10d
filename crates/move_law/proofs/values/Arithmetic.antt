-- The result of an operation on values is represented by its result on their numbers.
use Rattle.std.proofs.Common.{◌≡◌, ◌≢◌, ℕ, zero, suc, ◌-◌, ◌%◌, ◌^◌, ◌<◌, ◌≤◌, Option, Some, None, Bool, true, false, refl, sym}
use Rattle.std.proofs.Common.{ap, ◌∙◌, subst, arith}
use Rattle.std.specs.Prelude.{if◌then◌else◌, ◌==◌, ◌&&◌, nat_lt, IfSome, bit_and}
use Rattle.std.specs.Option.{option_or}
use Rattle.std.proofs.lemmas.Bool.{ne_eqb, eqb-true, eqb-false, and_parts, lt-ltb, le-ltb}
use Rattle.std.proofs.lemmas.Int.{ints}
use Rattle.std.specs.Int.Bits.{xor_self, and_mask}
use Rattle.std.proofs.lemmas.Grind.{and_high_numeral, common_steps}
use Rattle.rv_code.specs.declared.op.Op.{Op}
use Rattle.rv_code.specs.declared.op.Op.TheVariants as op
use Rattle.rv_code.specs.declared.action.Operand.{Operand}
use Rattle.rv_code.specs.declared.action.Operand.TheVariants.{Register, Immediate}
use Rattle.rv_code.specs.declared.action.Test.{Test}
use Rattle.rv_code.specs.declared.action.Test.TheVariants.{Equal}
use Rattle.rv_code.specs.declared.action.Extension.TheVariants.{Signed32}
use Rattle.rv_code.specs.layout.ProgramCode.{is_code_address, IsNamed}
use Rattle.rv_code.specs.isa.Extension.{extended}
use Rattle.rv_code.specs.machine.Machine.{plus}
use Rattle.rv_code.specs.isa.Op.{apply, holds, flag}
use Rattle.rv_code.specs.machine.Step.{ByteState, operand}
use Rattle.rv_code.specs.isa.TwosComplement.{unsigned64}
use Rattle.sym_machine.specs.declared.value.Pointer.{Pointer}
use Rattle.sym_machine.specs.declared.value.Pointer.TheVariants.{Code, Ret}
use Rattle.sym_machine.specs.declared.value.Comparing.{Comparing}
use Rattle.sym_machine.specs.declared.value.Comparing.TheVariants.{Sub, Xor}
use Rattle.sym_machine.specs.declared.value.CodeSymbol.{CodeSymbol}
use Rattle.sym_machine.specs.declared.value.CodeSymbol.TheVariants.{Points, Hi, Abs, Diff, Apart}
use Rattle.sym_machine.specs.declared.value.Value.{Value}
use Rattle.sym_machine.specs.declared.value.Value.TheVariants.{Num, Sym, Piece}
use Rattle.sym_machine.specs.Values.{value_of, is_value_of, IsSymbol, AreSymbolsApart, op_of}
use Rattle.rb_bytes.specs.Options.{only_if}
use Rattle.sym_machine.specs.Rules.{is_nonzero, copied, from_difference, sum, compared, compared_by, masked, on_registers, on_zero}
use Rattle.sym_machine.specs.Rules.{on_constant, combined, equal_pointers, equal_number, tested, is_unsigned}
use Rattle.move_law.specs.Rewrite.{Rewrite, out}
use Rattle.move_law.specs.RelocatedValues.{distance, number_of_pointer, number_of_symbol}
use Rattle.move_law.specs.SimulationRelation.{IsGivenPointer, IsGiven, StandsFor}

-- A pointer's number: an even address that is low and isn't 0.
pub record IsPlace (n : ℕ) : Type 0 where
  pub above : 0 < n
  pub even : n % 2 ≡ 0
  pub low : n < 2 ^ 31

-- An address that a role or a cell names: a pointer if it is a code address, otherwise a number.
pub record Label (r : Rewrite) (t : ℕ) : Type 0 where
  pub fits : out r t < 2 ^ 31
  pub named : is_code_address r.code.funcs t ≡ true → IsNamed r.code t
  pub stays : is_code_address r.code.funcs t ≡ false → out r t ≡ t

-- Facts of the numbers of the symbols that can occur in a run of the input.
pub record Symbols (r : Rewrite) : Type 0 where
  pub place : (p : Pointer) → IsGivenPointer r p → IsPlace (number_of_pointer r p)
  pub code_once : (a b : ℕ) → IsGivenPointer r (Code a) → IsGivenPointer r (Code b) →
      number_of_pointer r (Code a) ≡ number_of_pointer r (Code b) → a ≡ b
  pub ret_once : (a b : ℕ) → IsGivenPointer r (Ret a) → IsGivenPointer r (Ret b) →
      number_of_pointer r (Ret a) ≡ number_of_pointer r (Ret b) → a ≡ b
  pub labels : (to from : ℕ) → IsGiven r (Diff to from) → Label r to × Label r from
  pub fits : (y : CodeSymbol) → IsSymbol y → IsGiven r y → number_of_symbol r y < 2 ^ 64
  pub short : (y : CodeSymbol) → IsSymbol y → IsGiven r y →
      extended Signed32 (number_of_symbol r y % 2 ^ 32) ≡ number_of_symbol r y
  pub unsigned : (y : CodeSymbol) → IsSymbol y → IsGiven r y → is_unsigned y ≡ true → number_of_symbol r y < 2 ^ 32
  pub nonzero : (y : CodeSymbol) → IsSymbol y → IsGiven r y → is_nonzero (Sym y) ≡ true → 0 < number_of_symbol r y
  pub value_fits : (v : Value) (x : ℕ) → StandsFor r v x → ((n : ℕ) → v ≡ Num n → ⊥) → x < 2 ^ 64

-- two numbers are equal exactly if two others are
same_test : (a b x y : ℕ) → (x ≡ y → a ≡ b) → (a ≡ b → x ≡ y) → (x == y) ≡ (a == b)
same_test a b x y f g = grind (arith, common_steps, eqb-false, eqb-true)

pub number_stands : (r : Rewrite) (n : ℕ) → StandsFor r (Num n) n
number_stands r n = record { value = tt; given = tt; number = refl }

pub label_stands : (r : Rewrite) (t : ℕ) → Label r t → StandsFor r (value_of r.code.funcs t) (out r t)
label_stands r t l = grind (arith, common_steps)

-- a value of a label has the label's number
label_number : (r : Rewrite) (t : ℕ) (w : Value) (z : ℕ) → Label r t → StandsFor r w z →
    is_value_of r.code.funcs t w ≡ true → z ≡ out r t
label_number r t (Num n) z l is e = grind (arith, common_steps, and_parts, eqb-true)
label_number r t (Sym (Points (Code a))) z l is e = grind (arith, common_steps, and_parts, eqb-true)
label_number r t (Sym (Points (Ret a))) z l is e = absurd (cc)
label_number r t (Sym (Hi a)) z l is e = absurd (cc)
label_number r t (Sym (Abs a)) z l is e = absurd (cc)
label_number r t (Sym (Diff a b)) z l is e = absurd (cc)
label_number r t (Sym (Apart by p q)) z l is e = absurd (cc)
label_number r t (Piece y w i k x) z l is e = absurd (cc)

-- Options.

pub only_stands : (r : Rewrite) (t : Bool) (v : Value) (x : ℕ) → (t ≡ true → StandsFor r v x) →
    IfSome (only_if t v) (λ w. StandsFor r w x)
only_stands r true v x f = f refl
only_stands r false v x f = tt

either : (r : Rewrite) (o p : Option Value) (x : ℕ) → IfSome o (λ w. StandsFor r w x) → IfSome p (λ w. StandsFor r w x) →
    IfSome (option_or o p) (λ w. StandsFor r w x)
either r None p x h k = k
either r (Some v) p x h k = h

pub at_number : (r : Rewrite) (v : Value) (x y : ℕ) → x ≡ y → StandsFor r v x → StandsFor r v y
at_number r v x y e h = subst (λ (n : ℕ). StandsFor r v n) e h

if_number : (r : Rewrite) (o : Option Value) (x y : ℕ) → x ≡ y → IfSome o (λ w. StandsFor r w x) →
    IfSome o (λ w. StandsFor r w y)
if_number r o x y e h = subst (λ (n : ℕ). IfSome o (λ w. StandsFor r w n)) e h

-- Arithmetic.

copied_stands : (r : Rewrite) (v w : Value) (x y : ℕ) → StandsFor r v x → StandsFor r w y →
    ((n : ℕ) → w ≡ Num n → x < 2 ^ 64) → IfSome (copied v w) (λ u. StandsFor r u (plus x y))
copied_stands r v (Num n) x y h k fits =
    only_stands r (n == 0) v (plus x y) (λ e. at_number r v x (plus x y) (same x y n (fits n refl) k.number (eqb-true n 0 e)) h)
  where
    same : (x y n : ℕ) → x < 2 ^ 64 → y ≡ n → n ≡ 0 → x ≡ plus x y
    same x y n f e g = omega (arith, f, e, g)
copied_stands r v (Sym z) x y h k fits = tt
copied_stands r v (Piece z i j m g) x y h k fits = tt

-- the distance plus the address from which it was measured
diff_back : (a b : ℕ) → a < 2 ^ 31 → b < 2 ^ 31 → a ≡ plus (unsigned64 (distance a b)) b
diff_back a b h k = omega (arith, ints, h, k)

from_difference_stands : (r : Rewrite) → Symbols r → (v w : Value) (x y : ℕ) → StandsFor r v x → StandsFor r w y →
    IfSome (from_difference r.code.funcs v w) (λ u. StandsFor r u (plus x y))
from_difference_stands r f (Num n) w x y h k = tt
from_difference_stands r f (Piece z i j m g) w x y h k = tt
from_difference_stands r f (Sym (Points p)) w x y h k = tt
from_difference_stands r f (Sym (Hi a)) w x y h k = tt
from_difference_stands r f (Sym (Abs a)) w x y h k = tt
from_difference_stands r f (Sym (Apart by p q)) w x y h k = tt
from_difference_stands r f (Sym (Diff to from)) w x y h k =
    grind (arith, common_steps, only_stands, label_number, diff_back, at_number, label_stands)

plus_turned : (x y : ℕ) → plus y x ≡ plus x y
plus_turned x y = omega arith

sum_stands : (r : Rewrite) → Symbols r → (v w : Value) (x y : ℕ) → StandsFor r v x → StandsFor r w y →
    ((n : ℕ) → w ≡ Num n → x < 2 ^ 64) → ((n : ℕ) → v ≡ Num n → y < 2 ^ 64) →
    IfSome (sum r.code.funcs v w) (λ u. StandsFor r u (plus x y))
sum_stands r f v w x y h k fits_x fits_y =
    either r (from_difference r.code.funcs v w)
    (option_or (from_difference r.code.funcs w v) (option_or (copied v w) (copied w v))) (plus x y)
    (from_difference_stands r f v w x y h k)
    (either r (from_difference r.code.funcs w v) (option_or (copied v w) (copied w v)) (plus x y)
    (if_number r (from_difference r.code.funcs w v) (plus y x) (plus x y) (plus_turned x y)
    (from_difference_stands r f w v y x k h))
    (either r (copied v w) (copied w v) (plus x y) (copied_stands r v w x y h k fits_x)
    (if_number r (copied w v) (plus y x) (plus x y) (plus_turned x y) (copied_stands r w v y x k h fits_y))))

-- Comparing pointers.

no_difference : (x y : ℕ) → x < 2 ^ 31 → x ≡ y → apply op.Sub x y ≡ 0
no_difference x y h e = omega (arith, h, e)

no_xor : (x y : ℕ) → x ≡ y → apply op.Xor x y ≡ 0
no_xor x y e = rw e (xor_self y)

compared_stands : (r : Rewrite) (by : Comparing) (p q : Pointer) (a b x y : ℕ) → IsGivenPointer r p → IsGivenPointer r q →
    (a ≢ b → AreSymbolsApart p q) → (a ≡ b → number_of_pointer r p ≡ number_of_pointer r q) →
    IsPlace (number_of_pointer r p) → x ≡ number_of_pointer r p → y ≡ number_of_pointer r q →
    StandsFor r (compared by p q a b) (apply (op_of by) x y)
compared_stands r by p q a b x y g h apart same place is is' = grind (arith, common_steps, no_difference, eqb-true, no_xor, eqb-false)

compared_by_stands : (r : Rewrite) → Symbols r → (by : Comparing) (p q : Pointer) (x y : ℕ) →
    StandsFor r (Sym (Points p)) x → StandsFor r (Sym (Points q)) y →
    IfSome (compared_by by p q) (λ u. StandsFor r u (apply (op_of by) x y))
compared_by_stands r f by (Code a) (Code b) x y h k =
    compared_stands r by (Code a) (Code b) a b x y h.given k.given (λ n. n)
    (λ e. ap (λ (n : ℕ). number_of_pointer r (Code n)) e) (f.place (Code a) h.given) h.number k.number
compared_by_stands r f by (Ret a) (Ret b) x y h k = grind (arith, common_steps, compared_stands)
compared_by_stands r f by (Code a) (Ret b) x y h k = tt
compared_by_stands r f by (Ret a) (Code b) x y h k = tt

low_bit : (x : ℕ) → bit_and x 1 ≡ x % 2
low_bit x = and_mask x 1

high_bits : (x : ℕ) → x < 2 ^ 64 → x % 2 ≡ 0 → bit_and x (2 ^ 64 - 2) ≡ x
high_bits x h k = let e = and_high_numeral x (2 ^ 64 - 3) refl h in omega (arith, e, k)

masked_stands : (r : Rewrite) → Symbols r → (p : Pointer) (n x : ℕ) → StandsFor r (Sym (Points p)) x →
    IfSome (masked p n) (λ u. StandsFor r u (apply op.And x n))
masked_stands r f p n x h = grind (arith, common_steps, eqb-true, low_bit, only_stands, high_bits, at_number)

-- Operations.

above_zero : (r : Rewrite) → Symbols r → (w : Value) (y : ℕ) → StandsFor r w y → is_nonzero w ≡ true → 0 < y
above_zero r f (Num n) y h e = absurd (cc)
above_zero r f (Piece z i j m x) y h e = absurd (cc)
above_zero r f (Sym z) y h e = rw h.number (f.nonzero z h.value h.given e)

flag_lt : (a b : ℕ) → a < b → flag (nat_lt a b) ≡ 1
flag_lt a b h = rw (lt-ltb a b h) refl

flag_ge : (a b : ℕ) → b ≤ a → flag (nat_lt a b) ≡ 0
flag_ge a b h = rw (le-ltb a b h) refl

num_apart : (y : CodeSymbol) (n : ℕ) → Sym y ≡ Num n → ⊥
num_apart y n e = absurd (cc)

copies : (r : Rewrite) → Symbols r → (v : Value) (n x : ℕ) → StandsFor r v x → ((m : ℕ) → v ≡ Num m → ⊥) →
    IfSome (only_if (n == 0) v) (λ u. StandsFor r u (apply op.Add x n))
copies r f v n x h apart = grind (arith, common_steps, only_stands, eqb-true, at_number)

below_one : (r : Rewrite) → Symbols r → (v : Value) (n x : ℕ) → StandsFor r v x →
    IfSome (only_if (n == 1 && is_nonzero v) (Num 0)) (λ u. StandsFor r u (apply op.Sltu x n))
below_one r f v n x h = grind (arith, common_steps, only_stands, and_parts, above_zero, eqb-true, flag_ge)

-- an operation on two registers
pub on_registers_stands : (r : Rewrite) → Symbols r → (o : Op) (v w : Value) (x y : ℕ) → StandsFor r v x →
    StandsFor r w y → IfSome (on_registers r.code.funcs o v w) (λ u. StandsFor r u (apply o x y))
on_registers_stands r f o (Num a) (Num b) x y h k = rw (h.number, k.number) (number_stands r (apply o a b))
on_registers_stands r f op.Add (Num a) (Sym z) x y h k =
    sum_stands r f (Num a) (Sym z) x y h k (λ n e. absurd (num_apart z n e)) (λ n e. f.value_fits (Sym z) y k (num_apart z))
on_registers_stands r f op.Add (Num a) (Piece z i j m g) x y h k = grind (arith, common_steps, sum_stands)
on_registers_stands r f op.Add (Sym z) w x y h k =
    sum_stands r f (Sym z) w x y h k (λ n e. f.value_fits (Sym z) x h (num_apart z)) (λ n e. absurd (num_apart z n e))
on_registers_stands r f op.Add (Piece z i j m g) w x y h k = grind (arith, common_steps, sum_stands)
on_registers_stands r f op.Sub (Sym (Points p)) (Sym (Points q)) x y h k = compared_by_stands r f Sub p q x y h k
on_registers_stands r f op.Xor (Sym (Points p)) (Sym (Points q)) x y h k = compared_by_stands r f Xor p q x y h k
on_registers_stands r f _ _ _ x y h k = tt

-- an operation on register 0 and another register
pub on_zero_stands : (r : Rewrite) → Symbols r → (o : Op) (v w : Value) (x y : ℕ) → x ≡ 0 → StandsFor r v x →
    StandsFor r w y → IfSome (on_zero r.code.funcs o v w) (λ u. StandsFor r u (apply o x y))
on_zero_stands r f op.Sltu v w x y zero_is h k = cases (is_nonzero w) refl
  where
    cases : (t : Bool) → is_nonzero w ≡ t →
        IfSome (if t then Some (Num 1) else on_registers r.code.funcs op.Sltu v w) (λ u. StandsFor r u (apply op.Sltu x y))
    cases true e =
        let p : 0 < y = above_zero r f w y k e in
        record { value = tt; given = tt; number = flag_lt x y (omega (arith, p, zero_is)) }
    cases false e = on_registers_stands r f op.Sltu v w x y h k
on_zero_stands r f o v w x y zero_is h k = on_registers_stands r f o v w x y h k

-- an operation on a register and a constant
pub on_constant_stands : (r : Rewrite) → Symbols r → (o : Op) (v : Value) (n x : ℕ) → StandsFor r v x →
    IfSome (on_constant o v n) (λ u. StandsFor r u (apply o x n))
on_constant_stands r f o (Num a) n x h = rw h.number (number_stands r (apply o a n))
on_constant_stands r f op.Add (Sym z) n x h = copies r f (Sym z) n x h (num_apart z)
on_constant_stands r f op.Add (Piece z i j m g) n x h = copies r f (Piece z i j m g) n x h (λ n e. absurd (cc))
on_constant_stands r f op.Sltu (Sym z) n x h = below_one r f (Sym z) n x h
on_constant_stands r f op.Sltu (Piece z i j m g) n x h = below_one r f (Piece z i j m g) n x h
on_constant_stands r f op.And (Sym (Points p)) n x h = masked_stands r f p n x h
on_constant_stands r f _ _ n x h = tt

-- an operation by its operands
pub combined_stands : (r : Rewrite) → Symbols r → (registers : ℕ → Value) (b : ByteState) → registers 0 ≡ Num 0 →
    ((i : ℕ) → StandsFor r (registers i) (b.registers i)) → (o : Op) (left right : Operand) →
    IfSome (combined r.code.funcs registers o left right) (λ u. StandsFor r u (apply o (operand b left) (operand b right)))
combined_stands r f registers b z all o (Register zero) (Register r2) = grind (arith, common_steps, on_zero_stands)
combined_stands r f registers b z all o (Register (suc r1)) (Register r2) =
    on_registers_stands r f o (registers (suc r1)) (registers r2) (b.registers (suc r1)) (b.registers r2) (all (suc r1))
    (all r2)
combined_stands r f registers b z all o (Register zero) (Immediate imm) = grind (arith, common_steps, on_constant_stands)
combined_stands r f registers b z all o (Register (suc r1)) (Immediate imm) =
    on_constant_stands r f o (registers (suc r1)) (unsigned64 imm) (b.registers (suc r1)) (all (suc r1))
combined_stands r f registers b z all o (Immediate imm) right = tt

-- Branches.

equal_pointers_stand : (r : Rewrite) → Symbols r → (p q : Pointer) (x y : ℕ) → StandsFor r (Sym (Points p)) x →
    StandsFor r (Sym (Points q)) y → IfSome (equal_pointers p q) (λ t. (x == y) ≡ t)
equal_pointers_stand r f (Code a) (Code b) x y h k =
    same_test a b x y (λ e. f.code_once a b h.given k.given (sym h.number ∙ e ∙ k.number))
    (λ e. h.number ∙ ap (λ (n : ℕ). number_of_pointer r (Code n)) e ∙ sym k.number)
equal_pointers_stand r f (Ret a) (Ret b) x y h k = grind (arith, common_steps, same_test)
equal_pointers_stand r f (Code a) (Ret b) x y h k = tt
equal_pointers_stand r f (Ret a) (Code b) x y h k = tt

equal_number_stands : (r : Rewrite) → Symbols r → (v : Value) (n x y : ℕ) → StandsFor r v x → y ≡ n →
    IfSome (equal_number v n) (λ t. ((x == y) ≡ t) × ((y == x) ≡ t))
equal_number_stands r f v n x y h k = grind (arith, common_steps, and_parts, above_zero, eqb-true, ne_eqb)

first_of_two : (x y : ℕ) (o : Option Bool) → IfSome o (λ t. ((x == y) ≡ t) × ((y == x) ≡ t)) → IfSome o (λ t. (x == y) ≡ t)
first_of_two x y None h = tt
first_of_two x y (Some t) h = h.0

second_of_two : (x y : ℕ) (o : Option Bool) → IfSome o (λ t. ((x == y) ≡ t) × ((y == x) ≡ t)) → IfSome o (λ t. (y == x) ≡ t)
second_of_two x y None h = tt
second_of_two x y (Some t) h = h.1

pub tested_stands : (r : Rewrite) → Symbols r → (test : Test) (v w : Value) (x y : ℕ) → StandsFor r v x → StandsFor r w y →
    IfSome (tested test v w) (λ t. holds test x y ≡ t)
tested_stands r f test (Num a) (Num b) x y h k = rw (h.number, k.number) refl
tested_stands r f Equal (Sym (Points p)) (Sym (Points q)) x y h k = equal_pointers_stand r f p q x y h k
tested_stands r f Equal (Sym z) (Num n) x y h k =
    first_of_two x y (equal_number (Sym z) n) (equal_number_stands r f (Sym z) n x y h k.number)
tested_stands r f Equal (Piece z i j m g) (Num n) x y h k = grind (arith, common_steps, first_of_two, equal_number_stands)
tested_stands r f Equal (Num n) (Sym z) x y h k = grind (arith, common_steps, second_of_two, equal_number_stands)
tested_stands r f Equal (Num n) (Piece z i j m g) x y h k = grind (arith, common_steps, second_of_two, equal_number_stands)
tested_stands r f _ _ _ x y h k = tt

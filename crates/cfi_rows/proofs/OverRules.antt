-- The rows of an FDE are the rows of only its instructions, over the rules of its CIE.
use Rattle.std.proofs.Common.{ℕ, ◌+◌, ◌<◌, ◌≡◌, ◌∙◌, ◌==◌, List, [], ◌∷◌, map, Option, Some, None, option_map, cond, ltb, Bool, true}
use Rattle.std.proofs.Common.{false, refl, sym, ap, arith}
use Rattle.std.specs.Prelude.{nat_lt, nat_le, ◌^◌}
use Rattle.std.specs.Option.{option_or}
use Rattle.std.proofs.lemmas.Bool.Decides.{nat_tests}
use Rattle.std.proofs.lemmas.Option.{none-some, same_Some}
use Rattle.cfi_rows.specs.declared.row.Cfa.{Cfa}
use Rattle.cfi_rows.specs.declared.row.Rule.{Rule}
use Rattle.cfi_rows.specs.declared.instruction.Instruction.{Instruction}
use Rattle.cfi_rows.specs.declared.instruction.Instruction.TheVariants.{Advance, SetLoc, DefCfa, DefCfaRegister, DefCfaOffset, SetRule}
use Rattle.cfi_rows.specs.declared.instruction.Instruction.TheVariants.{Restore, RememberState, RestoreState, Nop}
use Rattle.cfi_rows.specs.RuleEntries.{Ascend}
use Rattle.cfi_rows.specs.RuleChanges.{over}
use Rattle.cfi_rows.specs.RowHistories.{row_over}
use Rattle.cfi_rows.specs.FrameRows.{Rules, with_rule, without_rule, rule_of, restored, Known, State, moved_to, with_cfa, with_register}
use Rattle.cfi_rows.specs.FrameRows.{with_offset, take_back, step, row_from, PlacedRow, ends_row, prepended, and_rows, then_rows, rows}
use Rattle.cfi_rows.proofs.AscendingRules.{restored-ascend, with-ascend, without-ascend, IsAscending, AfterStep, step-ascend}
use Rattle.cfi_rows.proofs.RuleLists.{absent, same-number}

-- Look-ups

with-found : (k : ℕ) (v : Rule) (q : ℕ) (x : ℕ × Rule) (xs : Rules) (a b c d : Bool) → nat_lt x.0 k ≡ a → (x.0 == k) ≡ b → (k == q) ≡ c
    → (x.0 == q) ≡ d → rule_of q (with_rule k v xs) ≡ cond (k == q) (Some v) (rule_of q xs)
    → rule_of q (with_rule k v (x ∷ xs)) ≡ cond (k == q) (Some v) (rule_of q (x ∷ xs))
with-found k v q x xs true b true true e f g h r = absurd (grind (arith, nat_tests))
with-found k v q x xs true b true false e f g h r = rw (e, g, h) (r ∙ ap (λ (t : Bool). cond t (Some v) (rule_of q xs)) g)
with-found k v q x xs true b false true e f g h r = rw (e, g, h) refl
with-found k v q x xs true b false false e f g h r = rw (e, g, h) (r ∙ ap (λ (t : Bool). cond t (Some v) (rule_of q xs)) g)
with-found k v q x xs false true true d e f g h r = rw (e, f, g) refl
with-found k v q x xs false true false true e f g h r = absurd (grind (arith, nat_tests))
with-found k v q x xs false true false false e f g h r = rw (e, f, g, h) refl
with-found k v q x xs false false true d e f g h r = rw (e, f, g) refl
with-found k v q x xs false false false d e f g h r = rw (e, f, g) refl

rule-with : (k : ℕ) (v : Rule) (q : ℕ) (xs : Rules) → rule_of q (with_rule k v xs) ≡ cond (k == q) (Some v) (rule_of q xs)
rule-with k v q [] = refl
rule-with k v q (x ∷ xs) =
    with-found k v q x xs (nat_lt x.0 k) (x.0 == k) (k == q) (x.0 == q) refl refl refl refl (rule-with k v q xs)

without-found : (k q : ℕ) (x : ℕ × Rule) (xs : Rules) (b c d : Bool) → (x.0 == k) ≡ b → (k == q) ≡ c → (x.0 == q) ≡ d
    → Ascend (x.0 + 1) xs → rule_of q (without_rule k xs) ≡ cond (k == q) None (rule_of q xs)
    → rule_of q (without_rule k (x ∷ xs)) ≡ cond (k == q) None (rule_of q (x ∷ xs))
without-found k q x xs true true d e f g a r =
    let l : x.0 ≡ q = grind (arith, nat_tests) in rw (e, f) (absent q (x.0 + 1) xs (omega arith) a)
without-found k q x xs true false true e f g a r = absurd (grind (arith, nat_tests))
without-found k q x xs true false false e f g a r = rw (e, f, g) refl
without-found k q x xs false true true e f g a r = absurd (grind (arith, nat_tests))
without-found k q x xs false true false e f g a r = rw (e, f, g) (r ∙ ap (λ (t : Bool). cond t None (rule_of q xs)) f)
without-found k q x xs false false true e f g a r = rw (e, f, g) refl
without-found k q x xs false false false e f g a r = rw (e, f, g) (r ∙ ap (λ (t : Bool). cond t None (rule_of q xs)) f)

pub rule-without : (k q lo : ℕ) (xs : Rules) → Ascend lo xs → rule_of q (without_rule k xs) ≡ cond (k == q) None (rule_of q xs)
rule-without k q lo [] a = either (k == q) where
  either : (b : Bool) → ◌≡◌ {A = Option Rule} None (cond b None None)
  either true = refl
  either false = refl
rule-without k q lo (x ∷ xs) a =
    without-found k q x xs (x.0 == k) (k == q) (x.0 == q) refl refl refl a.1 (rule-without k q (x.0 + 1) xs a.1)

over-found : (q : ℕ) (x : ℕ × Rule) (xs : Rules) (o : Option Rule) (b : Bool) → (x.0 == q) ≡ b → Ascend (x.0 + 1) xs
    → option_or (rule_of q xs) (cond (x.0 == q) (Some x.1) o) ≡ option_or (cond (x.0 == q) (Some x.1) (rule_of q xs)) o
over-found q x xs o true e a =
    let l : x.0 ≡ q = grind (arith, nat_tests) in
    rw e (ap (λ (p : Option Rule). option_or p (Some x.1)) (absent q (x.0 + 1) xs (omega arith) a))
over-found q x xs o false e a = rw e refl

pub rule-over : (q lo : ℕ) (initial xs : Rules) → Ascend lo xs → rule_of q (over initial xs) ≡ option_or (rule_of q xs) (rule_of q initial)
rule-over q lo initial [] a = refl
rule-over q lo initial (x ∷ xs) a =
    rule-over q (x.0 + 1) (with_rule x.0 x.1 initial) xs a.1
    ∙ ap (option_or (rule_of q xs)) (rule-with x.0 x.1 q initial)
    ∙ over-found q x xs (rule_of q initial) (x.0 == q) refl a.1

pub over-ascend : (initial xs : Rules) → Ascend 0 initial → Ascend 0 (over initial xs)
over-ascend initial [] a = a
over-ascend initial (x ∷ xs) a = over-ascend (with_rule x.0 x.1 initial) xs (with-ascend x.0 x.1 initial 0 (omega arith) a)

-- Rules that ascend are the same if all look-ups are.

first-found : (k : ℕ) (x : ℕ × Rule) (xs : Rules) → x.0 ≡ k → rule_of k (x ∷ xs) ≡ Some x.1
first-found k x xs e = ap (λ (b : Bool). cond b (Some x.1) (rule_of k xs)) (ap (λ n. n == k) e ∙ same-number k)

tail-same : (q : ℕ) (x y : ℕ × Rule) (xs ys : Rules) (b : Bool) → x.0 ≡ y.0 → (x.0 == q) ≡ b → Ascend (x.0 + 1) xs → Ascend (y.0 + 1) ys
    → rule_of q (x ∷ xs) ≡ rule_of q (y ∷ ys) → rule_of q xs ≡ rule_of q ys
tail-same q x y xs ys true s e a c r =
    let l : x.0 ≡ q = grind (arith, nat_tests) in
    absent q (x.0 + 1) xs (omega arith) a ∙ sym (absent q (y.0 + 1) ys (omega arith) c)
tail-same q x y xs ys false s e a c r =
    sym (ap (λ (b : Bool). cond b (Some x.1) (rule_of q xs)) e) ∙ r
    ∙ ap (λ (b : Bool). cond b (Some y.1) (rule_of q ys)) (sym (ap (λ n. n == q) s) ∙ e)

pair-same : (a b : ℕ) (x y : Rule) → a ≡ b → x ≡ y → ◌≡◌ {A = ℕ × Rule} (a, x) (b, y)
pair-same a b x y p q = λ i. (p i, q i)

pub same-rules : (xs ys : Rules) (lo hi : ℕ) → Ascend lo xs → Ascend hi ys → ((q : ℕ) → rule_of q xs ≡ rule_of q ys) → xs ≡ ys
same-rules [] [] lo hi a c r = refl
same-rules [] (y ∷ ys) lo hi a c r = absurd (none-some y.1 (r y.0 ∙ first-found y.0 y ys refl))
same-rules (x ∷ xs) [] lo hi a c r = absurd (none-some x.1 (sym (r x.0) ∙ first-found x.0 x xs refl))
same-rules (x ∷ xs) (y ∷ ys) lo hi a c r =
    by (ltb x.0 y.0) (ltb y.0 x.0) refl refl (λ s. same-rules xs ys (x.0 + 1) (y.0 + 1) a.1 c.1 (λ q.
    tail-same q x y xs ys (x.0 == q) s refl a.1 c.1 (r q))) where
      by : (b d : Bool) → ltb x.0 y.0 ≡ b → ltb y.0 x.0 ≡ d → (x.0 ≡ y.0 → xs ≡ ys) → x ∷ xs ≡ y ∷ ys
      by true d e f more =
          let l : x.0 < y.0 = grind (arith, nat_tests) in
          absurd (none-some x.1 (sym (absent x.0 y.0 (y ∷ ys) l (omega arith, c.1)) ∙ sym (r x.0) ∙ first-found x.0 x xs refl))
      by false true e f more =
          let l : y.0 < x.0 = grind (arith, nat_tests) in
          absurd (none-some y.1 (sym (absent y.0 x.0 (x ∷ xs) l (omega arith, a.1)) ∙ r y.0 ∙ first-found y.0 y ys refl))
      by false false e f more =
          let s : x.0 ≡ y.0 = grind (arith, nat_tests) in
          let v : x.1 ≡ y.1 = same_Some _ _ (sym (first-found x.0 x xs refl) ∙ r x.0 ∙ first-found x.0 y ys (sym s)) in
          λ i. pair-same _ _ _ _ s v i ∷ more s i

-- Without other rules

pub over-none : (xs : Rules) → Ascend 0 xs → over [] xs ≡ xs
over-none xs a = same-rules (over [] xs) xs 0 0 (over-ascend [] xs tt) a (λ q. rule-over q 0 [] xs a ∙ or-none (rule_of q xs))
  where
    or-none : (o : Option Rule) → option_or o None ≡ o
    or-none None = refl
    or-none (Some r) = refl

-- A change of overriding rules

pub over-with : (initial xs : Rules) (k : ℕ) (v : Rule) → Ascend 0 initial → Ascend 0 xs
    → with_rule k v (over initial xs) ≡ over initial (with_rule k v xs)
over-with initial xs k v a c =
    let d = with-ascend k v xs 0 (omega arith) c in
    same-rules _ _ 0 0 (with-ascend k v (over initial xs) 0 (omega arith) (over-ascend initial xs a))
    (over-ascend initial (with_rule k v xs) a)
    (λ q. rule-with k v q (over initial xs) ∙ by q (k == q) refl ∙ sym (rule-over q 0 initial (with_rule k v xs) d)) where
      by : (q : ℕ) (b : Bool) → (k == q) ≡ b
          → cond (k == q) (Some v) (rule_of q (over initial xs)) ≡ option_or (rule_of q (with_rule k v xs)) (rule_of q initial)
      by q true e =
          ap (λ (t : Bool). cond t (Some v) (rule_of q (over initial xs))) e
          ∙ sym (ap (λ (o : Option Rule). option_or o (rule_of q initial)) (rule-with k v q xs
          ∙ ap (λ (t : Bool). cond t (Some v) (rule_of q xs)) e))
      by q false e =
          ap (λ (t : Bool). cond t (Some v) (rule_of q (over initial xs))) e ∙ rule-over q 0 initial xs c
          ∙ sym (ap (λ (o : Option Rule). option_or o (rule_of q initial)) (rule-with k v q xs
          ∙ ap (λ (t : Bool). cond t (Some v) (rule_of q xs)) e))

-- a look-up in rules after one register's rule is given back
rule-back : (k q : ℕ) (o : Option Rule) (xs : Rules) → Ascend 0 xs → rule_of q (restored k o xs) ≡ cond (k == q) o (rule_of q xs)
rule-back k q None xs a = rule-without k q 0 xs a
rule-back k q (Some v) xs a = rule-with k v q xs

pub over-without : (initial xs : Rules) (k : ℕ) → Ascend 0 initial → Ascend 0 xs
    → restored k (rule_of k initial) (over initial xs) ≡ over initial (without_rule k xs)
over-without initial xs k a c =
    let d = without-ascend k xs 0 c in
    same-rules _ _ 0 0 (restored-ascend k (rule_of k initial) (over initial xs) (over-ascend initial xs a))
    (over-ascend initial (without_rule k xs) a)
    (λ q. rule-back k q (rule_of k initial) (over initial xs) (over-ascend initial xs a) ∙ by q (k == q) refl
    ∙ sym (rule-over q 0 initial (without_rule k xs) d)) where
      by : (q : ℕ) (b : Bool) → (k == q) ≡ b
          → cond (k == q) (rule_of k initial) (rule_of q (over initial xs)) ≡ option_or (rule_of q (without_rule k xs))
          (rule_of q initial)
      by q true e =
          let same : k ≡ q = grind (arith, nat_tests) in
          ap (λ (t : Bool). cond t (rule_of k initial) (rule_of q (over initial xs))) e ∙ ap (λ n. rule_of n initial) same
          ∙ sym (ap (λ (o : Option Rule). option_or o (rule_of q initial)) (rule-without k q 0 xs c
          ∙ ap (λ (t : Bool). cond t None (rule_of q xs)) e))
      by q false e =
          ap (λ (t : Bool). cond t (rule_of k initial) (rule_of q (over initial xs))) e ∙ rule-over q 0 initial xs c
          ∙ sym (ap (λ (o : Option Rule). option_or o (rule_of q initial)) (rule-without k q 0 xs c
          ∙ ap (λ (t : Bool). cond t None (rule_of q xs)) e))

-- States whose rules override others

abbrev known_over : Rules → Known → Known
known_over initial k = record { cfa = k.cfa; rules = over initial k.rules }

abbrev pub state_over : Rules → State → State
state_over initial s =
    record { location = s.location; known = known_over initial s.known; saved = map (known_over initial) s.saved }

moved-over : (initial : Rules) (s : State) (a : ℕ) → moved_to a (state_over initial s) ≡ option_map (state_over initial) (moved_to a s)
moved-over initial s a = by (nat_lt a (2 ^ 64)) where
  by : (b : Bool) → cond b (Some (state_over initial (record { location = a; known = s.known; saved = s.saved }))) None
      ≡ option_map (state_over initial) (cond b (Some (record { location = a; known = s.known; saved = s.saved })) None)
  by true = refl
  by false = refl

went-over : (initial : Rules) (s : State) (a : ℕ) (b : Bool)
    → cond b (moved_to a (state_over initial s)) None ≡ option_map (state_over initial) (cond b (moved_to a s) None)
went-over initial s a true = moved-over initial s a
went-over initial s a false = refl

cfa-over : (initial : Rules) (s : State) (o : Option Cfa)
    → option_map (with_cfa (state_over initial s)) o ≡ option_map (state_over initial) (option_map (with_cfa s) o)
cfa-over initial s None = refl
cfa-over initial s (Some c) = refl

back-over : (initial : Rules) (s : State) (ks : List Known)
    → take_back (state_over initial s) (map (known_over initial) ks) ≡ option_map (state_over initial) (take_back s ks)
back-over initial s [] = refl
back-over initial s (k ∷ ks) = refl

abbrev with_own : Rules → State → Rules → Option State
with_own initial s rules = Some (record {
  location = s.location;
  known = record { cfa = s.known.cfa; rules = rules };
  saved = map (known_over initial) s.saved;
})

step-over : (initial : Rules) (i : Instruction) (s : State) → Ascend 0 initial → IsAscending s
    → step initial i (state_over initial s) ≡ option_map (state_over initial) (step [] i s)
step-over initial (Advance n) s a c = moved-over initial s (s.location + n)
step-over initial (SetLoc n) s a c = went-over initial s n (nat_le s.location n)
step-over initial (DefCfa cfa) s a c = refl
step-over initial (DefCfaRegister r) s a c = cfa-over initial s (with_register r s.known.cfa)
step-over initial (DefCfaOffset n) s a c = cfa-over initial s (with_offset n s.known.cfa)
step-over initial (SetRule r v) s a c = ap (with_own initial s) (over-with initial s.known.rules r v a c.known)
step-over initial (Restore r) s a c = ap (with_own initial s) (over-without initial s.known.rules r a c.known)
step-over initial RememberState s a c = refl
step-over initial RestoreState s a c = back-over initial s s.saved
step-over initial Nop s a c = refl

-- Rows

abbrev RowsOver : Rules → Option (List PlacedRow) → Option (List PlacedRow)
RowsOver initial o = option_map (map (row_over initial)) o

prepended-over : (initial : Rules) (at : ℕ) (cfa : Option Cfa) (rules : Rules) (more : Option (List PlacedRow))
    → prepended at (row_from cfa (over initial rules)) (RowsOver initial more) ≡ RowsOver initial (prepended at (row_from cfa rules) more)
prepended-over initial at None rules more = refl
prepended-over initial at (Some c) rules None = refl
prepended-over initial at (Some c) rules (Some rs) = refl

and-over : (initial : Rules) (b : Bool) (s : State) (more : Option (List PlacedRow))
    → and_rows b (state_over initial s) (RowsOver initial more) ≡ RowsOver initial (and_rows b s more)
and-over initial true s more = prepended-over initial s.location s.known.cfa s.known.rules more
and-over initial false s more = refl

then-over : (initial : Rules) (is : List Instruction) (o : Option State) → AfterStep o
    → ((t : State) → IsAscending t → rows initial is (state_over initial t) ≡ RowsOver initial (rows [] is t))
    → then_rows (option_map (state_over initial) o) (rows initial is) ≡ RowsOver initial (then_rows o (rows [] is))
then-over initial is None a f = refl
then-over initial is (Some t) a f = f t a

pub rows-over : (initial : Rules) (is : List Instruction) (s : State) → Ascend 0 initial → IsAscending s
    → rows initial is (state_over initial s) ≡ RowsOver initial (rows [] is s)
rows-over initial [] s a c = prepended-over initial s.location s.known.cfa s.known.rules (Some [])
rows-over initial (i ∷ is) s a c =
    ap (λ (o : Option State). and_rows (ends_row i) (state_over initial s) (then_rows o (rows initial is))) (step-over initial i s a c)
    ∙ ap (and_rows (ends_row i) (state_over initial s))
    (then-over initial is (step [] i s) (step-ascend [] i s c) (λ t d. rows-over initial is t a d))
    ∙ and-over initial (ends_row i) s (then_rows (step [] i s) (rows [] is))

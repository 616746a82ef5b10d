-- The rules of registers ascend by register, in each state and each row.
use Rattle.std.proofs.Common.{ℕ, ◌+◌, ◌≤◌, ◌<◌, ◌≡◌, ◌==◌, List, [], ◌∷◌, Option, Some, None, option_map, cond, ltb, Bool, true, false}
use Rattle.std.proofs.Common.{refl, arith}
use Rattle.std.proofs.lemmas.Bool.Decides.{nat_tests}
use Rattle.cfi_rows.specs.declared.row.Cfa.{Cfa}
use Rattle.cfi_rows.specs.declared.row.Rule.{Rule}
use Rattle.cfi_rows.specs.declared.instruction.Instruction.{Instruction}
use Rattle.cfi_rows.specs.declared.instruction.Instruction.TheVariants.{Advance, SetLoc, DefCfa, DefCfaRegister, DefCfaOffset, SetRule}
use Rattle.cfi_rows.specs.declared.instruction.Instruction.TheVariants.{Restore, RememberState, RestoreState, Nop}
use Rattle.cfi_rows.specs.RuleEntries.{Ascend}
use Rattle.cfi_rows.specs.FrameRows.{Rules, with_rule, without_rule, rule_of, restored, Known, State, moved_to, with_cfa, with_register}
use Rattle.cfi_rows.specs.FrameRows.{with_offset, take_back, step, row_from, prepended, and_rows, then_rows, ends_row, rows, known_after}
use Rattle.cfi_rows.specs.FrameRows.{PlacedRow}

weaker : (lo n : ℕ) (xs : Rules) → lo ≤ n → Ascend n xs → Ascend lo xs
weaker lo n [] h a = tt
weaker lo n (x ∷ xs) h a = let l = a.0 in (omega arith, a.1)

with-at : (b c : Bool) (k : ℕ) (v : Rule) (x : ℕ × Rule) (xs : Rules) (lo : ℕ) → ltb x.0 k ≡ b → (x.0 == k) ≡ c → lo ≤ k
    → Ascend lo (x ∷ xs) → (x.0 < k → Ascend (x.0 + 1) (with_rule k v xs)) → Ascend lo (with_rule k v (x ∷ xs))
with-at true c k v x xs lo e f h a r = let l : x.0 < k = grind (arith, nat_tests) in rw e (a.0, r l)
with-at false true k v x xs lo e f h a r =
    let l : x.0 ≡ k = grind (arith, nat_tests) in rw (e, f) (h, weaker (k + 1) (x.0 + 1) xs (omega arith) a.1)
with-at false false k v x xs lo e f h a r = let l : k < x.0 = grind (arith, nat_tests) in rw (e, f) (h, (omega arith, a.1))

pub with-ascend : (k : ℕ) (v : Rule) (xs : Rules) (lo : ℕ) → lo ≤ k → Ascend lo xs → Ascend lo (with_rule k v xs)
with-ascend k v [] lo h a = (h, tt)
with-ascend k v (x ∷ xs) lo h a =
    with-at (ltb x.0 k) (x.0 == k) k v x xs lo refl refl h a (λ l. with-ascend k v xs (x.0 + 1) (omega arith) a.1)

without-at : (c : Bool) (k : ℕ) (x : ℕ × Rule) (xs : Rules) (lo : ℕ) → (x.0 == k) ≡ c → Ascend lo (x ∷ xs)
    → Ascend (x.0 + 1) (without_rule k xs) → Ascend lo (without_rule k (x ∷ xs))
without-at true k x xs lo f a r = let l = a.0 in rw f (weaker lo (x.0 + 1) xs (omega arith) a.1)
without-at false k x xs lo f a r = rw f (a.0, r)

pub without-ascend : (k : ℕ) (xs : Rules) (lo : ℕ) → Ascend lo xs → Ascend lo (without_rule k xs)
without-ascend k [] lo a = tt
without-ascend k (x ∷ xs) lo a = without-at (x.0 == k) k x xs lo refl a (without-ascend k xs (x.0 + 1) a.1)

pub restored-ascend : (k : ℕ) (o : Option Rule) (xs : Rules) → Ascend 0 xs → Ascend 0 (restored k o xs)
restored-ascend k None xs a = without-ascend k xs 0 a
restored-ascend k (Some v) xs a = with-ascend k v xs 0 (omega arith) a

-- States

abbrev pub AllAscend : List Known → Type 0
AllAscend [] = Unit {0}
AllAscend (k ∷ ks) = Ascend 0 k.rules × AllAscend ks

pub record IsAscending (s : State) : Type 0 where
  pub known : Ascend 0 s.known.rules
  pub saved : AllAscend s.saved

-- what holds of the state after a step, if there is one
abbrev pub AfterStep : Option State → Type 0
AfterStep None = Unit {0}
AfterStep (Some s) = IsAscending s

moved-ascend : (b : Bool) (t : State) → IsAscending t → AfterStep (cond b (Some t) None)
moved-ascend true t a = a
moved-ascend false t a = tt

tested : (b : Bool) (o : Option State) → AfterStep o → AfterStep (cond b o None)
tested true o a = a
tested false o a = tt

cfa-ascend : (s : State) (o : Option Cfa) → IsAscending s → AfterStep (option_map (with_cfa s) o)
cfa-ascend s None a = tt
cfa-ascend s (Some c) a = record { known = a.known; saved = a.saved }

back-ascend : (s : State) (ks : List Known) → AllAscend ks → AfterStep (take_back s ks)
back-ascend s [] a = tt
back-ascend s (k ∷ ks) a = record { known = a.0; saved = a.1 }

pub step-ascend : (initial : Rules) (i : Instruction) (s : State) → IsAscending s → AfterStep (step initial i s)
step-ascend initial (Advance n) s a = moved-ascend _ _ (record { known = a.known; saved = a.saved })
step-ascend initial (SetLoc n) s a = tested _ (moved_to n s) (moved-ascend _ _ (record { known = a.known; saved = a.saved }))
step-ascend initial (DefCfa c) s a = record { known = a.known; saved = a.saved }
step-ascend initial (DefCfaRegister r) s a = cfa-ascend s (with_register r s.known.cfa) a
step-ascend initial (DefCfaOffset n) s a = cfa-ascend s (with_offset n s.known.cfa) a
step-ascend initial (SetRule r v) s a =
    record { known = with-ascend r v s.known.rules 0 (omega arith) a.known; saved = a.saved }
step-ascend initial (Restore r) s a =
    record { known = restored-ascend r (rule_of r initial) s.known.rules a.known; saved = a.saved }
step-ascend initial RememberState s a = record { known = a.known; saved = (a.known, a.saved) }
step-ascend initial RestoreState s a = back-ascend s s.saved a.saved
step-ascend initial Nop s a = a

-- Rows

abbrev pub RowsAscend : List PlacedRow → Type 0
RowsAscend [] = Unit {0}
RowsAscend (r ∷ rs) = Ascend 0 r.row.rules × RowsAscend rs

abbrev pub IfRows : Option (List PlacedRow) → Type 0
IfRows None = Unit {0}
IfRows (Some rs) = RowsAscend rs

before-ascend : (a : ℕ) (c : Option Cfa) (rules : Rules) (o : Option (List PlacedRow)) → Ascend 0 rules → IfRows o
    → IfRows (prepended a (row_from c rules) o)
before-ascend a None rules o h g = tt
before-ascend a (Some c) rules None h g = tt
before-ascend a (Some c) rules (Some rs) h g = (h, g)

and-ascend : (b : Bool) (s : State) (o : Option (List PlacedRow)) → IsAscending s → IfRows o → IfRows (and_rows b s o)
and-ascend true s o a g = before-ascend s.location s.known.cfa s.known.rules o a.known g
and-ascend false s o a g = g

then-ascend : (initial : Rules) (is : List Instruction) (o : Option State) → AfterStep o
    → ((s : State) → IsAscending s → IfRows (rows initial is s)) → IfRows (then_rows o (rows initial is))
then-ascend initial is None a f = tt
then-ascend initial is (Some s) a f = f s a

pub rows-ascend : (initial : Rules) (is : List Instruction) (s : State) → IsAscending s → IfRows (rows initial is s)
rows-ascend initial [] s a = before-ascend s.location s.known.cfa s.known.rules (Some []) a.known tt
rows-ascend initial (i ∷ is) s a =
    and-ascend (ends_row i) s _ a (then-ascend initial is (step initial i s) (step-ascend initial i s a) (rows-ascend initial is))

-- The state known after the instructions of a CIE

abbrev pub KnownAscends : Option Known → Type 0
KnownAscends None = Unit {0}
KnownAscends (Some k) = Ascend 0 k.rules

known-start : (o : Option State) → AfterStep o → KnownAscends (option_map (λ t. t.known) o)
known-start None a = tt
known-start (Some s) a = a.known

pub known-ascend : (is : List Instruction) (o : Option State) → AfterStep o → KnownAscends (known_after is o)
known-ascend [] o a = known-start o a
known-ascend (i ∷ is) None a = tt
known-ascend (i ∷ is) (Some s) a = known-ascend is (step [] i s) (step-ascend [] i s a)

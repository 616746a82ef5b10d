-- Searches among rules that ascend by register.
use Rattle.std.proofs.Common.{ℕ, zero, suc, ◌+◌, ◌≤◌, ◌<◌, ◌≡◌, ◌≢◌, ◌==◌, [], ◌∷◌, Option, Some, None, cond, Bool, true, false}
use Rattle.std.proofs.Common.{refl, sym, ◌∙◌, ap, arith, length, drop, get_or}
use Rattle.std.proofs.lemmas.Bool.Decides.{nat_tests}
use Rattle.std.specs.List.Sorted.{IsNonDecreasingBy}
use Rattle.std.specs.Prelude.{slice_get}
use Rattle.cfi_rows.specs.declared.row.Rule.{Rule}
use Rattle.cfi_rows.specs.FrameRows.{Rules, rule_of}
use Rattle.cfi_rows.specs.RuleEntries.{Ascend}
use Rattle.cfi_rows.proofs.RuleLists.{absent}

at-least : (lo : ℕ) (xs : Rules) (j : ℕ) (d : ℕ × Rule) → Ascend lo xs → j < length xs → lo ≤ (get_or xs j d).0
at-least lo [] j d a h = absurd (omega arith)
at-least lo (x ∷ xs) zero d a h = a.0
at-least lo (x ∷ xs) (suc j) d a h = far lo x.0 _ a.0 (at-least (x.0 + 1) xs j d a.1 (omega arith)) where
  far : (a b c : ℕ) → a ≤ b → b + 1 ≤ c → a ≤ c
  far a b c h k = omega arith

pub rising : (lo : ℕ) (xs : Rules) → Ascend lo xs → IsNonDecreasingBy (λ (x : ℕ × Rule). x.0) xs
rising lo [] a i j d le h = absurd (omega arith)
rising lo (x ∷ xs) a zero zero d le h = omega arith
rising lo (x ∷ xs) a zero (suc j) d le h = near x.0 _ (at-least (x.0 + 1) xs j d a.1 (omega arith)) where
  near : (a b : ℕ) → a + 1 ≤ b → a ≤ b
  near a b h = omega arith
rising lo (x ∷ xs) a (suc i) zero d le h = absurd (omega arith)
rising lo (x ∷ xs) a (suc i) (suc j) d le h = rising (x.0 + 1) xs a.1 i j d (omega arith) (omega arith)

-- the rules before a place are of registers below one

abbrev pub AreBelow : ℕ → ℕ → Rules → Type 0
AreBelow k i xs = (j : ℕ) (d : ℕ × Rule) → j < i → j < length xs → (get_or xs j d).0 < k

pub past-low : (k i : ℕ) (xs : Rules) → AreBelow k i xs → rule_of k (drop i xs) ≡ rule_of k xs
past-low k zero xs h = refl
past-low k (suc i) [] h = refl
past-low k (suc i) (x ∷ xs) h =
    let l : x.0 < k = h 0 x (omega arith) (omega arith) in
    let t : (x.0 == k) ≡ false = grind (arith, nat_tests) in
    past-low k i xs (λ j d a b. h (suc j) d (omega arith) (omega arith))
    ∙ sym (ap (λ (b : Bool). cond b (Some x.1) (rule_of k xs)) t)

-- and those from there on aren't
pub from-there : (k lo i : ℕ) (xs : Rules) → Ascend lo xs → ((d : ℕ × Rule) → i < length xs → k ≤ (get_or xs i d).0)
    → Ascend k (drop i xs)
from-there k lo zero [] a h = tt
from-there k lo zero (x ∷ xs) a h = (h x (omega arith), a.1)
from-there k lo (suc i) [] a h = tt
from-there k lo (suc i) (x ∷ xs) a h = from-there k (x.0 + 1) i xs a.1 (λ d l. h d (omega arith))

-- the rule at that place, if it is of the register
abbrev pub rule_if : ℕ → Option (ℕ × Rule) → Option Rule
rule_if k None = None
rule_if k (Some x) = cond (x.0 == k) (Some x.1) None

first-rule : (k : ℕ) (x : ℕ × Rule) (xs : Rules) (b : Bool) → (x.0 == k) ≡ b → k ≤ x.0 → Ascend (x.0 + 1) xs
    → rule_of k (x ∷ xs) ≡ rule_if k (Some x)
first-rule k x xs true e h a = rw e refl
first-rule k x xs false e h a =
    let l : k < x.0 + 1 = omega arith in
    rw e (absent k (x.0 + 1) xs l a)

rule-there : (k i : ℕ) (xs : Rules) → Ascend k (drop i xs) → rule_of k (drop i xs) ≡ rule_if k (slice_get xs i)
rule-there k zero [] a = refl
rule-there k zero (x ∷ xs) a = first-rule k x xs (x.0 == k) refl a.0 a.1
rule-there k (suc i) [] a = refl
rule-there k (suc i) (x ∷ xs) a = rule-there k i xs a

pub rule-missed : (k i : ℕ) (xs : Rules) (x : ℕ × Rule) → Ascend k (drop i xs) → rule_of k (drop i xs) ≡ rule_of k xs
    → slice_get xs i ≡ Some x → x.0 ≢ k → None ≡ rule_of k xs
rule-missed k i xs x a e at other =
    let t : (x.0 == k) ≡ false = grind (arith, nat_tests) in
    sym (ap (rule_if k) at ∙ ap (λ (b : Bool). cond b (Some x.1) None) t) ∙ sym (rule-there k i xs a) ∙ e

-- If some rules are taken back, and others are set, the next row's rules come out.
use Rattle.std.proofs.Common.{ℕ, ◌+◌, ◌≤◌, ◌≡◌, ◌==◌, ◌∙◌, [], ◌∷◌, Option, Some, None, cond, Bool, true, false}
use Rattle.std.proofs.Common.{refl, sym, ap, arith}
use Rattle.std.specs.Prelude.{filter, is_some, not, option_and_then}
use Rattle.std.specs.Option.{option_or}
use Rattle.std.proofs.lemmas.Bool.Decides.{nat_tests, Decides-int_eq}
use Rattle.std.proofs.lemmas.Slice.Eq.{bytes_eq-Decides}
use Rattle.cfi_rows.specs.declared.row.Rule.{Rule}
use Rattle.cfi_rows.specs.declared.row.Rule.TheVariants as rule
use Rattle.cfi_rows.specs.FrameRows.{Rules, without_rule, rule_of}
use Rattle.cfi_rows.specs.RuleChanges.{over}
use Rattle.cfi_rows.specs.RuleEntries.{Ascend}
use Rattle.frame_rewrite.specs.SpelledFrames.{same_rule, gone_by, other_by, gone_rules, other_rules}
use Rattle.cfi_rows.proofs.AscendingRules.{without-ascend}
use Rattle.cfi_rows.proofs.OverRules.{over-ascend, rule-without, rule-over, same-rules}
use Rattle.cfi_rows.proofs.RuleLists.{absent}

-- some rules are taken back, one after another
abbrev pub without_all : Rules → Rules → Rules
without_all [] cur = cur
without_all (x ∷ xs) cur = without_all xs (without_rule x.0 cur)

without-all-ascend : (xs cur : Rules) → Ascend 0 cur → Ascend 0 (without_all xs cur)
without-all-ascend [] cur a = a
without-all-ascend (x ∷ xs) cur a = without-all-ascend xs (without_rule x.0 cur) (without-ascend x.0 cur 0 a)

rule-without-all : (q : ℕ) (xs cur : Rules) → Ascend 0 cur
    → rule_of q (without_all xs cur) ≡ cond (is_some (rule_of q xs)) None (rule_of q cur)
rule-without-all q [] cur a = refl
rule-without-all q (x ∷ xs) cur a =
    rule-without-all q xs (without_rule x.0 cur) (without-ascend x.0 cur 0 a)
    ∙ ap (cond (is_some (rule_of q xs)) None) (rule-without x.0 q 0 cur a)
    ∙ by (x.0 == q) (is_some (rule_of q xs)) refl refl where
      by : (b c : Bool) → (x.0 == q) ≡ b → is_some (rule_of q xs) ≡ c
          → cond (is_some (rule_of q xs)) None (cond (x.0 == q) None (rule_of q cur))
          ≡ cond (is_some (cond (x.0 == q) (Some x.1) (rule_of q xs))) None (rule_of q cur)
      by true true e f = rw (e, f) refl
      by true false e f = rw (e, f) refl
      by false true e f = rw (e, f) refl
      by false false e f = rw (e, f) refl

-- Rules that are chosen among those that ascend

chosen-ascend : (P : ℕ × Rule → Bool) (lo low : ℕ) (xs : Rules) → low ≤ lo → Ascend lo xs → Ascend low (filter P xs)
chosen-ascend P lo low [] l a = tt
chosen-ascend P lo low (x ∷ xs) l a =
    let h : lo ≤ x.0 = a.0 in
    by (P x) refl (omega arith) (chosen-ascend P (x.0 + 1) (x.0 + 1) xs (omega arith) a.1)
    (chosen-ascend P (x.0 + 1) low xs (omega arith) a.1) where
      by : (b : Bool) → P x ≡ b → low ≤ x.0 → Ascend (x.0 + 1) (filter P xs) → Ascend low (filter P xs)
          → Ascend low (filter P (x ∷ xs))
      by true e h kept more = rw e (h, kept)
      by false e h kept more = rw e more

abbrev if_chosen : (ℕ → Rule → Bool) → ℕ → Option Rule → Option Rule
if_chosen P q o = option_and_then (λ v. cond (P q v) (Some v) None) o

rule-chosen : (P : ℕ → Rule → Bool) (q lo : ℕ) (xs : Rules) → Ascend lo xs
    → rule_of q (filter (λ x. P x.0 x.1) xs) ≡ if_chosen P q (rule_of q xs)
rule-chosen P q lo [] a = refl
rule-chosen P q lo (x ∷ xs) a = by (x.0 == q) (P x.0 x.1) refl refl (rule-chosen P q (x.0 + 1) xs a.1) where
  by : (b c : Bool) → (x.0 == q) ≡ b → P x.0 x.1 ≡ c
      → rule_of q (filter (λ x. P x.0 x.1) xs) ≡ if_chosen P q (rule_of q xs)
      → rule_of q (filter (λ x. P x.0 x.1) (x ∷ xs)) ≡ if_chosen P q (rule_of q (x ∷ xs))
  by true true e f more =
      let l : x.0 ≡ q = grind (arith, nat_tests) in
      let g : P q x.1 ≡ true = sym (ap (λ (n : ℕ). P n x.1) l) ∙ f in
      rw (f, e, g) refl
  by true false e f more =
      let l : x.0 ≡ q = grind (arith, nat_tests) in
      let g : P q x.1 ≡ false = sym (ap (λ (n : ℕ). P n x.1) l) ∙ f in
      rw (f, e, g) (absent q (x.0 + 1) (filter (λ x. P x.0 x.1) xs) (omega arith)
      (chosen-ascend (λ x. P x.0 x.1) (x.0 + 1) (x.0 + 1) xs (omega arith) a.1))
  by false true e f more = rw (f, e) more
  by false false e f more = rw (f, e) more

-- Equal rules

same-so : (a b : Rule) → same_rule a b ≡ true → a ≡ b
same-so rule.Undefined rule.Undefined e = refl
same-so rule.Same rule.Same e = refl
same-so (rule.Offset a) (rule.Offset b) e = ap (λ n. rule.Offset n) ((Decides-int_eq a b).0 e)
same-so (rule.ValOffset a) (rule.ValOffset b) e = ap (λ n. rule.ValOffset n) ((Decides-int_eq a b).0 e)
same-so (rule.Reg a) (rule.Reg b) e = ap (λ n. rule.Reg n) (grind (arith, nat_tests))
same-so (rule.Expr a) (rule.Expr b) e = ap (λ n. rule.Expr n) ((bytes_eq-Decides a b).0 e)
same-so (rule.ValExpr a) (rule.ValExpr b) e = ap (λ n. rule.ValExpr n) ((bytes_eq-Decides a b).0 e)
same-so a b e = absurd (cc)

-- The old rules that are left, and the rules that are set over them

joined : (o n : Option Rule) → option_or (option_and_then (λ v. cond (other_by o v) (Some v) None) n)
    (cond (is_some (option_and_then (λ v. cond (gone_by n) (Some v) None) o)) None o) ≡ n
joined None None = refl
joined None (Some w) = refl
joined (Some v) None = refl
joined (Some v) (Some w) = by (same_rule v w) refl where
  by : (b : Bool) → same_rule v w ≡ b
      → option_or (cond (not (same_rule v w)) (Some w) None) (Some v) ≡ Some w
  by true e = rw e (ap (λ (x : Rule). Some x) (same-so v w e))
  by false e = rw e refl

-- first the rules that are gone are taken back, and then new and changed ones are set
pub changed : (old new : Rules) → Ascend 0 old → Ascend 0 new
    → over (without_all (gone_rules old new) old) (other_rules old new) ≡ new
changed old new a c =
    let left = without-all-ascend (gone_rules old new) old a in
    let set : Ascend 0 (other_rules old new) = chosen-ascend (λ x. other_by (rule_of x.0 old) x.1) 0 0 new (omega arith) c in
    same-rules (over (without_all (gone_rules old new) old) (other_rules old new)) new 0 0
    (over-ascend (without_all (gone_rules old new) old) (other_rules old new) left) c
    (λ q. rule-over q 0 (without_all (gone_rules old new) old) (other_rules old new) set
    ∙ ap (option_or (rule_of q (other_rules old new))) (rule-without-all q (gone_rules old new) old a
    ∙ ap (λ (o : Option Rule). cond (is_some o) None (rule_of q old))
    (rule-chosen (λ r v. gone_by (rule_of r new)) q 0 old a))
    ∙ ap (λ (o : Option Rule). option_or o (cond (is_some (option_and_then (λ v. cond (gone_by (rule_of q new)) (Some v) None)
    (rule_of q old))) None (rule_of q old))) (rule-chosen (λ r v. other_by (rule_of r old) v) q 0 new c)
    ∙ joined (rule_of q old) (rule_of q new))

-- A claim has at most one verdict.
use Rattle.std.proofs.Common.{◌≡◌, ◌∙◌, ℕ, List, inl, inr, ap, refl, subst, sym, arith, if◌then◌else◌}
use Rattle.std.specs.Prelude.{◌==◌}
use Rattle.std.proofs.lemmas.Bool.{cases_order}
use Rattle.addr_map.specs.declared.span.Span.{Span}
use Rattle.move_law.specs.FaithfulRewrite.{IsFaithful}
use Rattle.map_check.specs.declared.clause.Clause.{Clause}
use Rattle.map_check.specs.declared.clause.Clause.TheVariants as clause
use Rattle.map_check.specs.declared.clause.Verdict.{Verdict}
use Rattle.map_check.specs.declared.clause.Verdict.TheVariants as verdict
use Rattle.map_check.specs.FirstFalse.{Claim, IsFalseAt, IsFaithfulClaim, IsFirstFalse, IsVerdict, bad_line, in_rewrite}
use Rattle.map_check.specs.FirstFalse.{number_of, rewrite_with}
use Rattle.map_check.proofs.FalsePlaces.{faithful_nowhere}
use Rattle.map_check.proofs.OneReading.{no_bad_line, one_map}

abbrev clause_of : ℕ → Clause
clause_of n =
    if n == 1 then clause.MapText
    else if n == 2 then clause.MapSpan
    else if n == 3 then clause.SpanBytes
    else if n == 4 then clause.Instruction
    else if n == 5 then clause.Next
    else if n == 6 then clause.Entry
    else if n == 7 then clause.Byte
    else if n == 8 then clause.Cell
    else clause.Table

numbered : (which : Clause) → clause_of (number_of which) ≡ which
numbered clause.MapText = refl
numbered clause.MapSpan = refl
numbered clause.SpanBytes = refl
numbered clause.Instruction = refl
numbered clause.Next = refl
numbered clause.Entry = refl
numbered clause.Byte = refl
numbered clause.Cell = refl
numbered clause.Table = refl

pub same_clause : (k l : Clause) → number_of k ≡ number_of l → k ≡ l
same_clause k l same = sym (numbered k) ∙ ap clause_of same ∙ numbered l

not_both : (c : Claim) (which : Clause) (place : ℕ) → IsFaithfulClaim c → IsFalseAt c which place → ⊥
not_both c which place (spans, is_map, faithful) (bad_line number bad) = no_bad_line c.text spans number is_map bad
not_both c which place (spans, is_map, faithful) (in_rewrite other here at is wrong) =
    faithful_nowhere (rewrite_with c other)
    (subst (λ (ss : List Span). IsFaithful (rewrite_with c ss)) (one_map c.text spans other is_map is) faithful) here at wrong

first_clause : (c : Claim) (k l : Clause) (p q : ℕ) → IsFirstFalse (IsFalseAt c) k p → IsFirstFalse (IsFalseAt c) l q → k ≡ l
first_clause c k l p q left right = elim (cases_order (number_of k) (number_of l)) [
  | inl same ↦ same_clause k l same
  | inr apart ↦ elim apart [
    | inl less ↦ absurd (right.first k p less left.present)
    | inr more ↦ absurd (left.first l q more right.present)
  ]
]

first_place : (c : Claim) (k l : Clause) (p q : ℕ) → k ≡ l → IsFirstFalse (IsFalseAt c) k p → IsFirstFalse (IsFalseAt c) l q → p ≡ q
first_place c k l p q same left right =
    let low = left.lowest q (subst (λ (m : Clause). IsFalseAt c m q) (sym same) right.present) in
    let high = right.lowest p (subst (λ (m : Clause). IsFalseAt c m p) same left.present) in
    omega arith

pub one_verdict : (c : Claim) (v w : Verdict) → IsVerdict c v → IsVerdict c w → v ≡ w
one_verdict c verdict.Faithful verdict.Faithful left right = refl
one_verdict c verdict.Faithful (verdict.Unfaithful l q) left right = absurd (not_both c l q left right.present)
one_verdict c (verdict.Unfaithful k p) verdict.Faithful left right = absurd (not_both c k p right left.present)
one_verdict c (verdict.Unfaithful k p) (verdict.Unfaithful l q) left right =
    let clauses = first_clause c k l p q left right in
    let places = first_place c k l p q clauses left right in
    ap (λ (m : Clause). verdict.Unfaithful m p) clauses ∙ ap (λ (n : ℕ). verdict.Unfaithful l n) places

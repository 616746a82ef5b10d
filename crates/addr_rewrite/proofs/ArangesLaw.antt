-- The law of the written table.
use Rattle.std.proofs.Common.{◌≡◌, ◌∙◌, ◌<◌, ◌≤◌, ◌-◌, ◌+◌, ◌*◌, ◌^◌, ℕ, List, [], ◌∷◌, Option, Some, None, refl, sym, ap, subst, arith}
use Rattle.std.proofs.Common.{length, map}
use Rattle.std.specs.Prelude.{All, AllPairs, option_map, option_and_then, sum_by}
use Rattle.std.specs.List.Sorted.{IsNonDecreasingBy, IsPermutation}
use Rattle.std.proofs.lemmas.List.{length-map}
use Rattle.std.proofs.lemmas.List.Sorted.{length_permutation}
use Rattle.std.proofs.lemmas.List.Sums.{sum_by-cons}
use Rattle.rb_bytes.specs.FirstFault.{IsFree}
use Rattle.elf_image.specs.declared.elf.Elf.{Elf}
use Rattle.addr_map.specs.declared.span.Span.{Span}
use Rattle.addr_map.specs.Spans.{owner}
use Rattle.answer_runs.specs.AddressRanges.{AreApart}
use Rattle.answer_runs.specs.AnswerRuns.{IsWithin, carried, run_at, said_runs}
use Rattle.answer_runs.specs.CarriedAnswers.{Agree, IsCarried}
use Rattle.answer_runs.specs.Weights.{run_weight, weight_limit}
use Rattle.answer_runs.specs.declared.run.Run.{Run}
use Rattle.table_core.specs.DebugUnits.{other_version, units_from}
use Rattle.table_core.specs.declared.written.Written.{Written}
use Rattle.dw_unit.specs.Faults.{HasDwarfFault, unit_fault_places}
use Rattle.dw_unit.specs.Tables.{sections_of}
use Rattle.addr_rewrite.specs.Aranges.{AddressTable, address_tables, bad_table, unit_at}
use Rattle.addr_rewrite.specs.ArangesTable.{ArangesFit, ArangesMade}
use Rattle.addr_rewrite.specs.Tables.{StandsAranges, aranges_of, aranges_places, unit, unit_answers}
use Rattle.addr_rewrite.specs.WrittenAranges.{spelled_tables, stretch_of, tables_of}
use Rattle.addr_rewrite.specs.declared.stretch.Stretch.{Stretch}
use Rattle.addr_rewrite.proofs.PairsApart.{all_ranges, ranges_in, stretches_apart}
use Rattle.addr_rewrite.proofs.SingleTables.{told_once}
use Rattle.addr_rewrite.proofs.FreePlaces.{answers_free, places_free}
use Rattle.addr_rewrite.proofs.ArangesBack.{bad_none, tables_are, unit_written, version_none}
use Rattle.addr_rewrite.proofs.TablesBack.{IsWritten}
use Rattle.addr_rewrite.proofs.RunUnits.{all_written, answers_small, no_runs, unit_said}

-- Answers, and their runs

said_same : (rs : List (Run ℕ)) → said_runs (λ (a : ℕ). a) rs ≡ rs
said_same [] = refl
said_same (r ∷ rs) = ap (λ (l : List (Run ℕ)). r ∷ l) (said_same rs)

option_same : (o : Option ℕ) → option_map (λ (a : ℕ). a) o ≡ o
option_same None = refl
option_same (Some a) = refl

agree_same : (a b : Option ℕ) → a ≡ b → Agree (λ x y. x ≡ y) a b
agree_same a b e = subst (Agree (λ x y. x ≡ y) a) e (self a) where
  self : (a : Option ℕ) → Agree (λ (x y : ℕ). x ≡ y) a a
  self None = tt
  self (Some x) = refl

-- Weights

pub weight_is : (rs : List (Run ℕ)) → sum_by (λ (r : Run ℕ). run_weight + 0) (said_runs (λ (a : ℕ). a) rs) ≡ run_weight * length rs
weight_is [] = omega arith
weight_is (r ∷ rs) =
    let more = weight_is rs in
    let one = sum_by-cons (λ (r : Run ℕ). run_weight + 0) r (said_runs (λ (a : ℕ). a) rs) in
    omega (arith, more, one)

-- The units in a section are small, and an empty section has none

carried_small : (section : List ℕ) (spans : List Span) (p u : ℕ) → ((a u : ℕ) → unit_at section a ≡ Some u → u < 2 ^ 32) →
    carried (unit_at section) spans p ≡ Some u → u < 2 ^ 32
carried_small section spans p u small e = by (owner spans p) e where
  by : (o : Option ℕ) → option_and_then (unit_at section) o ≡ Some u → u < 2 ^ 32
  by None e = absurd (cc)
  by (Some a) e = small a u e

nothing_at : (a : ℕ) → unit_at [] a ≡ None
unfolding units_from
nothing_at a = refl

nothing_said : (section : List ℕ) (spans : List Span) (p : ℕ) → section ≡ [] → carried (unit_at section) spans p ≡ None
nothing_said section spans p e = by (owner spans p) where
  by : (o : Option ℕ) → option_and_then (unit_at section) o ≡ None
  by None = refl
  by (Some a) = ap (λ (s : List ℕ). unit_at s a) e ∙ nothing_at a

no_table : spelled_tables (tables_of 0 []) ≡ []
unfolding tables_of
no_table = refl

module _ (section : List ℕ) (small : (a u : ℕ) → unit_at section a ≡ Some u → u < 2 ^ 32) (spans : List Span) (rs : List (Run ℕ))
    (within : IsWithin 0 rs (2 ^ 64 - 1)) (answers : (p : ℕ) → option_map (λ (a : ℕ). a) (run_at rs p) ≡ carried (unit_at section) spans p)
    (fits : ArangesFit (said_runs (λ (a : ℕ). a) rs)) where
  are_answered : (p : ℕ) → run_at rs p ≡ carried (unit_at section) spans p
  are_answered p = sym (option_same (run_at rs p)) ∙ answers p

  -- The condition of the writer.
  pub small_answers : All (λ (r : Run ℕ). r.answer < 2 ^ 32) rs
  small_answers = answers_small (carried (unit_at section) spans) (2 ^ 32) 0 (2 ^ 64 - 1) rs
      (λ p u. carried_small section spans p u small) within (λ p h. are_answered p)

  pub few_runs : run_weight * length rs ≤ weight_limit
  few_runs = subst (λ (l : List (Run ℕ)). run_weight * length l ≤ weight_limit) (said_same rs) fits

  module _ (ss : List Stretch) (permuted : IsPermutation (map stretch_of rs) ss)
      (rises : IsNonDecreasingBy (λ (s : Stretch). s.unit) ss) (w : Written)
      (is : w.bytes.items ≡ spelled_tables (tables_of (length ss) ss)) where
    count : length ss ≡ length rs
    count = length_permutation (map stretch_of rs) ss permuted ∙ length-map rs stretch_of

    few : 28 + 16 * length ss < 2 ^ 32 - 1
    few = let n = few_runs in omega (arith, count, n)

    are : All IsWritten ss
    are = all_written (2 ^ 64 - 1) rs ss (omega arith) within small_answers permuted

    says : (p : ℕ) → run_at rs p ≡ unit_at w.bytes.items p
    says p =
        sym (ap (λ (b : List ℕ). unit_at b p) is ∙ unit_written (length ss) ss few are p (omega arith)
        ∙ unit_said (2 ^ 64 - 1) p rs ss within permuted)

    pub written_law : (f : Elf) → StandsAranges w f →
        IsCarried (λ x y. x ≡ y) spans (λ p. option_map (λ (a : ℕ). a) (run_at rs p)) (unit_answers f)
        × IsFree (HasDwarfFault (aranges_places f)) × Unit {0}
    written_law f stands =
        let table : aranges_of f ≡ spelled_tables (tables_of (length ss) ss) = stands.table ∙ is in
        let free : IsFree (HasDwarfFault (aranges_places f)) =
        places_free (unit_fault_places (sections_of f)) (aranges_of f) stands.units
        (ap (other_version 2) table ∙ version_none (length ss) ss few are) (ap bad_table table ∙ bad_none (length ss) ss few are) in (
          subst (IsCarried (λ x y. x ≡ y) spans (λ p. option_map (λ (a : ℕ). a) (run_at rs p)))
              (sym (answers_free (aranges_places f) (unit f) free))
              (λ p owned. agree_same (option_map (λ (a : ℕ). a) (run_at rs p)) (unit f p)
              (option_same (run_at rs p) ∙ says p ∙ sym (ap (λ (b : List ℕ). unit_at b p) stands.table))),
          free,
          tt,
        )

    pub written_made : w.lists.items ≡ [] → ArangesMade section w
    written_made lists = record {
      nothing = λ empty.
          let none : rs ≡ [] = no_runs (carried (unit_at section) spans) 0 (2 ^ 64 - 1) rs
          (λ p. nothing_said section spans p empty) within are_answered in
          let zero_long : length ss ≡ 0 = count ∙ ap length none in
          is ∙ nothing_written ss zero_long;
      lists = lists;
      apart =
          subst (λ (ts : List AddressTable). AreApart (ranges_in ts)) (sym (ap address_tables is ∙ tables_are (length ss) ss few are))
          (subst AreApart (sym (all_ranges (length ss) ss (omega arith))) (stretches_apart (2 ^ 64 - 1) rs ss within permuted));
      once = subst (AllPairs (λ (t u : AddressTable). t.unit < u.unit)) (sym (ap address_tables is ∙ tables_are (length ss) ss few are))
          (told_once (length ss) ss rises);
    } where
      nothing_written : (ss : List Stretch) → length ss ≡ 0 → spelled_tables (tables_of (length ss) ss) ≡ []
      nothing_written [] e = no_table
      nothing_written (s ∷ ss) e = absurd (omega arith)

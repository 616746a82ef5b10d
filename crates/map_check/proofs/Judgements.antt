-- From the results of the clauses to the verdict.
use Rattle.std.proofs.Common.{◌≡◌, ◌<◌, ◌≤◌, ◌∙◌, ℕ, suc, All, Bool, IfNone, IsPermutation, List, None, Option, Some, ap, arith, subst, sym}
use Rattle.std.proofs.Common.{⊎_elim, IsTrue, true, Err, IfOk, Ok, Result}
use Rattle.std.proofs.lemmas.Bool.{cases_lt}
use Rattle.std.proofs.lemmas.List.Sorted.{All-permutation, IsPermutation-sym}
use Rattle.rv_code.specs.declared.cell.CodeCell.{CodeCell}
use Rattle.rv_code.specs.declared.placed.Func.{Func}
use Rattle.rv_code.specs.declared.placed.Placed.{Placed}
use Rattle.rv_code.specs.declared.placed.Role.{Role}
use Rattle.rv_code.specs.layout.Flow.{insts_of}
use Rattle.rv_code.specs.layout.ProgramCode.{IsNamed, is_code_address, program_code}
use Rattle.elf_image.specs.declared.elf.Elf.{Elf}
use Rattle.elf_image.specs.faults.LowestPlace.{IsLowest}
use Rattle.elf_image.specs.memory.Executables.{AreCodeBytes, executable_read}
use Rattle.elf_image.specs.memory.LoadedBytes.{byte_at}
use Rattle.elf_image.proofs.LowestPlaces.{IsLowest-same}
use Rattle.rb_bytes.proofs.Stable.{stable_bool, stable_equal}
use Rattle.addr_map.specs.declared.span.Span.{Span}
use Rattle.addr_map.specs.Spans.{IsMap}
use Rattle.move_law.specs.FaithfulRewrite.{IsFaithful, IsMapOf, KeepsByte, KeepsCells, KeepsLayout}
use Rattle.move_law.specs.Rewrite.{Rewrite}
use Rattle.map_check.specs.BadSpans.{IsBadSpan}
use Rattle.map_check.specs.FirstFalse.{Claim, IsFalseAt, IsFalseIn, IsFirstFalse, IsKept, IsVerdict, bad_line, in_rewrite, number_of}
use Rattle.map_check.specs.FirstFalse.{rewrite_with}
use Rattle.map_check.specs.Lacking.{LacksAt}
use Rattle.map_check.specs.MapReading.{IsFirstBadLine, IsMapOfLines}
use Rattle.map_check.specs.declared.clause.Clause.{Clause}
use Rattle.map_check.specs.declared.clause.Clause.TheVariants as clause
use Rattle.map_check.specs.declared.clause.Verdict.{Verdict}
use Rattle.map_check.specs.declared.clause.Verdict.TheVariants as verdict
use Rattle.map_check.specs.declared.changes.Changes.{Changes}
use Rattle.map_check.specs.internal.Headers.{AreHeadersOf}
use Rattle.map_check.specs.internal.InstRows.{IsChecked, IsJudgedOf}
use Rattle.map_check.specs.internal.KeptBytes.{AreChangesOf}
use Rattle.map_check.specs.internal.Verdicts.{HoldUpTo, IsVerdictIn, KeepsAllCode}
use Rattle.map_check.proofs.OneReading.{no_bad_line, one_bad_line, one_map}
use Rattle.map_check.proofs.SortedFinds.{same_find}
use Rattle.map_check.proofs.Verdicts.{same_clause}

-- One clause after another.

module _ (r : Rewrite) where
  pub holds_two : IsLowest (IsBadSpan r.code r.spans) None → HoldUpTo r 2
  holds_two none clause.MapText place upto wrong = wrong
  holds_two none clause.MapSpan place upto wrong = none.least place wrong
  holds_two none clause.SpanBytes place upto wrong = absurd (omega (arith, upto))
  holds_two none clause.Instruction place upto wrong = absurd (omega (arith, upto))
  holds_two none clause.Next place upto wrong = absurd (omega (arith, upto))
  holds_two none clause.Entry place upto wrong = absurd (omega (arith, upto))
  holds_two none clause.Byte place upto wrong = absurd (omega (arith, upto))
  holds_two none clause.Cell place upto wrong = absurd (omega (arith, upto))
  holds_two none clause.Table place upto wrong = absurd (omega (arith, upto))

  pub holds_one : HoldUpTo r 1
  holds_one clause.MapText place upto wrong = wrong
  holds_one clause.MapSpan place upto wrong = absurd (omega (arith, upto))
  holds_one clause.SpanBytes place upto wrong = absurd (omega (arith, upto))
  holds_one clause.Instruction place upto wrong = absurd (omega (arith, upto))
  holds_one clause.Next place upto wrong = absurd (omega (arith, upto))
  holds_one clause.Entry place upto wrong = absurd (omega (arith, upto))
  holds_one clause.Byte place upto wrong = absurd (omega (arith, upto))
  holds_one clause.Cell place upto wrong = absurd (omega (arith, upto))
  holds_one clause.Table place upto wrong = absurd (omega (arith, upto))

  pub nowhere : (n m : ℕ) (which : Clause) → number_of which ≡ m → m ≡ suc n → HoldUpTo r n →
      ((place : ℕ) → IsFalseIn r which place → ⊥) → HoldUpTo r m
  nowhere n m which is next before none other place upto wrong = ⊎_elim
      (λ (less : number_of other < m). before other place (omega arith) wrong)
      (λ (more : m ≤ number_of other).
      let same : other ≡ which = same_clause other which (omega arith) in
      none place (subst (λ (k : Clause). IsFalseIn r k place) same wrong))
      (cases_lt (number_of other) m)

  pub holds_next : (n m : ℕ) (which : Clause) → number_of which ≡ m → m ≡ suc n → HoldUpTo r n →
      IsLowest (IsFalseIn r which) None → HoldUpTo r m
  holds_next n m which is next before none = nowhere n m which is next before (λ place wrong. none.least place wrong)

  pub first_false : (n : ℕ) (which : Clause) (place : ℕ) → number_of which ≡ suc n → HoldUpTo r n →
      IsLowest (IsFalseIn r which) (Some place) → IsFirstFalse (IsFalseIn r) which place
  first_false n which place is before lowest = record {
    present = lowest.present;
    first = λ other p less wrong. before other p (omega arith) wrong;
    lowest = λ p wrong. lowest.least p wrong;
  }

  -- a clause that is false at one place only
  pub first_at : (n : ℕ) (which : Clause) (place : ℕ) → number_of which ≡ suc n → HoldUpTo r n → IsFalseIn r which place →
      ((p : ℕ) → IsFalseIn r which p → p ≡ place) → IsFirstFalse (IsFalseIn r) which place
  first_at n which place is before wrong only = record {
    present = wrong;
    first = λ other p less wrong. before other p (omega arith) wrong;
    lowest = λ p other. let same = only p other in omega (arith, same);
  }

  -- The spans in order of their inputs.

  pub checked : (output : Elf) (table : List Span) → r.output ≡ executable_read output → IsPermutation r.spans table → IsMapOf r →
      IsChecked r output table
  checked output table of there map = record {
    output_is = of;
    there = there;
    back = IsPermutation-sym r.spans table there;
    finds = λ a. same_find a r.spans table map.once there (IsPermutation-sym r.spans table there);
    once = map.once;
  }

  module _ (output : Elf) (table : List Span) (ch : IsChecked r output table) where
    abbrev InCode : Span → Type 0
    InCode s = AreCodeBytes r.output s.out s.len

    abbrev InCodeOf : Span → Type 0
    InCodeOf s = AreCodeBytes (executable_read output) s.out s.len

    pub all_in_code : All InCodeOf table → All InCode r.spans
    all_in_code all =
        All-permutation InCode table r.spans ch.back
        (subst (λ x. All (λ s. AreCodeBytes x s.out s.len) table) (sym ch.output_is) all)

    pub lowest_in_code : (o : Option ℕ) → IsLowest (LacksAt InCodeOf (λ s. s.input) table) o →
        IsLowest (LacksAt InCode (λ s. s.input) r.spans) o
    lowest_in_code o is = IsLowest-same o
        (λ a lacks all. lacks
        (subst (λ x. All (λ s. s.input ≡ a → AreCodeBytes x s.out s.len) table) ch.output_is
        (All-permutation (λ s. s.input ≡ a → InCode s) r.spans table ch.there all)))
        (λ a lacks all. lacks
        (All-permutation (λ s. s.input ≡ a → InCode s) table r.spans ch.back
        (subst (λ x. All (λ s. s.input ≡ a → AreCodeBytes x s.out s.len) table) (sym ch.output_is) all)))
        is

  -- Bytes.

  stable_some : (o : Option ℕ) (b : ℕ) → ((o ≡ Some b → ⊥) → ⊥) → o ≡ Some b
  stable_some None b not_not = absurd (not_not (λ e. cc))
  stable_some (Some a) b not_not =
      ap Some (stable_equal a b (λ other. not_not (λ (e : Some a ≡ Some b). other (let same : a ≡ b = cc in same))))

  pub kept_everywhere : ((a : ℕ) → (IsKept r a → ⊥) → ⊥) → (a byte : ℕ) → byte_at r.input a ≡ Some byte → KeepsByte r a byte
  kept_everywhere never a byte here = record {
    is_loaded = stable_bool _ true (λ other. never a (λ kept. other (kept byte here).is_loaded));
    rights = record {
      reads = stable_bool _ _ (λ other. never a (λ kept. other (kept byte here).rights.reads));
      writes = stable_bool _ _ (λ other. never a (λ kept. other (kept byte here).rights.writes));
      executes = stable_bool _ _ (λ other. never a (λ kept. other (kept byte here).rights.executes));
    };
    same = λ fixed. stable_some _ byte (λ other. never a (λ kept. other ((kept byte here).same fixed)));
  }

  pub faithful : KeepsAllCode r → IsLowest (λ a. IsKept r a → ⊥) None → KeepsCells r → KeepsLayout r → IsFaithful r
  faithful code bytes cells layout = record {
    map = code.map;
    span_bytes = code.span_bytes;
    insts = code.insts;
    goes_on = code.goes_on;
    entry = code.entry;
    bytes = kept_everywhere (λ a changed. bytes.least a changed);
    cells = cells;
    layout = layout;
  }

-- From the rewrite whose map was read to the claim.

module _ (c : Claim) where
  number_positive : (which : Clause) → number_of which < 1 → ⊥
  number_positive clause.MapText less = omega (arith, less)
  number_positive clause.MapSpan less = omega (arith, less)
  number_positive clause.SpanBytes less = omega (arith, less)
  number_positive clause.Instruction less = omega (arith, less)
  number_positive clause.Next less = omega (arith, less)
  number_positive clause.Entry less = omega (arith, less)
  number_positive clause.Byte less = omega (arith, less)
  number_positive clause.Cell less = omega (arith, less)
  number_positive clause.Table less = omega (arith, less)

  line_below : (n p : ℕ) (which : Clause) → IsFirstBadLine c.text n → IsFalseAt c which p → n ≤ p
  line_below n p which bad (bad_line number other) = let same = one_bad_line c.text n number bad other in omega (arith, same)
  line_below n p which bad (in_rewrite spans here place is wrong) = absurd (no_bad_line c.text spans n is bad)

  pub bad_line_first : (n : ℕ) → IsFirstBadLine c.text n → IsFirstFalse (IsFalseAt c) clause.MapText n
  bad_line_first n bad = record {
    present = bad_line n bad;
    first = λ other p less wrong. number_positive other less;
    lowest = λ p wrong. line_below n p clause.MapText bad wrong;
  }

  module _ (spans : List Span) (map : IsMapOfLines c.text spans) where
    false_in : (which : Clause) (p : ℕ) → IsFalseAt c which p → IsFalseIn (rewrite_with c spans) which p
    false_in which p (bad_line number bad) = absurd (no_bad_line c.text spans number map bad)
    false_in which p (in_rewrite other here place is wrong) =
        subst (λ (ss : List Span). IsFalseIn (rewrite_with c ss) here place) (one_map c.text other spans is map) wrong

    pub verdict_of : (v : Verdict) → IsVerdictIn (rewrite_with c spans) v → IsVerdict c v
    verdict_of verdict.Faithful faithful = (spans, map, faithful)
    verdict_of (verdict.Unfaithful which place) found = record {
      present = in_rewrite spans which place map found.present;
      first = λ other p less wrong. found.first other p less (false_in other p wrong);
      lowest = λ p wrong. found.lowest p (false_in which p wrong);
    }

-- The bytes that may change, in the terms of the code.
pub changes_of : (r : Rewrite) (input : Elf) (cells : List CodeCell) (tight : Bool) (m : Changes) → r.input ≡ input →
    r.tight ≡ tight → r.code.cells ≡ cells → m.cells.now ≡ cells → AreHeadersOf input tight m.headers → AreChangesOf r m
changes_of r input cells tight m of is_tight are slice headers = record {
  cells = are ∙ sym slice;
  headers = subst (λ (e : Elf). AreHeadersOf e r.tight m.headers) (sym of)
      (subst (λ (t : Bool). AreHeadersOf input t m.headers) (sym is_tight) headers);
}

-- Instructions of the functions that a check gets.
pub judged_of : (P : Placed → Type 0) (fs gs : List Func) (o : Option ℕ) → gs ≡ fs → IsJudgedOf P (insts_of fs) o →
    IsJudgedOf P (insts_of gs) o
judged_of P fs gs o same judged = subst (λ (hs : List Func). IsJudgedOf P (insts_of hs) o) (sym same) judged

-- The clause on the map, for the code that a check gets.

module _ (funcs : List Func) (roles roles_seen : List (ℕ × Role)) (cells cells_seen : List CodeCell) (entry : ℕ)
    (roles_are : roles_seen ≡ roles) (cells_are : cells_seen ≡ cells) (spans : List Span) where
  pub map_lowest : (o p : Option ℕ) → o ≡ p → IsLowest (IsBadSpan (program_code funcs roles_seen cells_seen entry) spans) o →
      IsLowest (IsBadSpan (program_code funcs roles cells entry) spans) p
  map_lowest o p same lowest =
      subst (λ (q : Option ℕ). IsLowest (IsBadSpan (program_code funcs roles cells entry) spans) q) same
      (subst (λ (rs : List (ℕ × Role)). IsLowest (IsBadSpan (program_code funcs rs cells entry) spans) o) roles_are
      (subst (λ (cs : List CodeCell). IsLowest (IsBadSpan (program_code funcs roles_seen cs entry) spans) o) cells_are lowest))

  abbrev IsMapWith : List (ℕ × Role) → List CodeCell → Type 0
  IsMapWith rs cs = IsMap (λ a. IsTrue (is_code_address funcs a)) (IsNamed (program_code funcs rs cs entry)) spans

  pub map_valid : (o : Option ℕ) → o ≡ None → IfNone o (IsMapWith roles_seen cells_seen) → IsMapWith roles cells
  map_valid o none valid =
      subst (λ (rs : List (ℕ × Role)). IsMapWith rs cells) roles_are
      (subst (λ (cs : List CodeCell). IsMapWith roles_seen cs) cells_are
      (subst (λ (q : Option ℕ). IfNone q (IsMapWith roles_seen cells_seen)) none valid))

pub weaker_ok : {A E : Type 0} (P Q : A → Type 0) (o : Result A E) → ((x : A) → P x → Q x) → IfOk o P → IfOk o Q
weaker_ok P Q (Ok x) weaker is = weaker x is
weaker_ok P Q (Err e) weaker is = is

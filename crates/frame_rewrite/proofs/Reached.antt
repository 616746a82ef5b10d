-- The entry of a marked run holds only bytes of runs, if the ranges that are marked move whole.
use Rattle.std.proofs.Common.{ℕ, ◌+◌, ◌-◌, ◌≤◌, ◌<◌, ◌≡◌, ◌&&◌, ◌⊎◌, inl, inr, List, [], ◌∷◌, Option, Some, None, option_map, leb, ltb}
use Rattle.std.proofs.Common.{Bool, true, false, refl, sym, ◌∙◌, ap, subst, arith}
use Rattle.std.specs.Prelude.{All, IsTrue, IsSome, Contains, option_and_then}
use Rattle.std.specs.List.{find}
use Rattle.std.proofs.lemmas.Bool.Decides.{nat_tests}
use Rattle.std.proofs.lemmas.List.Elements.{All-contains}
use Rattle.rb_bytes.proofs.ListLemmas.{all_of}
use Rattle.rb_bytes.proofs.Members.{Contains-nil, Contains-cons_cases}
use Rattle.rb_bytes.proofs.Searches.{find-found, find-finds}
use Rattle.addr_map.specs.declared.span.Span.{Span}
use Rattle.addr_map.specs.Spans.{new, owner, has_byte}
use Rattle.answer_runs.specs.declared.run.Run.{Run}
use Rattle.answer_runs.specs.AnswerRuns.{IsWithin, run_at, carried}
use Rattle.cfi_rows.specs.FrameRows.{row_at}
use Rattle.cfi_rows.specs.Entries.{Fde, is_in_range}
use Rattle.frame_rewrite.specs.FrameAnswers.{FrameAnswer, answer_of, answer_at}
use Rattle.frame_rewrite.specs.SpelledFits.{IsReached}
use Rattle.frame_rewrite.specs.SpelledFrames.{start_of}
use Rattle.frame_rewrite.specs.Tables.{MovesWhole}
use Rattle.frame_rewrite.proofs.FirstRows.{Begins, row-there}

abbrev Runs : Type 0
Runs = List (Run FrameAnswer)

-- a run answers at each of its bytes
pub run-has : (lo : ℕ) (rs : Runs) (hi : ℕ) (r : Run FrameAnswer) (p : ℕ) → IsWithin lo rs hi → Contains rs r
    → r.start ≤ p → p < r.start + r.len → (lo ≤ p) × (run_at rs p ≡ Some r.answer)
run-has lo [] hi r p w c a b = absurd (Contains-nil r c)
run-has lo (q ∷ qs) hi r p w c a b = either (Contains-cons_cases q qs r c) (run-has (q.start + q.len) qs hi r p w.2) where
  inside : (s n : ℕ) → s ≤ p → p < s + n → (leb s p && ltb p (s + n)) ≡ true
  inside s n x y = grind (arith, nat_tests)

  past : (s n : ℕ) → s + n ≤ p → (leb s p && ltb p (s + n)) ≡ false
  past s n x = grind (arith, nat_tests)

  low : (l s n : ℕ) → l ≤ s → s + n ≤ p → l ≤ p
  low l s n x y = omega arith

  here : (s n : ℕ) → lo ≤ s → s ≤ p → lo ≤ p
  here s n x y = omega arith

  either : (q ≡ r) ⊎ Contains qs r → (Contains qs r → r.start ≤ p → p < r.start + r.len
      → (q.start + q.len ≤ p) × (run_at qs p ≡ Some r.answer)) → (lo ≤ p) × (run_at (q ∷ qs) p ≡ Some r.answer)
  either (inl same) later =
      let a2 : q.start ≤ p = subst (λ (x : Run FrameAnswer). x.start ≤ p) (sym same) a in
      let b2 : p < q.start + q.len = subst (λ (x : Run FrameAnswer). p < x.start + x.len) (sym same) b in
      (here q.start q.len w.0 a2, rw (inside q.start q.len a2 b2) (ap (λ (x : Run FrameAnswer). Some x.answer) same))
  either (inr there) later =
      let x = later there a b in
      (low lo q.start q.len w.0 x.0, rw (past q.start q.len x.0) x.1)

-- what was mapped, or asked for more
pub map-found : {A B : Type 0} (f : A → B) (o : Option A) (b : B) → option_map f o ≡ Some b → (a : A) × (o ≡ Some a) × (f a ≡ b)
map-found f None b e = absurd (none b e) where
  none : {B : Type 0} (b : B) → ◌≡◌ {A = Option B} None (Some b) → ⊥
  none b e = cc
map-found f (Some a) b e = (a, refl, same (f a) b e) where
  same : {B : Type 0} (x y : B) → Some x ≡ Some y → x ≡ y
  same x y e = cc

pub then-found : {A B : Type 0} (f : A → Option B) (o : Option A) (b : B) → option_and_then f o ≡ Some b →
    (a : A) × (o ≡ Some a) × (f a ≡ Some b)
then-found f None b e = absurd (none b e) where
  none : {B : Type 0} (b : B) → ◌≡◌ {A = Option B} None (Some b) → ⊥
  none b e = cc
then-found f (Some a) b e = (a, refl, e)

map-some : {A B : Type 0} (f : A → B) (o : Option A) → IsSome o → IsSome (option_map f o)
map-some f None s = s
map-some f (Some a) s = refl

-- the facts about a byte at which a table answers
pub record Answered (marks : Fde → Bool) (list : List Fde) (spans : List Span) (p : ℕ) (a : FrameAnswer) : Type 0 where
  pub span : Span
  pub in_map : Contains spans span
  pub has : has_byte p span ≡ true
  pub owned : owner spans p ≡ Some span.input
  pub fde : Fde
  pub in_list : Contains list fde
  pub in_range : is_in_range fde span.input ≡ true
  pub start : a.start ≡ fde.start
  pub table : a.table ≡ fde.table
  pub marked : a.marked ≡ marks fde
  -- the kind of frame is the CIE's
  pub ra : a.ra ≡ fde.cie.ra
  pub handler : a.handler ≡ fde.cie.augmentation.handler
  pub indirect : a.indirect ≡ fde.cie.augmentation.indirect
  pub signal : a.signal ≡ fde.cie.augmentation.signal
  pub row : row_at span.input fde.rows None ≡ Some a.row

pub owned-answer : (marks : Fde → Bool) (list : List Fde) (spans : List Span) (p : ℕ) (a : FrameAnswer)
    → carried (answer_at marks list) spans p ≡ Some a → Answered marks list spans p a
owned-answer marks list spans p a h =
    let (o, owned, at) = then-found (answer_at marks list) (owner spans p) a h in
    let (s, found, input) = map-found (λ (t : Span). t.input) (find (has_byte p) spans) o owned in
    let (f, first, told) = then-found (λ f. answer_of marks f o) (find (λ f. is_in_range f o) list) a at in
    let (row, there, said) = map-found _ (row_at o f.rows None) a told in
    let has = find-found (has_byte p) spans s found in
    let holds = find-found (λ g. is_in_range g o) list f first in
    record {
      span = s;
      in_map = has.1;
      has = has.0;
      owned = owned ∙ ap (λ (n : ℕ). Some n) (sym input);
      fde = f;
      in_list = holds.1;
      in_range = subst (λ (n : ℕ). is_in_range f n ≡ true) (sym input) holds.0;
      start = sym (ap (λ (x : FrameAnswer). x.start) said);
      table = sym (ap (λ (x : FrameAnswer). x.table) said);
      marked = sym (ap (λ (x : FrameAnswer). x.marked) said);
      ra = sym (ap (λ (x : FrameAnswer). x.ra) said);
      handler = sym (ap (λ (x : FrameAnswer). x.handler) said);
      indirect = sym (ap (λ (x : FrameAnswer). x.indirect) said);
      signal = sym (ap (λ (x : FrameAnswer). x.signal) said);
      row = subst (λ (n : ℕ). row_at n f.rows None ≡ Some a.row) (sym input) (there ∙ ap (λ (x : FrameAnswer). Some x.row) said);
    }

-- a run isn't empty
pub run-some : (lo : ℕ) (rs : Runs) (hi : ℕ) (r : Run FrameAnswer) → IsWithin lo rs hi → Contains rs r → 0 < r.len
run-some lo [] hi r w c = absurd (Contains-nil r c)
run-some lo (q ∷ qs) hi r w c = either (Contains-cons_cases q qs r c) (run-some (q.start + q.len) qs hi r w.2) where
  either : (q ≡ r) ⊎ Contains qs r → (Contains qs r → 0 < r.len) → 0 < r.len
  either (inl same) later = subst (λ (x : Run FrameAnswer). 0 < x.len) same w.1
  either (inr there) later = later there

-- the facts about a run's answer, at each of its bytes and at its first one
module _ (marks : Fde → Bool) (list : List Fde) (spans : List Span) (runs : Runs) (hi : ℕ) (within : IsWithin 0 runs hi)
    (answers : (p : ℕ) → run_at runs p ≡ carried (answer_at marks list) spans p) where
  pub answered : (r : Run FrameAnswer) → Contains runs r → (p : ℕ) → r.start ≤ p → p < r.start + r.len
      → Answered marks list spans p r.answer
  answered r c p a b = owned-answer marks list spans p r.answer
      (sym (answers p) ∙ (run-has 0 runs hi r p within c a b).1)

  pub answered-first : (r : Run FrameAnswer) → Contains runs r → Answered marks list spans r.start r.answer
  answered-first r c = answered r c r.start (same r.start) (more r.start r.len (run-some 0 runs hi r within c)) where
    same : (n : ℕ) → n ≤ n
    same n = omega arith

    more : (n k : ℕ) → 0 < k → n < n + k
    more n k h = omega arith

-- an address that an entry holds has an answer
pub holds-answer : (marks : Fde → Bool) (list : List Fde) (o : ℕ) (f : Fde) → All Begins list → Contains list f
    → is_in_range f o ≡ true → IsSome (answer_at marks list o)
holds-answer marks list o f begins c t =
    let (g, e) = find-finds (λ x. is_in_range x o) list f c t in
    let found = find-found (λ x. is_in_range x o) list g e in
    subst (λ (x : Option Fde). IsSome (option_and_then (λ y. answer_of marks y o) x)) (sym e)
    (map-some _ (row_at o g.rows None) (row-there g o (All-contains Begins list g begins found.1) (started g.start g.end found.0))) where
      started : (s e : ℕ) → (leb s o && ltb o e) ≡ true → s ≤ o
      started s e t = grind (arith, nat_tests)

abbrev pub AreWhole : (Fde → Bool) → List Fde → List Span → Type 0
AreWhole marks list spans = All (λ f. IsTrue (marks f) → MovesWhole spans f) list

module _ (marks : Fde → Bool) (list : List Fde) (spans : List Span) (runs : Runs) (hi : ℕ) (within : IsWithin 0 runs hi)
    (answers : (p : ℕ) → run_at runs p ≡ carried (answer_at marks list) spans p) (whole : AreWhole marks list spans)
    (begins : All Begins list) where
  moves : (p : ℕ) (a : FrameAnswer) → (x : Answered marks list spans p a) → a.marked ≡ true → MovesWhole spans x.fde
  moves p a x m = All-contains (λ f. IsTrue (marks f) → MovesWhole spans f) list x.fde whole x.in_list (sym x.marked ∙ m)

  one-marked : (r : Run FrameAnswer) → Contains runs r → 0 < r.len → r.answer.marked ≡ true → IsReached spans runs r
  one-marked r c l m =
      let is : start_of spans r ≡ new spans r.answer.start = rw m refl in
      let x = answered-first marks list spans runs hi within answers r c in
      let y = answered marks list spans runs hi within answers r c (r.start + r.len - 1) (last_from r.start r.len l)
      (last_in r.start r.len l) in
      let low : new spans x.fde.start ≤ x.span.out = (moves r.start r.answer x m).from_start x.span x.in_map x.in_range in
      record {
        before = subst (λ (n : ℕ). n ≤ r.start) (sym (is ∙ ap (new spans) x.start))
            (held_from (new spans x.fde.start) x.span.out x.span.len r.start low x.has);
        filled = λ p a b.
            let z = (moves (r.start + r.len - 1) r.answer y m).no_gap y.span p y.in_map y.in_range
            (subst (λ (n : ℕ). n ≤ p) (is ∙ ap (new spans) y.start) a)
            (held_to y.span.out y.span.len r.start r.len p l b y.has) in
            subst IsSome (sym (answers p ∙ ap (option_and_then (answer_at marks list)) z.1))
            (holds-answer marks list z.0 y.fde begins y.in_list z.2);
      } where
        last_from : (n k : ℕ) → 0 < k → n ≤ n + k - 1
        last_from n k h = omega arith

        last_in : (n k : ℕ) → 0 < k → n + k - 1 < n + k
        last_in n k h = omega arith

        held_from : (s o n p : ℕ) → s ≤ o → (leb o p && ltb p (o + n)) ≡ true → s ≤ p
        held_from s o n p h t = grind (arith, nat_tests)

        held_to : (o n s k p : ℕ) → 0 < k → p < s + k → (leb o (s + k - 1) && ltb (s + k - 1) (o + n)) ≡ true → p < o + n
        held_to o n s k p h b t = let e : s + k - 1 < o + n = at (s + k - 1) o n t in omega arith where
          at : (q o n : ℕ) → (leb o q && ltb q (o + n)) ≡ true → q < o + n
          at q o n t = grind (arith, nat_tests)

  one-plain : (r : Run FrameAnswer) → Contains runs r → r.answer.marked ≡ false → IsReached spans runs r
  one-plain r c m =
      let is : start_of spans r ≡ r.start = rw m refl in
      record {
        before = subst (λ (n : ℕ). n ≤ r.start) (sym is) (same r.start);
        filled = λ p a b. subst IsSome (sym (run-has 0 runs hi r p within c (subst (λ (n : ℕ). n ≤ p) is a) b).1) refl;
      } where
        same : (n : ℕ) → n ≤ n
        same n = omega arith

  pub reached : All (IsReached spans runs) runs
  reached = all_of (IsReached spans runs) runs (λ r c. one r c r.answer.marked refl) where
    one : (r : Run FrameAnswer) → Contains runs r → (b : Bool) → r.answer.marked ≡ b → IsReached spans runs r
    one r c true m = one-marked r c (run-some 0 runs hi r within c) m
    one r c false m = one-plain r c m

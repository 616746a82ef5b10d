-- The weight of tables under a valid map is bounded by the number of instructions of the map: no two runs begin at one span, and no two
-- spans belong to one instruction.
use Rattle.std.proofs.Common.{◌≡◌, ◌≢◌, ◌∙◌, ◌≤◌, ◌+◌, ◌*◌, ◌==◌, ℕ, true, List, [], ◌∷◌, All, length, sum_by}
use Rattle.std.proofs.Common.{Option, Some, None, IsTrue, sym, subst, refl, arith}
use Rattle.std.specs.Prelude.{AllPairs, Contains, find, is_some}
use Rattle.std.proofs.lemmas.Bool.{eqb-true}
use Rattle.std.proofs.lemmas.List.Elements.{All-contains}
use Rattle.std.proofs.lemmas.List.Sums.{sum_by-cons}
use Rattle.rb_bytes.proofs.Searches.{find-found}
use Rattle.rv_code.specs.declared.placed.Func.{Func}
use Rattle.rv_code.specs.declared.placed.Placed.{Placed}
use Rattle.rv_code.specs.layout.Flow.{insts_of}
use Rattle.rv_code.specs.layout.ProgramCode.{is_code_address}
use Rattle.addr_map.specs.declared.span.Span.{Span}
use Rattle.addr_map.specs.Spans.{ShareNoByte}
use Rattle.answer_runs.specs.declared.run.Run.{Run}
use Rattle.answer_runs.specs.AnswerRuns.{carried}
use Rattle.answer_runs.specs.Weights.{IsWeightOf, run_weight}
use Rattle.answer_runs.proofs.Pigeonhole.{HasPlace, weighed}
use Rattle.answer_runs.proofs.RunStarts.{RunStart, run_start, starts_rise}

sum_same : {X : Type 0} (n : ℕ) (xs : List X) → sum_by (λ x. n) xs ≡ n * length xs
sum_same n [] = grind arith
sum_same n (x ∷ xs) = let e = sum_by-cons (λ x. n) x xs in let ih = sum_same n xs in grind (arith, e, ih)

-- Each instruction has one span.

pub inst_at : (funcs : List Func) (a : ℕ) → is_code_address funcs a ≡ true → (p : Placed) × Contains (insts_of funcs) p × (p.addr ≡ a)
inst_at funcs a code = by (find (λ p. p.addr == a) (insts_of funcs)) refl code
  where
    by : (o : Option Placed) → find (λ p. p.addr == a) (insts_of funcs) ≡ o → is_some o ≡ true →
        (p : Placed) × Contains (insts_of funcs) p × (p.addr ≡ a)
    by (Some p) e some =
        let f = find-found (λ (p : Placed). p.addr == a) (insts_of funcs) p e in (p, f.1, eqb-true p.addr a f.0)
    by None e some = absurd (cc)

module _ (funcs : List Func) (spans : List Span) (only : All (λ s. IsTrue (is_code_address funcs s.input)) spans)
    (once : AllPairs (λ s t. s.input ≢ t.input) spans) where
  abbrev IsSpanOf : Span → Placed → Type 0
  IsSpanOf s p = p.addr ≡ s.input

  abbrev Place : Span → Type 0
  Place s = HasPlace (λ (s : Span). 1) (λ (p : Placed). 1) IsSpanOf (insts_of funcs) s

  place : (s : Span) → Contains spans s → Place s
  place s c =
      let (p, listed, is) = inst_at funcs s.input
      (All-contains (λ (s : Span). IsTrue (is_code_address funcs s.input)) spans s only c) in
      record { y = p; among = listed; related = is; enough = omega arith }

  pub few_spans : length spans ≤ length (insts_of funcs)
  few_spans =
      let all = weighed (λ (s : Span). 1) (λ (p : Placed). 1) IsSpanOf spans (insts_of funcs)
      (λ i j d less within p x y. once i j d less within (sym x ∙ y)) place in
      let left = sum_same 1 spans in
      let right = sum_same 1 (insts_of funcs) in
      omega (arith, all, left, right)

-- A table whose answers at the instructions of a map each weigh at most `most`.
module _ {A : Type 0} (at : ℕ → Option A) (weight : A → ℕ) (most : ℕ) (spans : List Span) (disjoint : AllPairs ShareNoByte spans)
    (light : (s : Span) → Contains spans s → (x : A) → at s.input ≡ Some x → run_weight + weight x ≤ most) where
  abbrev Begins : Run A → Span → Type 0
  Begins r s = s.out ≡ r.start

  placed : (r : Run A) → RunStart at spans r →
      HasPlace (λ (r : Run A). run_weight + weight r.answer) (λ (s : Span). most) Begins spans r
  placed r b = record { y = b.s; among = b.among; related = b.out; enough = light b.s b.among r.answer b.answer }

  pub weight_within : (n : ℕ) → IsWeightOf weight (carried at spans) n → n ≤ most * length spans
  weight_within n is =
      let rise = starts_rise 0 is.are_runs.end is.runs is.are_runs.within in
      let all = weighed (λ (r : Run A). run_weight + weight r.answer) (λ (s : Span). most) Begins is.runs spans
      (λ i j d less within s x y. let up = rise i j d less within in omega (arith, up, x, y))
      (λ r c. placed r (run_start at spans disjoint is.runs is.are_runs r c)) in
      let total = sum_same most spans in
      subst (λ (m : ℕ). m ≤ most * length spans) (sym is.sum)
      (subst (λ (m : ℕ). sum_by (λ (r : Run A). run_weight + weight r.answer) is.runs ≤ m) total all)

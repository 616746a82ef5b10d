-- Counting runs: the runs of carried answers weigh at most as much as the places at which they can begin.
use Rattle.std.proofs.Common.{◌≡◌, ◌≢◌, ℕ, zero, suc, ◌*◌, ◌<◌, ◌≤◌, ◌⊎◌, ◌∙◌, inl, inr, List, [], ◌∷◌, length, sym, ap, subst}
use Rattle.std.proofs.Common.{arith, get_or, Option, Some, sum_by}
use Rattle.std.specs.Prelude.{Contains, AllPairs}
use Rattle.std.proofs.lemmas.Bool.{cases_lt}
use Rattle.rb_bytes.proofs.Members.{Contains-nil, Contains-cons_cases}
use Rattle.addr_map.specs.declared.span.Span.{Span}
use Rattle.addr_map.specs.Spans.{ShareNoByte}
use Rattle.answer_runs.specs.declared.run.Run.{Run}
use Rattle.answer_runs.specs.AnswerRuns.{AreRunsOf, carried}
use Rattle.branch_fixup.proofs.BlockSpans.{IsFirstFrom, Follows, Heads, IsLaidByBlocks}
use Rattle.answer_runs.proofs.Pigeonhole.{HasPlace, weighed, all_owned, owned_has, all_weights}
use Rattle.answer_runs.proofs.RunStarts.{RunStart, run_start, starts_rise}

once_head : (u t : Span) (us : List Span) → AllPairs (λ (s t : Span). s.input ≢ t.input) (u ∷ us) → Contains us t → u.input ≢ t.input
once_head u t us once (k, within, is) =
    subst (λ (x : Span). u.input ≢ x.input) is (once zero (suc k) t (omega arith) (omega (arith, within)))

-- the new address of an instruction
once_out : (spans : List Span) → AllPairs (λ (s t : Span). s.input ≢ t.input) spans → (s t : Span) → Contains spans s → Contains spans t →
    s.input ≡ t.input → s.out ≡ t.out
once_out [] once s t c d same = absurd (Contains-nil s c)
once_out (u ∷ us) once s t c d same =
    by (λ c d. once_out us (λ i j d less within. once (suc i) (suc j) d (omega arith) (omega arith)) s t c d same)
    (Contains-cons_cases u us s c) (Contains-cons_cases u us t d)
  where
    by : (Contains us s → Contains us t → s.out ≡ t.out) → (u ≡ s) ⊎ Contains us s → (u ≡ t) ⊎ Contains us t → s.out ≡ t.out
    by more (inl e) (inl f) = ap (λ (x : Span). x.out) (sym e ∙ f)
    by more (inl e) (inr k) = absurd (once_head u t us once k (ap (λ (x : Span). x.input) e ∙ same))
    by more (inr k) (inl f) = absurd (once_head u s us once k (ap (λ (x : Span). x.input) f ∙ sym same))
    by more (inr k) (inr l) = more k l

module _ {A B F : Type 0} (at : ℕ → Option A) (weight : A → ℕ) (blocks : List B) (start : B → ℕ) (Holds : B → ℕ → Type 0)
    (list : List F) (cuts : F → List ℕ) (size : F → ℕ) where
  -- An answer comes from an owner's entry, which has a cut where the answer begins: at the start of each block with an instruction that has
  -- it, and between an instruction without it and a later one with it.
  pub record Source (a : ℕ) (x : A) : Type 0 where
    pub f : F
    pub among : Contains list f
    pub enough : weight x ≤ size f
    pub head : (b : B) → Contains blocks b → Holds b a → Contains (cuts f) (start b)
    pub change : (z : ℕ) → z < a → at z ≢ Some x → (c : ℕ) × (Contains (cuts f) c) × (z < c) × (c ≤ a)

  module _ (sources : (a : ℕ) (x : A) → at a ≡ Some x → Source a x) (spans : List Span)
      (disjoint : AllPairs ShareNoByte spans) (once : AllPairs (λ (s t : Span). s.input ≢ t.input) spans)
      (laid : IsLaidByBlocks blocks start Holds spans) (runs : List (Run A)) (are : AreRunsOf (carried at spans) runs) where
    -- a run begins at the first span with bytes from a cut on
    record BeginsAt (r : Run A) (p : F × ℕ) : Type 0 where
      s : Span
      among : Contains spans s
      bytes : 0 < s.len
      out : s.out ≡ r.start
      first : IsFirstFrom spans p.1 s

    one : (s t : Span) → Contains spans s → Contains spans t → s.input ≡ t.input → s.out ≡ t.out
    one s t c d same = once_out spans once s t c d same

    apart : (r q : Run A) → r.start < q.start → (p : F × ℕ) → BeginsAt r p → BeginsAt q p → ⊥
    apart r q less p x y =
        let a = x.first.first y.s y.among y.bytes y.first.after in
        let b = y.first.first x.s x.among x.bytes x.first.after in
        let e = one x.s y.s x.among y.among (omega (arith, a, b)) in
        let f = x.out in
        let g = y.out in
        omega (arith, less, e, f, g)

    cut : (r : Run A) → RunStart at spans r → HasPlace (λ (q : Run A). weight q.answer) (λ (p : F × ℕ). size p.0) BeginsAt
        (all_owned cuts size list) r
    cut r b = by (laid b.s b.among b.bytes) where
      o : Source b.s.input r.answer
      o = sources b.s.input r.answer b.answer

      placed : (c : ℕ) → Contains (cuts o.f) c → IsFirstFrom spans c b.s →
          HasPlace (λ (q : Run A). weight q.answer) (λ (p : F × ℕ). size p.0) BeginsAt (all_owned cuts size list) r
      placed c k first = record {
        y = (o.f, c);
        among = owned_has cuts size list o.f c o.among k;
        related = record { s = b.s; among = b.among; bytes = b.bytes; out = b.out; first = first };
        enough = o.enough;
      }

      by : Heads blocks start Holds spans b.s ⊎ Follows spans b.s →
          HasPlace (λ (q : Run A). weight q.answer) (λ (p : F × ℕ). size p.0) BeginsAt (all_owned cuts size list) r
      by (inl h) = placed (start h.b) (o.head h.b h.among h.holds) h.first
      by (inr f) =
          let c = o.change f.t.input f.before (b.other f.t f.among f.bytes f.touch) in
          placed c.0 c.1 (record { after = c.3; first = λ u k bytes from. second f c.0 c.2 u k bytes from (cases_lt u.input b.s.input) })
        where
          second : (f : Follows spans b.s) (c : ℕ) → f.t.input < c → (u : Span) → Contains spans u → 0 < u.len → c ≤ u.input →
              (u.input < b.s.input) ⊎ (b.s.input ≤ u.input) → b.s.input ≤ u.input
          second f c less u k bytes from (inl x) = let l = f.last u k bytes x in absurd (omega (arith, l, less, from))
          second f c less u k bytes from (inr x) = x

    pub counted : sum_by (λ (r : Run A). weight r.answer) runs ≤ sum_by (λ f. length (cuts f) * size f) list
    counted =
        let rise = starts_rise 0 are.end runs are.within in
        let all = weighed (λ (q : Run A). weight q.answer) (λ (p : F × ℕ). size p.0) BeginsAt runs (all_owned cuts size list)
        (λ i j d less within p x y. apart (get_or runs i d) (get_or runs j d) (rise i j d less within) p x y)
        (λ r c. cut r (run_start at spans disjoint runs are r c)) in
        subst (λ (n : ℕ). sum_by (λ (r : Run A). weight r.answer) runs ≤ n) (all_weights cuts size list) all

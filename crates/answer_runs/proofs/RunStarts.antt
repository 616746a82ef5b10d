-- Starts of runs of carried answers: each is the start of a span, and no span with the same answer ends there.
use Rattle.std.proofs.Common.{◌≡◌, ◌≢◌, ℕ, zero, suc, ◌+◌, ◌-◌, ◌<◌, ◌≤◌, ◌⊎◌, ◌∙◌, inl, inr, List, [], ◌∷◌, refl, sym, ap, subst}
use Rattle.std.proofs.Common.{arith, get_or, Option, Some, None, Bool, true, false}
use Rattle.std.specs.Prelude.{Contains, AllPairs}
use Rattle.std.specs.List.{find}
use Rattle.std.proofs.Math.Nat.{eq-or-lt_of_le}
use Rattle.std.proofs.lemmas.List.Kept.{AllPairs-cons}
use Rattle.std.proofs.lemmas.List.Elements.{Contains-get_or}
use Rattle.rb_bytes.proofs.Members.{Contains-nil, Contains-cons_cases}
use Rattle.rb_bytes.proofs.Searches.{find-found}
use Rattle.addr_map.specs.declared.span.Span.{Span}
use Rattle.addr_map.specs.Spans.{ShareNoByte, has_byte, owner}
use Rattle.addr_map.proofs.Owners.{has, has_bounds}
use Rattle.answer_runs.specs.declared.run.Run.{Run}
use Rattle.answer_runs.specs.AnswerRuns.{run_at, IsWithin, AreLongest, AreRunsOf, carried}
use Rattle.answer_runs.proofs.OnlyRuns.{before, inside, outside}

module _ {A : Type 0} where
  starts_after : (lo hi : ℕ) (rs : List (Run A)) → IsWithin lo rs hi → (r : Run A) → Contains rs r → (lo ≤ r.start) × (0 < r.len)
  starts_after lo hi [] within r c = absurd (Contains-nil r c)
  starts_after lo hi (q ∷ rs) within r c =
      by (starts_after (q.start + q.len) hi rs within.2 r) (Contains-cons_cases q rs r c)
    where
      by : (Contains rs r → (q.start + q.len ≤ r.start) × (0 < r.len)) → (q ≡ r) ⊎ Contains rs r → (lo ≤ r.start) × (0 < r.len)
      by more (inl e) = subst (λ (u : Run A). (lo ≤ u.start) × (0 < u.len)) e (within.0, within.1)
      by more (inr d) = let m = more d in let a = within.0 in let b = m.0 in (omega (arith, a, b), m.1)

  -- The first byte of a run.
  run_here : (lo hi : ℕ) (rs : List (Run A)) → IsWithin lo rs hi → (r : Run A) → Contains rs r → run_at rs r.start ≡ Some r.answer
  run_here lo hi [] within r c = absurd (Contains-nil r c)
  run_here lo hi (q ∷ rs) within r c =
      by (run_here (q.start + q.len) hi rs within.2 r) (Contains-cons_cases q rs r c)
    where
      by : (Contains rs r → run_at rs r.start ≡ Some r.answer) → (q ≡ r) ⊎ Contains rs r →
          run_at (q ∷ rs) r.start ≡ Some r.answer
      by more (inl e) = subst (λ (u : Run A). run_at (q ∷ rs) u.start ≡ Some u.answer) e
          (rw (inside q q.start (omega arith) (let l = within.1 in omega (arith, l))) refl)
      by more (inr d) =
          let low = (starts_after (q.start + q.len) hi rs within.2 r d).0 in
          rw (outside q r.start (inr low)) (more d)

  -- The byte before a run has another answer.
  run_differs : (lo hi : ℕ) (rs : List (Run A)) → IsWithin lo rs hi → AreLongest rs → (r : Run A) → Contains rs r →
      (p : ℕ) (x : A) → p + 1 ≡ r.start → run_at rs p ≡ Some x → x ≢ r.answer
  run_differs lo hi [] within longest r c p x next is = absurd (Contains-nil r c)
  run_differs lo hi (q ∷ []) within longest r c p x next is =
      by (Contains-cons_cases q [] r c)
    where
      by : (q ≡ r) ⊎ Contains [] r → x ≢ r.answer
      by (inl e) =
          let st : q.start ≡ r.start = ap (λ (u : Run A). u.start) e in
          let none : run_at (q ∷ []) p ≡ None = rw (outside q p (inl (omega (arith, st, next)))) refl in
          absurd (cc (none, is))
      by (inr d) = absurd (Contains-nil r d)
  run_differs lo hi (q ∷ (s ∷ rs)) within longest r c p x next is =
      by (run_differs (q.start + q.len) hi (s ∷ rs) within.2 longest.1 r) (Contains-cons_cases q (s ∷ rs) r c)
    where
      touching : (s ≡ r) ⊎ Contains rs r → q.start + q.len ≡ r.start → x ≢ r.answer
      touching (inl e) t =
          let st : s.start ≡ r.start = ap (λ (u : Run A). u.start) e in
          let len = within.1 in
          let here : run_at (q ∷ (s ∷ rs)) p ≡ Some q.answer =
          rw (inside q p (omega (arith, t, next, len)) (omega (arith, t, next, len))) refl in
          let differ : q.answer ≢ s.answer = longest.0 (t ∙ sym st) in
          λ same. differ (let ans : s.answer ≡ r.answer = ap (λ (u : Run A). u.answer) e in cc (here, is, same, ans))
      touching (inr d) t =
          let low = (starts_after (s.start + s.len) hi rs within.2.2 r d).0 in
          let len = within.2.1 in
          let a = within.2.0 in
          absurd (omega (arith, low, len, a, t))

      apart : ((p : ℕ) (x : A) → p + 1 ≡ r.start → run_at (s ∷ rs) p ≡ Some x → x ≢ r.answer) → Contains (s ∷ rs) r →
          (q.start + q.len ≡ r.start) ⊎ (q.start + q.len < r.start) → x ≢ r.answer
      apart more d (inl t) = touching (Contains-cons_cases s rs r d) t
      apart more d (inr t) =
          let same : run_at (q ∷ (s ∷ rs)) p ≡ run_at (s ∷ rs) p = rw (outside q p (inr (omega (arith, t, next)))) refl in
          more p x next (sym same ∙ is)

      by : (Contains (s ∷ rs) r → (p : ℕ) (x : A) → p + 1 ≡ r.start → run_at (s ∷ rs) p ≡ Some x → x ≢ r.answer) →
          (q ≡ r) ⊎ Contains (s ∷ rs) r → x ≢ r.answer
      by more (inl e) =
          let st : q.start ≡ r.start = ap (λ (u : Run A). u.start) e in
          let low = within.2.0 in
          let none : run_at (q ∷ (s ∷ rs)) p ≡ None =
          rw (outside q p (inl (omega (arith, st, next))))
          (before (q.start + q.len) (s ∷ rs) hi p within.2 (omega (arith, st, next))) in
          absurd (cc (none, is))
      by more (inr d) =
          let low = (starts_after (q.start + q.len) hi (s ∷ rs) within.2 r d).0 in
          apart (more d) d (eq-or-lt_of_le low)

  -- Each run starts after the runs before it.
  pub starts_rise : (lo hi : ℕ) (rs : List (Run A)) → IsWithin lo rs hi → AllPairs (λ (r s : Run A). r.start < s.start) rs
  starts_rise lo hi [] within = λ i j d less in_list. absurd (omega (arith, in_list))
  starts_rise lo hi (r ∷ rs) within = AllPairs-cons (λ (r s : Run A). r.start < s.start) r rs
      (λ k d in_list. let low = (starts_after (r.start + r.len) hi rs within.2 (get_or rs k d) (Contains-get_or rs k d in_list)).0 in
      let len = within.1 in omega (arith, low, len))
      (starts_rise (r.start + r.len) hi rs within.2)

-- The owner of a byte.
owns : (spans : List Span) → AllPairs ShareNoByte spans → (s : Span) → Contains spans s → (p : ℕ) → has_byte p s ≡ true →
    owner spans p ≡ Some s.input
owns [] disjoint s c p h = absurd (Contains-nil s c)
owns (u ∷ us) disjoint s c p h =
    by (owns us (λ i j d less within. disjoint (suc i) (suc j) d (omega arith) (omega arith)) s) (Contains-cons_cases u us s c)
  where
    alone : (Contains us s) → has_byte p u ≡ true → ⊥
    alone (k, within, is) here =
        subst (ShareNoByte u) is (disjoint zero (suc k) s (omega arith) (omega (arith, within))) p here h

    in_rest : ((p : ℕ) → has_byte p s ≡ true → owner us p ≡ Some s.input) → Contains us s → (b : Bool) → has_byte p u ≡ b →
        owner (u ∷ us) p ≡ Some s.input
    in_rest more d true e = absurd (alone d e)
    in_rest more d false e = rw e (more p h)

    by : (Contains us s → (p : ℕ) → has_byte p s ≡ true → owner us p ≡ Some s.input) → (u ≡ s) ⊎ Contains us s →
        owner (u ∷ us) p ≡ Some s.input
    by more (inl e) =
        let here : has_byte p u ≡ true = subst (λ (t : Span). has_byte p t ≡ true) (sym e) h in
        rw here (ap (λ (t : Span). Some t.input) e)
    by more (inr d) = in_rest (more d) d (has_byte p u) refl

-- The span at which a run starts.
pub record RunStart {A : Type 0} (at : ℕ → Option A) (spans : List Span) (r : Run A) : Type 0 where
  pub s : Span
  pub among : Contains spans s
  pub bytes : 0 < s.len
  pub out : s.out ≡ r.start
  pub answer : at s.input ≡ Some r.answer
  -- No span with this answer ends here.
  pub other : (t : Span) → Contains spans t → 0 < t.len → t.out + t.len ≡ s.out → at t.input ≢ Some r.answer

module _ {A : Type 0} (at : ℕ → Option A) (spans : List Span) (disjoint : AllPairs ShareNoByte spans) (runs : List (Run A))
    (are : AreRunsOf (carried at spans) runs) (r : Run A) (c : Contains runs r) where
  -- A span whose last byte is before the run has another answer.
  another : (t : Span) → Contains spans t → (p : ℕ) → has_byte p t ≡ true → p + 1 ≡ r.start → at t.input ≢ Some r.answer
  another t d p h next same =
      let own : carried at spans p ≡ at t.input = rw (owns spans disjoint t d p h) refl in
      let is : run_at runs p ≡ Some r.answer = are.answered p ∙ (own ∙ same) in
      run_differs 0 are.end runs are.within are.longest r c p r.answer next is refl

  begun : (s : Span) → Contains spans s → has_byte r.start s ≡ true → RunStart at spans r
  begun s d h = by (eq-or-lt_of_le bounds.0) where
    bounds : (s.out ≤ r.start) × (r.start < s.out + s.len)
    bounds = has_bounds r.start s h

    answer : at s.input ≡ Some r.answer
    answer =
        let own : carried at spans r.start ≡ at s.input = rw (owns spans disjoint s d r.start h) refl in
        sym own ∙ (sym (are.answered r.start) ∙ run_here 0 are.end runs are.within r c)

    by : (s.out ≡ r.start) ⊎ (s.out < r.start) → RunStart at spans r
    by (inl e) = record {
      s = s;
      among = d;
      bytes = let b = bounds.1 in omega (arith, b, e);
      out = e;
      answer = answer;
      other = λ t k len touch. another t k (t.out + t.len - 1) (has (t.out + t.len - 1) t (omega (arith, len)) (omega (arith, len)))
          (omega (arith, len, touch, e));
    }
    by (inr less) =
        let b = bounds.1 in
        absurd (another s d (r.start - 1) (has (r.start - 1) s (omega (arith, less)) (omega (arith, less, b)))
        (omega (arith, less)) answer)

  pub run_start : RunStart at spans r
  run_start = by (find (has_byte r.start) spans) refl where
    by : (o : Option Span) → find (has_byte r.start) spans ≡ o → RunStart at spans r
    by None e =
        let none : carried at spans r.start ≡ None = rw e refl in
        let here = run_here 0 are.end runs are.within r c in
        let same = are.answered r.start in
        absurd (cc (none, here, same))
    by (Some s) e = let f = find-found (has_byte r.start) spans s e in begun s f.1 f.0

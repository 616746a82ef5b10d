-- If the steps are deterministic, a run is the only one.
use Rattle.std.proofs.Common.{◌≡◌, ◌∙◌, ◌+◌, ◌<◌, ◌≤◌, ℕ, zero, suc, List, [], ◌++◌, Option, refl, sym, ap, subst, arith}
use Rattle.rv_code.specs.machine.Machine.{Event, events, Outcome, Going, SoFar, starts, more}
use Rattle.std.proofs.Common.{⊎_elim}
use Rattle.std.proofs.lemmas.Bool.{cases_lt}
use Rattle.rv_code.specs.machine.DeterminedRuns.{HasOneOutcome, IsDetermined, IsStop}

module _ {S C : Type 0} (step : S → Outcome S C → Type 0) (s : S) where
  -- The last of some steps, and the steps before it.
  record LastStep (n : ℕ) (trace : List Event) (u : S) : Type 0 where
    before : List Event
    event : Option Event
    state : S
    so_far : SoFar step s n before state
    went : step state (Going u event)
    trace_is : trace ≡ before ++ events event

  last_step : {m n : ℕ} {trace : List Event} {u : S} → SoFar step s m trace u → m ≡ suc n → LastStep n trace u
  last_step {n = n} starts is = absurd (omega arith)
  last_step {n = n} (more {n = k} {trace = trace} {t = t} {u = u} e so_far went) is =
      let same : k ≡ n = omega arith in
      record {
        before = trace;
        event = e;
        state = t;
        so_far = subst (λ j. SoFar step s j trace t) same so_far;
        went = went;
        trace_is = refl;
      }

  none_yet : {m : ℕ} {trace : List Event} {u : S} → SoFar step s m trace u → m ≡ 0 → (trace ≡ []) × (u ≡ s)
  none_yet starts is = (refl, refl)
  none_yet (more e so_far went) is = absurd (omega arith)

  same_going : (t u : S) (e f : Option Event) → ◌≡◌ {A = Outcome S C} (Going t e) (Going u f) → (t ≡ u) × (e ≡ f)
  same_going t u e f same = (cc, cc)

  -- Fewer steps are deterministic, too.
  pub fewer : {m n : ℕ} → m ≤ n → IsDetermined step s n → IsDetermined step s m
  fewer few determined = record { one_outcome = λ k below. determined.one_outcome k (omega arith) }

  -- The same number of steps reach the same state, with the same calls.
  pub same_so_far : (n : ℕ) (trace trace' : List Event) (t t' : S) → IsDetermined step s n → SoFar step s n trace t →
      SoFar step s n trace' t' → (trace ≡ trace') × (t ≡ t')
  same_so_far zero trace trace' t t' determined here there =
      let a = none_yet here refl in
      let b = none_yet there refl in
      (a.0 ∙ sym b.0, a.1 ∙ sym b.1)
  same_so_far (suc n) trace trace' t t' determined here there =
      let a = last_step here refl in
      let b = last_step there refl in
      let before = same_so_far n a.before b.before a.state b.state (fewer (omega arith) determined) a.so_far b.so_far in
      let went : step a.state (Going t' b.event) = subst (λ x. step x (Going t' b.event)) (sym before.1) b.went in
      let both = same_going t t' a.event b.event
      (determined.one_outcome n (omega arith) a.before a.state a.so_far (Going t a.event) (Going t' b.event) a.went went) in
      (a.trace_is ∙ ap (λ x. x ++ events a.event) before.0 ∙ ap (λ x. b.before ++ events x) both.1 ∙ sym b.trace_is, both.0)

  -- After n steps, the next step doesn't go on.
  pub record Stop (n : ℕ) (trace : List Event) (state : S) (outcome : Outcome S C) : Type 0 where
    pub so_far : SoFar step s n trace state
    pub comes_to : step state outcome
    pub is_stop : IsStop outcome

  -- At most k steps go on if the run stops after k steps.
  pub stop_is_last : {n k : ℕ} {trace front : List Event} {u t : S} {o : Outcome S C} → IsDetermined step s (suc k) →
      SoFar step s n trace u → Stop k front t o → n ≤ k
  stop_is_last determined starts stop = omega arith
  stop_is_last {k = k} {front = front} {t = t'} {o = o} determined (more {n = n} {trace = trace} {t = t} {u =
      u} e so_far went) stop =
      ⊎_elim
      (λ (later : n < k). omega arith)
      (λ (earlier : k ≤ n).
      let last : n ≤ k = stop_is_last determined so_far stop in
      let is : k ≡ n = omega arith in
      let there = subst (λ j. SoFar step s j front t') is stop.so_far in
      let state_is = (same_so_far n front trace t' t (fewer (omega arith) determined) there so_far).1 in
      let went' : step t' (Going u e) = subst (λ x. step x (Going u e)) (sym state_is) went in
      let same = determined.one_outcome n (omega arith) front t' there o (Going u e) stop.comes_to went' in
      absurd (subst IsStop same stop.is_stop))
      (cases_lt n k)

  -- Two stops are the same.
  pub same_stop : {n m : ℕ} {trace trace' : List Event} {t t' : S} {o o' : Outcome S C} → IsDetermined step s (suc n) →
      Stop n trace t o → Stop m trace' t' o' → (n ≡ m) × (trace ≡ trace') × (t ≡ t') × (o ≡ o')
  same_stop {n = n} {m = m} {trace = trace} {trace' = trace'} {t = t} {t' = t'} {o = o} {o' = o'} determined here there =
      let before : m ≤ n = stop_is_last determined there.so_far here in
      let after : n ≤ m = stop_is_last (fewer {m = suc m} (omega arith) determined) here.so_far there in
      let is : m ≡ n = omega arith in
      let both = same_so_far n trace trace' t t' (fewer (omega arith) determined) here.so_far
      (subst (λ j. SoFar step s j trace' t') is there.so_far) in
      let there' : step t o' = subst (λ x. step x o') (sym both.1) there.comes_to in
      (sym is, both.0, both.1, determined.one_outcome n (omega arith) trace t here.so_far o o' here.comes_to there')

  -- If a run stops, all its steps are deterministic.
  pub stop_determines : {n : ℕ} {trace : List Event} {t : S} {o : Outcome S C} → IsDetermined step s (suc n) → Stop n trace t o →
      (limit : ℕ) → IsDetermined step s limit
  stop_determines determined stop limit = record {
    one_outcome = λ k below front u so_far. let before = stop_is_last determined so_far stop in
        determined.one_outcome k (omega arith) front u so_far;
  }

  -- One more step is deterministic.
  pub more_determined : {n : ℕ} {trace : List Event} {t : S} → IsDetermined step s n →
      SoFar step s n trace t → HasOneOutcome step t → IsDetermined step s (n + 1)
  more_determined {n = n} {trace = trace} {t = t} determined so_far one = record {
    one_outcome = λ k below front u there.
        ⊎_elim
        (λ (earlier : k < n). determined.one_outcome k earlier front u there)
        (λ (last : n ≤ k).
        let is : k ≡ n = omega arith in
        let same = same_so_far n front trace u t determined (subst (λ j. SoFar step s j front u) is there) so_far in
        subst (HasOneOutcome step) (sym same.1) one)
        (cases_lt k n);
  }

-- The first steps from a state have only one result, which a run returns.
use Rattle.std.proofs.Common.{◌≡◌, ◌∙◌, ◌<◌, ◌≤◌, ◌⊎◌, ℕ, suc, List, refl, sym, ap, subst, inl, inr, ⊎_elim, arith}
use Rattle.std.specs.Io.KnownBytes.{append_known}
use Rattle.std.proofs.lemmas.Grind.{common_steps}
use Rattle.rv_code.specs.machine.DeterminedRuns.{IsDetermined}
use Rattle.rv_code.specs.machine.Machine.{Event, output, Outcome, Ended, Halts, SoFar, Run, HaltsAfter}
use Rattle.rv_code.proofs.machine.OnlyRuns.{Stop, fewer, same_so_far, stop_is_last, same_stop}
use Rattle.run_core.specs.Answers.{Answer}
use Rattle.run_core.specs.Answers as answer
use Rattle.run_core.specs.Inputs.{Outside}
use Rattle.run_core.specs.Runs.{MachineRunAnswers, determined_steps, StateRunsTo, IsInterrupted}

module _ {S C : Type 0} (step : S → Outcome S C → Type 0) (s : S) (limit : ℕ) (determined : IsDetermined step s limit) where
  pub record IsSame (end : Answer C) (n : ℕ) (trace : List Event) (other : Answer C) (m : ℕ) (others : List Event) : Type 0 where
    pub end_is : end ≡ other
    pub steps_are : n ≡ m
    pub calls_are : trace ≡ others

  going_or_stop : {trace front : List Event} {u t : S} {k : ℕ} {o : Outcome S C} → SoFar step s limit trace u →
      Stop step s k front t o → k < limit → ⊥
  going_or_stop goes stop below = let last = stop_is_last step s (fewer step s (omega arith) determined) goes stop in omega arith

  run_stop : {n : ℕ} {trace : List Event} {status : ℕ} (run : Run step s n trace status) →
      Stop step s run.before trace run.state (Ended status)
  run_stop run = record { so_far = run.so_far; comes_to = run.ends; is_stop = tt }

  halt_stop : {n pc : ℕ} {trace : List Event} {cause : C} (halts : HaltsAfter step s n trace pc cause) →
      Stop step s n trace halts.state (Halts pc cause)
  halt_stop halts = record { so_far = halts.so_far; comes_to = halts.halts; is_stop = tt }

  few : {k : ℕ} → k < limit → IsDetermined step s (suc k)
  few below = fewer step s (omega arith) determined

  before_end : {n : ℕ} {trace : List Event} {status : ℕ} (run : (n ≤ limit) × Run step s n trace status) → run.1.before < limit
  before_end run = omega (arith, run.0, run.1.last)

  goes_on : {n : ℕ} {trace : List Event} (run : (n ≡ limit) × (t : S) × SoFar step s n trace t) → SoFar step s limit trace run.1
  goes_on {trace = trace} run = subst (λ k. SoFar step s k trace run.1) run.0 run.2

  same_status : (x y : ℕ) → ◌≡◌ {A = Outcome S C} (Ended x) (Ended y) → x ≡ y
  same_status x y same = cc

  same_halt : (x y : ℕ) (a b : C) → ◌≡◌ {A = Outcome S C} (Halts x a) (Halts y b) →
      ◌≡◌ {A = Answer C} (answer.Halted x a) (answer.Halted y b)
  same_halt x y a b same = cc

  end_or_halt : (x y : ℕ) (a : C) → ◌≡◌ {A = Outcome S C} (Ended x) (Halts y a) → ⊥
  end_or_halt x y a same = cc

  pub same_runs : (end other : Answer C) (n m : ℕ) (trace others : List Event) → StateRunsTo step end limit n s trace →
      StateRunsTo step other limit m s others → IsSame end n trace other m others
  same_runs answer.Going answer.Going n m trace others a b =
      let is : n ≡ m = a.0 ∙ sym b.0 in
      let goes : SoFar step s m trace a.1 = subst (λ k. SoFar step s k trace a.1) is a.2 in
      record {
        end_is = refl;
        steps_are = is;
        calls_are = (same_so_far step s m trace others a.1 b.1 (fewer step s (omega (arith, b.0)) determined) goes b.2).0;
      }
  same_runs answer.Going (answer.Ended status) n m trace others a b =
      absurd (going_or_stop (goes_on a) (run_stop b.1) (before_end b))
  same_runs answer.Going (answer.Halted pc cause) n m trace others a b = absurd (going_or_stop (goes_on a) (halt_stop b.1) b.0)
  same_runs (answer.Ended status) answer.Going n m trace others a b =
      absurd (going_or_stop (goes_on b) (run_stop a.1) (before_end a))
  same_runs (answer.Halted pc cause) answer.Going n m trace others a b = absurd (going_or_stop (goes_on b) (halt_stop a.1) a.0)
  same_runs (answer.Ended status) (answer.Ended status') n m trace others a b =
      let same = same_stop step s (few (before_end a)) (run_stop a.1) (run_stop b.1) in
      record {
        end_is = ap answer.Ended (same_status status status' same.3);
        steps_are = a.1.last ∙ ap suc same.0 ∙ sym b.1.last;
        calls_are = same.1;
      }
  same_runs (answer.Ended status) (answer.Halted pc cause) n m trace others a b =
      let same = same_stop step s (few (before_end a)) (run_stop a.1) (halt_stop b.1) in
      absurd (end_or_halt status pc cause same.3)
  same_runs (answer.Halted pc cause) (answer.Ended status) n m trace others a b =
      let same = same_stop step s (few a.0) (halt_stop a.1) (run_stop b.1) in
      absurd (end_or_halt status pc cause (sym same.3))
  same_runs (answer.Halted pc cause) (answer.Halted pc' cause') n m trace others a b =
      let same = same_stop step s (few a.0) (halt_stop a.1) (halt_stop b.1) in
      record { end_is = same_halt pc pc' cause cause' same.3; steps_are = same.0; calls_are = same.1 }
  same_runs end answer.ReadFault n m trace others a b = absurd b
  same_runs end answer.WriteFault n m trace others a b = absurd b
  same_runs end answer.Memory n m trace others a b = absurd b
  same_runs answer.ReadFault other n m trace others a b = absurd a
  same_runs answer.WriteFault other n m trace others a b = absurd a
  same_runs answer.Memory other n m trace others a b = absurd a

module _ {M S C : Type 0} (state_of : M → List ℕ → S) (step : S → Outcome S C → Type 0) (old new : M) (input : List ℕ)
    (limit n : ℕ) (before after : Outside) where
  record Given (end : Answer C) : Type 0 where
    trace : List Event
    runs_to : StateRunsTo step end limit n (state_of old input) trace
    taken_is : after.output.taken ≡ append_known before.output.taken (output trace)

  given : (end : Answer C) → MachineRunAnswers state_of step end limit n old new input before after →
      IsInterrupted end ⊎ Given end
  given answer.Going a = grind (arith, common_steps)
  given (answer.Ended status) a = inr (record { trace = a.1.trace; runs_to = (a.0, a.1.run); taken_is = a.1.taken_is })
  given (answer.Halted pc cause) a = inr (record { trace = a.1.trace; runs_to = (a.0, a.1.halts); taken_is = a.1.taken_is })
  given answer.ReadFault a = inl tt
  given answer.WriteFault a = inl tt
  given answer.Memory a = inl tt

  -- The result is the one of the first steps, and the sink took the output of their calls.
  pub record IsAnswered (end : Answer C) (other : Answer C) (m : ℕ) (trace : List Event) : Type 0 where
    pub end_is : end ≡ other
    pub steps_are : n ≡ m
    pub taken_is : after.output.taken ≡ append_known before.output.taken (output trace)

  determined_all : (end : Answer C) → IsDetermined step (state_of old input) (determined_steps end limit n) →
      (trace : List Event) → StateRunsTo step end limit n (state_of old input) trace →
      IsDetermined step (state_of old input) limit
  determined_all answer.Going determined trace goes = determined
  determined_all (answer.Ended status) determined trace goes = determined
  determined_all (answer.Halted pc cause) determined trace goes = determined
  determined_all answer.ReadFault determined trace goes = absurd goes
  determined_all answer.WriteFault determined trace goes = absurd goes
  determined_all answer.Memory determined trace goes = absurd goes

  -- If the first steps of the definition have a result, a run returns it, except for faults.
  pub only_answer : (end : Answer C) → MachineRunAnswers state_of step end limit n old new input before after →
      IsDetermined step (state_of old input) (determined_steps end limit n) → (other : Answer C) (m : ℕ) (trace : List Event) →
      StateRunsTo step other limit m (state_of old input) trace → IsInterrupted end ⊎ IsAnswered end other m trace
  only_answer end answers determined other m trace goes =
      ⊎_elim
      (λ (fault : IsInterrupted end). inl fault)
      (λ (g : Given end).
      let same = same_runs step (state_of old input) limit
      (determined_all end determined g.trace g.runs_to) end other n m g.trace trace g.runs_to goes in
      inr (record {
        end_is = same.end_is;
        steps_are = same.steps_are;
        taken_is = g.taken_is ∙ ap (λ es. append_known before.output.taken (output es)) same.calls_are;
      }))
      (given end answers)

-- Sequences of steps: the invariant of a loop over a machine's steps, and its result.
use Rattle.std.proofs.Common.{◌≡◌, ◌∙◌, ◌+◌, ◌<◌, ◌≤◌, ℕ, suc, List, [], ◌∷◌, ◌++◌, Bool, false, Option, refl, sym, ap, subst}
use Rattle.std.proofs.Common.{arith, append_assoc}
use Rattle.std.proofs.lemmas.List.Elements.{All-append, All-nil}
use Rattle.std.specs.Prelude.{All}
use Rattle.std.specs.Io.KnownBytes.{append_known, prepend_known}
use Rattle.std.proofs.lemmas.Grind.{common_steps}
use Rattle.rb_io.proofs.Printing.{append_known-append}
use Rattle.rv_code.specs.machine.DeterminedRuns.{HasOneOutcome, IsDetermined, IsStop}
use Rattle.rv_code.specs.machine.Machine.{Event, events, output, Outcome, Ended, Halts, SoFar, starts, more}
use Rattle.rv_code.proofs.machine.OnlyRuns.{fewer, more_determined, stop_determines}
use Rattle.run_core.specs.Answers.{Answer}
use Rattle.run_core.specs.Answers as answer
use Rattle.run_core.specs.Inputs.{AreSomeBytes, Outside, as_told, MayCome, IsRightly}
use Rattle.run_core.specs.Runs.{MachineRunAnswers, RunsSomeInput, determined_steps, steps_done}
use Rattle.run_core.specs.StepAnswers.{StepAnswers, StepGoes, StepStops, FailsToRead, FailsToWrite, RanOut}
use Rattle.run_core.proofs.Told.{told, told_is, told_may_come, told_before, as_told-prepend, prepend_known-nil}
use Rattle.run_core.proofs.Told.{prepend_known-append, append_known-nil, told_bytes}

pub output-append : (es fs : List Event) → output (es ++ fs) ≡ output es ++ output fs
unfolding output
output-append [] fs = refl
output-append (e ∷ es) fs = grind (arith, common_steps, append_assoc, output-append es fs)

pub output-nil : output [] ≡ []
unfolding output
output-nil = refl

module _ {M S C : Type 0} (state_of : M → List ℕ → S) (step : S → Outcome S C → Type 0) (old : M) (before : Outside) where
  -- n steps reach this machine, with this input before them and this rest of it after them.
  pub record Came (now : M) (input rest : List ℕ) (n : ℕ) (after : Outside) : Type 0 where
    pub trace : List Event
    pub so_far : SoFar step (state_of old input) n trace (state_of now rest)
    pub determined : IsDetermined step (state_of old input) n
    pub taken_is : after.output.taken ≡ append_known before.output.taken (output trace)

  -- n steps read some bytes and reach this machine, whatever comes after the bytes.
  pub record Walk (now : M) (ended : Bool) (n : ℕ) (after : Outside) : Type 0 where
    pub read : List ℕ
    pub bytes : All (λ b. b < 256) read
    pub came : (rest : List ℕ) → MayCome ended rest → Came now (read ++ rest) rest n after
    pub read_is : before.input.left ≡ prepend_known read after.input.left
    pub end_is : IsRightly ended after.input.left

  pub not_ended : (ended : Bool) → ended ≡ false → (left : Option (List ℕ)) → IsRightly ended left
  not_ended ended none left = λ e. absurd (cc)

  -- No step was done yet.
  abbrev pub no_step : (ended : Bool) → ended ≡ false → Walk old ended 0 before
  no_step ended none = record {
    read = [];
    bytes = All-nil (λ b. b < 256);
    came = λ rest may. record {
      trace = [];
      so_far = starts;
      determined = record { one_outcome = λ k below. absurd (omega arith) };
      taken_is = rw output-nil (append_known-nil before.output.taken);
    };
    read_is = prepend_known-nil before.input.left;
    end_is = not_ended ended none before.input.left;
  }

  module _ (mid : M) (ended : Bool) (n : ℕ) (between : Outside) (walk : Walk mid ended n between)
      (one : (bytes : List ℕ) → HasOneOutcome step (state_of mid bytes)) where
    pub determined_further : (rest : List ℕ) → MayCome ended rest → IsDetermined step (state_of old (walk.read ++ rest)) (n + 1)
    determined_further rest may = grind (arith, common_steps, more_determined)

    pub next_is : suc n ≡ n + 1
    next_is = omega arith

    pub may_before : (new : M) (ends : Bool) (after : Outside) (goes : StepGoes state_of step mid new ended ends between after)
        (rest : List ℕ) → MayCome ends rest → MayCome ended (goes.read ++ rest)
    may_before new ends after goes rest may = λ e. let kept = goes.end_kept e in rw (kept.1) (may kept.0)

    -- One more step.
    abbrev pub step_more : (new : M) (ends : Bool) (after : Outside) → StepGoes state_of step mid new ended ends between after →
        Walk new ends (n + 1) after
    step_more new ends after goes = record {
      read = walk.read ++ goes.read;
      bytes = All-append (λ b. b < 256) walk.read goes.read walk.bytes goes.bytes;
      came = λ rest may.
          let c = walk.came (goes.read ++ rest) (may_before new ends after goes rest may) in
          let g = goes.goes_on rest may in
          let far : SoFar step (state_of old (walk.read ++ (goes.read ++ rest))) (n + 1)
          (c.trace ++ events g.event) (state_of new rest) =
          subst (λ k. SoFar step (state_of old (walk.read ++ (goes.read ++ rest))) k (c.trace ++ events g.event)
          (state_of new rest)) next_is (more g.event c.so_far g.comes_to) in
          record {
            trace = c.trace ++ events g.event;
            so_far = subst (λ xs. SoFar step (state_of old xs) (n + 1) (c.trace ++ events g.event) (state_of new rest))
                (sym (append_assoc walk.read goes.read rest)) far;
            determined = subst (λ xs. IsDetermined step (state_of old xs) (n + 1)) (sym (append_assoc walk.read goes.read rest))
                (determined_further (goes.read ++ rest) (may_before new ends after goes rest may));
            taken_is =
                g.taken_is
                ∙ ap (λ known. append_known known (output (events g.event))) c.taken_is
                ∙ append_known-append before.output.taken (output c.trace) (output (events g.event))
                ∙ ap (append_known before.output.taken) (sym (output-append c.trace (events g.event)));
          };
      read_is =
          walk.read_is ∙ ap (prepend_known walk.read) goes.read_is ∙ prepend_known-append walk.read goes.read after.input.left;
      end_is = goes.end_is walk.end_is;
    }

    -- The input up to here, as far as the source is transparent.

    abbrev rest_now : List ℕ
    rest_now = told between.input.left

    abbrev input_now : List ℕ
    input_now = walk.read ++ rest_now

    pub came_now : Came mid input_now rest_now n between
    came_now = walk.came rest_now (told_may_come ended between.input.left walk.end_is)

    pub input_now_is : before.input.left ≡ as_told before.input.left input_now
    input_now_is = told_before before.input.left between.input.left walk.read rest_now walk.read_is (told_is between.input.left)

    pub input_bytes_now : AreSomeBytes before.input.left input_now
    input_bytes_now = told_bytes before.input.left between.input.left walk.read walk.read_is walk.bytes

    pub rest_now_is : between.input.left ≡ as_told before.input.left rest_now
    rest_now_is = grind (arith, common_steps, told_is, as_told-prepend)

    determined_now : IsDetermined step (state_of old input_now) (n + 1)
    determined_now = determined_further rest_now (told_may_come ended between.input.left walk.end_is)

    module _ (new : M) (after : Outside) (limit : ℕ) (below : n < limit) where
      -- With the input up to here the run has this result.
      abbrev runs_now : (a : Answer C) (k : ℕ) → MachineRunAnswers state_of step a limit k old new input_now before after →
          IsDetermined step (state_of old input_now) (determined_steps a limit k) →
          RunsSomeInput state_of step a limit k old new before after
      runs_now a k answers determined = record {
        input = input_now;
        input_is = input_now_is;
        input_bytes = input_bytes_now;
        answers = answers;
        determined = determined;
      }

      -- If the run stops, all steps are deterministic, since there are no more.
      pub determined_by_stop : (o : Outcome S C) → IsStop o → StepStops state_of step o mid new between after →
          IsDetermined step (state_of old input_now) limit
      determined_by_stop o is_stop stops =
          stop_determines step (state_of old input_now) (fewer step (state_of old input_now) (omega arith) determined_now)
          (record { so_far = came_now.so_far; comes_to = stops.comes_to rest_now; is_stop = is_stop }) limit

      abbrev pub ends_run : (status : ℕ) → StepStops state_of step (Ended status) mid new between after →
          RunsSomeInput state_of step (answer.Ended status) limit (n + 1) old new before after
      ends_run status stops = runs_now (answer.Ended status) (n + 1) (
        omega (arith, below),
        record {
          rest = rest_now;
          trace = came_now.trace;
          run = record {
            before = n;
            last = omega arith;
            state = state_of mid rest_now;
            so_far = came_now.so_far;
            ends = stops.comes_to rest_now;
          };
          state_is = sym (stops.state_is rest_now);
          left_is = stops.left_is ∙ rest_now_is;
          taken_is = stops.taken_is ∙ came_now.taken_is;
        },
      ) (determined_by_stop (Ended status) tt stops)

      abbrev pub halts_run : (pc : ℕ) (cause : C) → StepStops state_of step (Halts pc cause) mid new between after →
          RunsSomeInput state_of step (answer.Halted pc cause) limit n old new before after
      halts_run pc cause stops = runs_now (answer.Halted pc cause) n (
        below,
        record {
          rest = rest_now;
          trace = came_now.trace;
          halts = record { state = state_of mid rest_now; so_far = came_now.so_far; halts = stops.comes_to rest_now };
          state_is = sym (stops.state_is rest_now);
          left_is = stops.left_is ∙ rest_now_is;
          taken_is = stops.taken_is ∙ came_now.taken_is;
        },
      ) (determined_by_stop (Halts pc cause) tt stops)

      pub fails_at_read : before.input.faults ≤ between.input.faults → FailsToRead state_of step mid between after →
          RunsSomeInput state_of step answer.ReadFault limit n old new before after
      fails_at_read rise fails = grind (arith, common_steps, came_now, determined_now)

      pub fails_at_write : before.output.faults ≤ between.output.faults → FailsToWrite state_of step mid between after →
          RunsSomeInput state_of step answer.WriteFault limit n old new before after
      fails_at_write rise fails = grind (arith, common_steps, came_now, determined_now)

      pub runs_out : RanOut state_of mid new between after →
          RunsSomeInput state_of step answer.Memory limit n old new before after
      runs_out out = grind (arith, common_steps, came_now, rest_now_is, determined_now)

      -- The next step is the last.
      pub last_step : (ends : Bool) (a : Answer C) → (a ≡ answer.Going → ⊥) → before.input.faults ≤ between.input.faults
          → before.output.faults ≤ between.output.faults
          → StepAnswers state_of step a mid new ended ends between after
          → RunsSomeInput state_of step a limit (steps_done a n) old new before after
      last_step ends answer.Going last reads writes answers = absurd (last refl)
      last_step ends (answer.Ended status) last reads writes answers = ends_run status answers
      last_step ends (answer.Halted pc cause) last reads writes answers = halts_run pc cause answers
      last_step ends answer.ReadFault last reads writes answers = fails_at_read reads answers
      last_step ends answer.WriteFault last reads writes answers = fails_at_write writes answers
      last_step ends answer.Memory last reads writes answers = runs_out answers

  -- The steps are used up.
  abbrev pub steps_up : (now : M) (ended : Bool) (n limit : ℕ) (after : Outside) → Walk now ended n after → n ≡ limit →
      RunsSomeInput state_of step answer.Going limit n old now before after
  steps_up now ended n limit after walk up =
      let rest = told after.input.left in
      let c = walk.came rest (told_may_come ended after.input.left walk.end_is) in
      record {
        input = walk.read ++ rest;
        input_is = told_before before.input.left after.input.left walk.read rest walk.read_is (told_is after.input.left);
        input_bytes = told_bytes before.input.left after.input.left walk.read walk.read_is walk.bytes;
        answers = (
          up,
          record {
            rest = rest;
            trace = c.trace;
            so_far = c.so_far;
            left_is = told_is after.input.left ∙ as_told-prepend before.input.left after.input.left walk.read rest walk.read_is;
            taken_is = c.taken_is;
          },
        );
        determined = subst (IsDetermined step (state_of old (walk.read ++ rest))) up c.determined;
      }

-- What holds for the end of a run and its steps holds for the pair that is returned.
pub ran_is : {E C : Type 0} (answered : E → Answer C) (end' end : E) (steps n : ℕ) (P : E → ℕ → Type 0) → end' ≡ end →
    steps ≡ steps_done (answered end) n → P end (steps_done (answered end) n) → P end' steps
ran_is answered end' end steps n P end_is steps_are holds = grind (arith, common_steps)

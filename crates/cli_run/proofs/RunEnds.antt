-- From the results of a machine's run and of the closing line to the answers of a run.
use Rattle.std.proofs.Common.{◌≡◌, ◌∙◌, refl, sym, ap, subst, ℕ, ◌≤◌, ◌⊎◌, inl, inr, ⊎_elim, List, [], Some, arith}
use Rattle.std.specs.Prelude.{unwrap_or}
use Rattle.std.specs.Io.KnownBytes.{append_known}
use Rattle.rb_io.specs.FaultCounts.{Rose}
use Rattle.rb_io.specs.TakenText.{TakesAll, TakesPrefix}
use Rattle.rb_io.specs.Views.{SinkSeen}
use Rattle.rv_code.specs.machine.Machine.{State, Event, output, SoFar, starts, Run, HaltsAfter}
use Rattle.run_core.specs.Answers.{Answer}
use Rattle.run_core.specs.Answers as end
use Rattle.run_core.specs.Inputs.{AreSomeBytes, Outside, as_told}
use Rattle.run_core.specs.Runs.{RunsSomeInput, StateRunsTo, IsInterrupted}
use Rattle.run_core.specs.StepAnswers.{GivesOutput}
use Rattle.run_core.proofs.OnlyAnswers.{IsAnswered, only_answer}
use Rattle.run_core.proofs.Told.{told, told_is, none_told, append_known-nil}
use Rattle.cli_base.specs.Printing.{all_printed, prefix_printed, none_printed}
use Rattle.cli_run.specs.run.RunAnswers.{Taking, ComesOut, StopsAnywhere, AnswersRun, StopsRun, came_out, at_input, at_output, at_closing}
use Rattle.cli_run.specs.run.RunAnswers.{out_of_memory, stopped, IsCutShort, read_fault, write_fault, no_memory, IsAnsweredRun, IsExact}
use Rattle.cli_run.specs.run.Phases.{SaysEnding, Closed, status_of}
use Rattle.cli_run.specs.run.RunOutcomes.{Ending, Ends, HaltsAt, RunsOn, Loaded, answer_of, closing_line, RunsTo}
use Rattle.cli_base.specs.declared.status.Status.{Status}
use Rattle.cli_base.specs.declared.status.Status.TheVariants as status
use Rattle.cli_base.proofs.FaultCounts.{rose_after, rose_before}

-- no step was done
no_step : {V X C : Type 0} (machine : Loaded V X C) (limit : ℕ) (now : Outside) →
    ((input : List ℕ) → (machine.start input).input ≡ input) → StopsAnywhere machine limit now now
unfolding output
no_step machine limit now keeps =
    let input = told now.input.left in
    record {
      input = input;
      input_is = told_is now.input.left;
      input_bytes = none_told now.input.left;
      steps = 0;
      trace = [];
      state = machine.start input;
      so_far = starts;
      fits = (
        omega arith,
        append_known-nil now.output.taken,
        told_is now.input.left ∙ ap (as_told now.input.left) (sym (keeps input)),
      );
    }

-- a run that didn't start, since memory ran out
pub unstarted : {V X C : Type 0} (machine : Loaded V X C) (limit : ℕ) (now : Outside) →
    ((input : List ℕ) → (machine.start input).input ≡ input) → IsAnsweredRun machine limit now now status.NoMemory
unstarted machine limit now keeps = record {
  answers = stopped (out_of_memory refl (no_step machine limit now keeps));
  exact = λ input is ending n trace rest run. inr (no_memory refl);
}

-- The answer that reports that the machine halted has a line.
abbrev pub SaysHalts : {C : Type 0} → (ℕ → C → Status) → Type 0
SaysHalts {C} halted = (pc : ℕ) (cause : C) (result : Status) (steps : ℕ) (before after : SinkSeen) →
    Closed result steps before after (halted pc cause) → SaysEnding result steps before after (halted pc cause)

-- the machine's answer for the result of a run
abbrev pub step_answer : {C : Type 0} → Ending C → Answer C
step_answer (Ends value) = end.Ended value
step_answer (HaltsAt pc cause) = end.Halted pc cause
step_answer RunsOn = end.Going

-- A machine M represents the state that `state_of` gives. Its run and the closing line: `mid` is the world between them.
module _ {M V X C : Type 0} (state_of : M → List ℕ → State V X) (machine : Loaded V X C) (limit : ℕ) (old new : M) (steps : ℕ)
    (before mid after : Outside)
    (loaded : (input : List ℕ) → state_of old input ≡ machine.start input)
    (keeps : (input : List ℕ) → (state_of new input).input ≡ input) (halts : SaysHalts machine.halted)
    (left_same : after.input.left ≡ mid.input.left) (reads_same : after.input.faults ≡ mid.input.faults)
    (writes_rise : before.output.faults ≤ mid.output.faults) (writes_last : mid.output.faults ≤ after.output.faults) where
  -- the run has this result
  pub record Came (ending : Ending C) : Type 0 where
    pub input : List ℕ
    pub input_is : before.input.left ≡ as_told before.input.left input
    pub input_bytes : AreSomeBytes before.input.left input
    pub trace : List Event
    pub rest : List ℕ
    pub runs : RunsTo machine input limit ending steps trace rest
    pub left_is : mid.input.left ≡ as_told before.input.left rest
    pub taken_is : mid.output.taken ≡ append_known before.output.taken (output trace)

  pub from_start : (input : List ℕ) (trace : List Event) (state : State V X) →
      SoFar machine.step (state_of old input) steps trace state → SoFar machine.step (machine.start input) steps trace state
  from_start input trace state so_far = subst (λ s. SoFar machine.step s steps trace state) (loaded input) so_far

  abbrev pub came_on : RunsSomeInput state_of machine.step end.Going limit steps old new before mid → Came RunsOn
  came_on ran =
      let r = ran.answers.1 in
      record {
        input = ran.input;
        input_is = ran.input_is;
        input_bytes = ran.input_bytes;
        trace = r.trace;
        rest = r.rest;
        runs =
            (ran.answers.0, (state_of new r.rest, (from_start ran.input r.trace (state_of new r.rest) r.so_far, keeps r.rest)));
        left_is = r.left_is;
        taken_is = r.taken_is;
      }

  abbrev pub came_ended : (value : ℕ) →
      RunsSomeInput state_of machine.step (end.Ended value) limit steps old new before mid → Came (Ends value)
  came_ended value ran =
      let r = ran.answers.1 in
      record {
        input = ran.input;
        input_is = ran.input_is;
        input_bytes = ran.input_bytes;
        trace = r.trace;
        rest = r.rest;
        runs = (
          ran.answers.0,
          subst (λ s. (run : Run machine.step s steps r.trace value) × (run.state.input ≡ r.rest)) (loaded ran.input)
              (r.run, ap (λ s. s.input) r.state_is ∙ keeps r.rest),
        );
        left_is = r.left_is;
        taken_is = r.taken_is;
      }

  abbrev pub came_halted : (pc : ℕ) (cause : C) →
      RunsSomeInput state_of machine.step (end.Halted pc cause) limit steps old new before mid → Came (HaltsAt pc cause)
  came_halted pc cause ran =
      let r = ran.answers.1 in
      record {
        input = ran.input;
        input_is = ran.input_is;
        input_bytes = ran.input_bytes;
        trace = r.trace;
        rest = r.rest;
        runs = (
          ran.answers.0,
          subst (λ s. (run : HaltsAfter machine.step s steps r.trace pc cause) × (run.state.input ≡ r.rest)) (loaded ran.input)
              (r.halts, ap (λ s. s.input) r.state_is ∙ keeps r.rest),
        );
        left_is = r.left_is;
        taken_is = r.taken_is;
      }

  abbrev pub comes_out : (Takes : Taking) (ending : Ending C) →
      Takes mid.output.taken after.output.taken (closing_line (answer_of machine ending) steps) → Came ending →
      ComesOut machine limit before after Takes ending
  comes_out Takes ending line came = record {
    input = came.input;
    input_is = came.input_is;
    input_bytes = came.input_bytes;
    steps = steps;
    trace = came.trace;
    rest = came.rest;
    runs = came.runs;
    line = subst (λ o. Takes o after.output.taken (closing_line (answer_of machine ending) steps)) came.taken_is line;
    left_is = left_same ∙ came.left_is;
  }

  -- the closing line wasn't printed
  pub unclosed : after.output.taken ≡ mid.output.taken → (ending : Ending C) → Came ending →
      StopsAnywhere machine limit before after
  unclosed same (Ends value) came = record {
    input = came.input;
    input_is = came.input_is;
    input_bytes = came.input_bytes;
    steps = came.runs.1.0.before;
    trace = came.trace;
    state = came.runs.1.0.state;
    so_far = came.runs.1.0.so_far;
    fits = (
      omega (arith, came.runs.0, came.runs.1.0.last),
      same ∙ came.taken_is,
      left_same ∙ came.left_is ∙ ap (as_told before.input.left) (sym came.runs.1.1),
    );
  }
  unclosed same (HaltsAt pc cause) came = record {
    input = came.input;
    input_is = came.input_is;
    input_bytes = came.input_bytes;
    steps = steps;
    trace = came.trace;
    state = came.runs.1.0.state;
    so_far = came.runs.1.0.so_far;
    fits = (
      omega (arith, came.runs.0),
      same ∙ came.taken_is,
      left_same ∙ came.left_is ∙ ap (as_told before.input.left) (sym came.runs.1.1),
    );
  }
  unclosed same RunsOn came = record {
    input = came.input;
    input_is = came.input_is;
    input_bytes = came.input_bytes;
    steps = steps;
    trace = came.trace;
    state = came.runs.1.0;
    so_far = came.runs.1.1.0;
    fits = (
      omega (arith, came.runs.0),
      same ∙ came.taken_is,
      left_same ∙ came.left_is ∙ ap (as_told before.input.left) (sym came.runs.1.1.1),
    );
  }

  closed : (answer : Status) (ending : Ending C) → Came ending →
      SaysEnding answer steps mid.output after.output (answer_of machine ending) → AnswersRun machine limit before after answer
  closed answer ending came (all_printed is taken) = came_out ending is (comes_out TakesAll ending taken came)
  closed answer ending came (prefix_printed is rose taken) =
      at_closing is (rose_after _ _ _ writes_rise rose) ending (comes_out TakesPrefix ending taken came)
  closed answer ending came (none_printed is same) = stopped (out_of_memory is (unclosed same ending came))

  -- a read or write error, or running out of memory, after which nothing was printed
  pub stops : (a : Answer C) (answer : Status) → IsInterrupted a
      → RunsSomeInput state_of machine.step a limit steps old new before mid → answer ≡ status_of machine.halted a
      → after.output.taken ≡ mid.output.taken → StopsRun machine limit before after answer
  stops end.ReadFault answer fault ran is same =
      let r = ran.answers.1 in
      at_input is (subst (λ n. Rose before.input.faults n) (sym reads_same) r.cause) (record {
        input = ran.input;
        input_is = ran.input_is;
        input_bytes = ran.input_bytes;
        steps = steps;
        trace = r.trace;
        state = r.state;
        so_far = from_start ran.input r.trace r.state r.so_far;
        fits = (ran.answers.0, same ∙ r.taken_is, r.asks);
      })
  stops end.WriteFault answer fault ran is same =
      let r = ran.answers.1 in
      at_output is (rose_before _ _ _ writes_last r.cause) (record {
        input = ran.input;
        input_is = ran.input_is;
        input_bytes = ran.input_bytes;
        steps = steps;
        trace = r.trace;
        state = r.state;
        so_far = from_start ran.input r.trace r.state r.so_far;
        fits = (
          ran.answers.0,
          subst (λ o. GivesOutput machine.step (append_known before.output.taken (output r.trace)) o r.state) (sym same) r.gives,
        );
      })
  stops end.Memory answer fault ran is same =
      let r = ran.answers.1 in
      let below = ran.answers.0 in
      out_of_memory is (record {
        input = ran.input;
        input_is = ran.input_is;
        input_bytes = ran.input_bytes;
        steps = steps;
        trace = r.trace;
        state = state_of new r.rest;
        so_far = from_start ran.input r.trace (state_of new r.rest) r.so_far;
        fits = (
          omega (arith, below),
          same ∙ r.taken_is,
          left_same ∙ r.left_is ∙ ap (as_told before.input.left) (sym (keeps r.rest)),
        );
      })
  stops _ answer fault ran is same = absurd fault

  answers : (a : Answer C) (answer : Status) → RunsSomeInput state_of machine.step a limit steps old new before mid →
      Closed answer steps mid.output after.output (status_of machine.halted a) → AnswersRun machine limit before after answer
  answers end.Going answer ran printed = closed answer RunsOn (came_on ran) printed
  answers (end.Ended value) answer ran printed = closed answer (Ends value) (came_ended value ran) printed
  answers (end.Halted pc cause) answer ran printed =
      closed answer (HaltsAt pc cause) (came_halted pc cause ran) (halts pc cause answer steps mid.output after.output printed)
  answers end.ReadFault answer ran printed = stopped (stops end.ReadFault answer tt ran printed.0 printed.1)
  answers end.WriteFault answer ran printed = stopped (stops end.WriteFault answer tt ran printed.0 printed.1)
  answers end.Memory answer ran printed = stopped (stops end.Memory answer tt ran printed.0 printed.1)

  as_steps : (input : List ℕ) (ending : Ending C) (n : ℕ) (trace : List Event) (rest : List ℕ) →
      RunsTo machine input limit ending n trace rest →
      StateRunsTo machine.step (step_answer ending) limit n (state_of old input) trace
  as_steps input (Ends value) n trace rest run =
      (run.0, subst (λ s. Run machine.step s n trace value) (sym (loaded input)) run.1.0)
  as_steps input (HaltsAt pc cause) n trace rest run =
      (run.0, subst (λ s. HaltsAfter machine.step s n trace pc cause) (sym (loaded input)) run.1.0)
  as_steps input RunsOn n trace rest run =
      (run.0, run.1.0, subst (λ s. SoFar machine.step s n trace run.1.0) (sym (loaded input)) run.1.1.0)

  abbrev pub SaysSo : Status → Ending C → Type 0
  SaysSo answer ending = (answer ≡ answer_of machine ending) ⊎ IsCutShort answer

  line_says : (answer : Status) (ending : Ending C) →
      SaysEnding answer steps mid.output after.output (answer_of machine ending) → SaysSo answer ending
  line_says answer ending (all_printed is taken) = inl is
  line_says answer ending (prefix_printed is rose taken) = inr (write_fault is)
  line_says answer ending (none_printed is same) = inr (no_memory is)

  closed_says : (answer : Status) (ending : Ending C) →
      Closed answer steps mid.output after.output (status_of machine.halted (step_answer ending)) → SaysSo answer ending
  closed_says answer (Ends value) printed = line_says answer (Ends value) printed
  closed_says answer (HaltsAt pc cause) printed =
      line_says answer (HaltsAt pc cause) (halts pc cause answer steps mid.output after.output printed)
  closed_says answer RunsOn printed = line_says answer RunsOn printed

  cut_short : (a : Answer C) (answer : Status) → IsInterrupted a →
      Closed answer steps mid.output after.output (status_of machine.halted a) → IsCutShort answer
  cut_short end.ReadFault answer fault printed = read_fault printed.0
  cut_short end.WriteFault answer fault printed = write_fault printed.0
  cut_short end.Memory answer fault printed = no_memory printed.0
  cut_short _ answer fault printed = absurd fault

  same_input : (given input : List ℕ) → before.input.left ≡ as_told before.input.left given →
      before.input.left ≡ Some input → given ≡ input
  same_input given input is told_so = ap (λ o. unwrap_or o given) (sym (ap (λ o. as_told o given) told_so) ∙ sym is ∙ told_so)

  -- the answer is unique, if it is the result of the run
  pub only : (a : Answer C) (answer : Status) → RunsSomeInput state_of machine.step a limit steps old new before mid
      → (IsInterrupted a → IsCutShort answer)
      → ((ending : Ending C) → a ≡ step_answer ending → SaysSo answer ending) → IsExact machine limit before.input.left answer
  only a answer ran cut says input is ending n trace rest run =
      let same : ran.input ≡ input = same_input ran.input input ran.input_is is in
      let steps_to : StateRunsTo machine.step (step_answer ending) limit n (state_of old ran.input) trace =
      subst (λ xs. StateRunsTo machine.step (step_answer ending) limit n (state_of old xs) trace) (sym same)
      (as_steps input ending n trace rest run) in
      ⊎_elim
      (λ (fault : IsInterrupted a). inr (cut fault))
      (λ (so : IsAnswered state_of machine.step old new ran.input limit steps before mid a (step_answer ending) n trace).
      says ending so.end_is)
      (only_answer state_of machine.step old new ran.input limit steps before mid a ran.answers ran.determined
      (step_answer ending) n trace steps_to)

  exact : (a : Answer C) (answer : Status) → RunsSomeInput state_of machine.step a limit steps old new before mid →
      Closed answer steps mid.output after.output (status_of machine.halted a) → IsExact machine limit before.input.left answer
  exact a answer ran printed =
      only a answer ran (λ fault. cut_short a answer fault printed)
      (λ ending same. closed_says answer ending
      (subst (λ e. Closed answer steps mid.output after.output (status_of machine.halted e)) same printed))

  pub answered : (a : Answer C) (answer : Status) → RunsSomeInput state_of machine.step a limit steps old new before mid →
      Closed answer steps mid.output after.output (status_of machine.halted a) → IsAnsweredRun machine limit before after answer
  answered a answer ran printed = record { answers = answers a answer ran printed; exact = exact a answer ran printed }

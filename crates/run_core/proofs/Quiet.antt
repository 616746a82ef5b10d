-- Results of steps that neither read input nor write output.
use Rattle.std.proofs.Common.{◌≡◌, ℕ, List, [], ◌++◌, Option, Some, None, Bool, refl, sym, arith}
use Rattle.std.specs.Prelude.{◌<◌}
use Rattle.std.proofs.lemmas.List.Elements.{All-nil}
use Rattle.std.specs.Io.KnownBytes.{append_known}
use Rattle.std.proofs.lemmas.Grind.{common_steps}
use Rattle.rv_code.specs.machine.Machine.{State, Event, events, output, Outcome, Going, Ended, Halts}
use Rattle.run_core.specs.Answers.{Answer}
use Rattle.run_core.specs.Answers as answer
use Rattle.run_core.specs.Inputs.{Outside}
use Rattle.run_core.specs.States.{MovesNothing, Becomes}
use Rattle.run_core.specs.StepAnswers.{StepAnswers}
use Rattle.run_core.proofs.SameStates.{same_state}
use Rattle.run_core.proofs.Told.{append_known-nil, prepend_known-nil}

quiet_output : (e : Option Event) → MovesNothing e → (known : Option (List ℕ)) → known ≡ append_known known (output (events e))
unfolding output
quiet_output None quiet known = append_known-nil known
quiet_output (Some e) quiet known = grind (arith, common_steps, append_known-nil)

module _ {M V X C : Type 0} (state_of : M → List ℕ → State V X) where
  module _ (step : State V X → Outcome (State V X) C → Type 0) (old new : M) where
    record GoesQuietly (s : State V X) (input : List ℕ) : Type 0 where
      event : Option Event
      quiet : MovesNothing event
      comes_to : step s (Going (state_of new input) event)

    goes : (s : State V X) (o : Outcome (State V X) C) (input : List ℕ) → step s o →
        Becomes state_of o answer.Going old new input → GoesQuietly s input
    goes s (Going t e) input steps becomes = grind (arith, common_steps, same_state)
    goes s (Ended n) input steps becomes = absurd becomes
    goes s (Halts pc cause) input steps becomes = absurd becomes

    ends : (s : State V X) (o : Outcome (State V X) C) (status : ℕ) (input : List ℕ) → step s o →
        Becomes state_of o (answer.Ended status) old new input → step s (Ended status) × (state_of new input ≡ state_of old input)
    ends s (Going t e) status input steps becomes = absurd becomes
    ends s (Ended n) status input steps becomes = grind (arith, common_steps, same_state)
    ends s (Halts pc cause) status input steps becomes = absurd becomes

    halts : (s : State V X) (o : Outcome (State V X) C) (pc : ℕ) (cause : C) (input : List ℕ) → step s o →
        Becomes state_of o (answer.Halted pc cause) old new input →
        step s (Halts pc cause) × (state_of new input ≡ state_of old input)
    halts s (Going t e) pc cause input steps becomes = absurd becomes
    halts s (Ended n) pc cause input steps becomes = absurd becomes
    halts s (Halts at why) pc cause input steps becomes = grind (arith, common_steps, same_state)

    ran_out : (o : Outcome (State V X) C) (input : List ℕ) → Becomes state_of o answer.Memory old new input →
        state_of new input ≡ state_of old input
    ran_out (Going t e) input becomes = sym (same_state (state_of old input) (state_of new input) becomes)
    ran_out (Ended n) input becomes = sym (same_state (state_of old input) (state_of new input) becomes)
    ran_out (Halts pc cause) input becomes = sym (same_state (state_of old input) (state_of new input) becomes)

    no_read : (o : Outcome (State V X) C) (input : List ℕ) → Becomes state_of o answer.ReadFault old new input → ⊥
    no_read (Going t e) input becomes = becomes
    no_read (Ended n) input becomes = becomes
    no_read (Halts pc cause) input becomes = becomes

    no_write : (o : Outcome (State V X) C) (input : List ℕ) → Becomes state_of o answer.WriteFault old new input → ⊥
    no_write (Going t e) input becomes = becomes
    no_write (Ended n) input becomes = becomes
    no_write (Halts pc cause) input becomes = becomes

    -- A step without input or output, while source and sink don't change.
    pub quiet_answers : (effect : State V X → Outcome (State V X) C) (a : Answer C) (ended : Bool) (outside : Outside)
        → ((input : List ℕ) → step (state_of old input) (effect (state_of old input)))
        → ((input : List ℕ) → Becomes state_of (effect (state_of old input)) a old new input)
        → StepAnswers state_of step a old new ended ended outside outside
    quiet_answers effect answer.Going ended outside steps becomes = record {
      read = [];
      bytes = All-nil (λ b. b < 256);
      goes_on = λ rest may.
          let went = goes (state_of old rest) (effect (state_of old rest)) rest (steps rest) (becomes rest) in
          record {
            event = went.event;
            comes_to = went.comes_to;
            taken_is = quiet_output went.event went.quiet outside.output.taken;
          };
      read_is = prepend_known-nil outside.input.left;
      end_kept = λ e. (e, refl);
      end_is = λ rightly. rightly;
    }
    quiet_answers effect (answer.Ended status) ended outside steps becomes = record {
      comes_to = λ input. (ends (state_of old input) (effect (state_of old input)) status input (steps input) (becomes input)).0;
      state_is = λ input. (ends (state_of old input) (effect (state_of old input)) status input (steps input) (becomes input)).1;
      left_is = refl;
      taken_is = refl;
    }
    quiet_answers effect (answer.Halted pc cause) ended outside steps becomes = record {
      comes_to =
          λ input. (halts (state_of old input) (effect (state_of old input)) pc cause input (steps input) (becomes input)).0;
      state_is =
          λ input. (halts (state_of old input) (effect (state_of old input)) pc cause input (steps input) (becomes input)).1;
      left_is = refl;
      taken_is = refl;
    }
    quiet_answers effect answer.ReadFault ended outside steps becomes =
        absurd (no_read (effect (state_of old [])) [] (becomes []))
    quiet_answers effect answer.WriteFault ended outside steps becomes =
        absurd (no_write (effect (state_of old [])) [] (becomes []))
    quiet_answers effect answer.Memory ended outside steps becomes = record {
      state_is = λ input. ran_out (effect (state_of old input)) input (becomes input);
      left_is = refl;
      taken_is = refl;
    }

  -- A result for one relation of steps is one for each relation that it implies.
  module _ (step other : State V X → Outcome (State V X) C → Type 0) (old new : M)
      (implies : (input : List ℕ) (o : Outcome (State V X) C) → step (state_of old input) o → other (state_of old input) o)
      (ended ends : Bool) (before after : Outside) where
    pub answers_by : (a : Answer C) → StepAnswers state_of step a old new ended ends before after →
        StepAnswers state_of other a old new ended ends before after
    answers_by answer.Going a = record {
      read = a.read;
      bytes = a.bytes;
      goes_on = λ rest may.
          let g = a.goes_on rest may in
          record { event = g.event; comes_to = implies (a.read ++ rest) _ g.comes_to; taken_is = g.taken_is };
      read_is = a.read_is;
      end_kept = a.end_kept;
      end_is = a.end_is;
    }
    answers_by (answer.Ended status) a = record {
      comes_to = λ input. implies input _ (a.comes_to input);
      state_is = a.state_is;
      left_is = a.left_is;
      taken_is = a.taken_is;
    }
    answers_by (answer.Halted pc cause) a = record {
      comes_to = λ input. implies input _ (a.comes_to input);
      state_is = a.state_is;
      left_is = a.left_is;
      taken_is = a.taken_is;
    }
    answers_by answer.ReadFault a = record {
      cause = a.cause;
      asks = λ input.
          let asks = a.asks input in
          record {
            next = asks.next;
            event = asks.event;
            address = asks.address;
            count = asks.count;
            comes_to = implies input _ asks.comes_to;
            number_is = asks.number_is;
            used_is = asks.used_is;
            some = asks.some;
          };
      taken_is = a.taken_is;
    }
    answers_by answer.WriteFault a = record {
      cause = a.cause;
      gives = λ input.
          let gives = a.gives input in
          record {
            next = gives.next;
            event = gives.event;
            comes_to = implies input _ gives.comes_to;
            number_is = gives.number_is;
            front = gives.front;
          };
      left_is = a.left_is;
    }
    answers_by answer.Memory a = a

-- The moves of a run, with one more step at a time, and the run's result.
use Rattle.std.proofs.Common.{◌≡◌, ◌∙◌, ◌+◌, ◌<◌, ◌≤◌, ◌^◌, ◌-◌, ℕ, suc, Bool, true, false, List, [], ◌∷◌, ◌++◌, length, refl}
use Rattle.std.proofs.Common.{sym, ap, subst, arith, append_assoc, length-append}
use Rattle.std.specs.Prelude.{◌==◌, ◌&&◌, if◌then◌else◌}
use Rattle.std.proofs.lemmas.List.Sums.{sum_by-cons, sum_by-append}
use Rattle.run_core.specs.Answers.{Answer}
use Rattle.run_core.specs.Answers as answer
use Rattle.run_core.specs.Inputs.{Outside, MayCome}
use Rattle.run_core.specs.Runs.{steps_done}
use Rattle.run_core.specs.StepAnswers.{StepAnswers, StepGoes, StepStops}
use Rattle.run_core.proofs.Told.{as_told-prepend, told, told_before, told_bytes, told_is, told_may_come}
use Rattle.run_core.proofs.Walking.{Walk, ends_run, fails_at_read, fails_at_write, halts_run, may_before, no_step, step_more, steps_up}
use Rattle.rv_code.specs.declared.cause.Cause.{Cause}
use Rattle.rv_code.specs.machine.DeterminedRuns.{HasOneOutcome}
use Rattle.rv_code.specs.machine.Machine.{Ended, Halts}
use Rattle.rv_code.specs.machine.Step.{Steps}
use Rattle.rv_machine.specs.State.{state_of}
use Rattle.rv_machine.specs.declared.machine.Machine.{Machine}
use Rattle.edge_profile.specs.PairCounts.{Counted, count_among, is_pair}
use Rattle.edge_record.specs.Moves.{Move, starts, more}
use Rattle.edge_record.specs.RecordedRuns.{ByteMoves, RecordStops}
use Rattle.edge_record.specs.MoveCounts.{taken_by}
use Rattle.edge_record.specs.WatchedRuns.{IsWatched, WatchesRun}

-- The number of times that a move was made.

abbrev pub once : (Move → Bool) → ℕ → ℕ → Move → ℕ
once counts from to m = if counts m && (m.0 == from && m.1 == to) then 1 else 0

pub taken-more : (counts : Move → Bool) (moves : List Move) (m : Move) (from to : ℕ)
    → taken_by counts (moves ++ m ∷ []) from to ≡ taken_by counts moves from to + once counts from to m
taken-more counts moves m from to =
    let split = sum_by-append (once counts from to) moves (m ∷ []) in
    let last = sum_by-cons (once counts from to) m [] in
    omega (arith, split, last)

at_most_once : (b : Bool) → (if b then 1 else 0) ≤ 1
at_most_once true = omega arith
at_most_once false = omega arith

pub taken-le : (counts : Move → Bool) (moves : List Move) (from to : ℕ) → taken_by counts moves from to ≤ length moves
taken-le counts [] from to = omega arith
taken-le counts (m ∷ moves) from to =
    let first = sum_by-cons (once counts from to) m moves in
    let one = at_most_once (counts m && (m.0 == from && m.1 == to)) in
    let rest = taken-le counts moves from to in
    omega (arith, first, one, rest)

module _ (counts : Move → Bool) (old : Machine) (before : Outside) where
  -- n steps were done for any input after the bytes that they read, and their counted moves are in `said`
  pub record Watch (now : Machine) (ended : Bool) (n : ℕ) (after : Outside) (said : List Counted) : Type 0 where
    pub walk : Walk state_of Steps old before now ended n after
    pub moves : List Move
    pub long : length moves ≡ n
    pub gone : (rest : List ℕ) → MayCome ended rest → ByteMoves (state_of old (walk.read ++ rest)) n moves (state_of now rest)
    pub counts_are : (from to : ℕ) → count_among from to said ≡ taken_by counts moves from to

  pub no_move : (ended : Bool) → ended ≡ false → (said : List Counted) → said ≡ [] → Watch old ended 0 before said
  no_move ended none said nothing = record {
    walk = no_step state_of Steps old before ended none;
    moves = [];
    long = refl;
    gone = λ rest may. starts;
    counts_are = λ from to. ap (count_among from to) nothing;
  }

  -- memory may run out after a walk
  pub stops : (limit : ℕ) (now : Machine) (ended : Bool) (n : ℕ) (after final : Outside)
      → Walk state_of Steps old before now ended n after
      → n ≤ limit → final.input.left ≡ after.input.left → final.output.taken ≡ after.output.taken
      → RecordStops (state_of old) limit before final
  stops limit now ended n after final walk within left taken =
      let rest = told after.input.left in
      let c = walk.came rest (told_may_come ended after.input.left walk.end_is) in
      record {
        input = walk.read ++ rest;
        input_is = told_before before.input.left after.input.left walk.read rest walk.read_is (told_is after.input.left);
        input_bytes = told_bytes before.input.left after.input.left walk.read walk.read_is walk.bytes;
        steps = n;
        within = within;
        trace = c.trace;
        state = state_of now rest;
        so_far = c.so_far;
        left_is =
            left ∙ told_is after.input.left ∙ as_told-prepend before.input.left after.input.left walk.read rest walk.read_is;
        taken_is = taken ∙ c.taken_is;
      }

  module _ (mid : Machine) (ended : Bool) (n : ℕ) (between : Outside) (said : List Counted)
      (watch : Watch mid ended n between said)
      (one : (bytes : List ℕ) → HasOneOutcome Steps (state_of mid bytes)) where
    -- a count is below the number of steps
    pub few : (from to limit : ℕ) → n < limit → limit < 2 ^ 64 → count_among from to said < 2 ^ 64 - 1
    few from to limit below fits =
        let is = watch.counts_are from to in
        let most = taken-le counts watch.moves from to in
        omega (arith, is, most, watch.long)

    module _ (new : Machine) (ends : Bool) (after : Outside)
        (goes : StepGoes state_of Steps mid new ended ends between after) where
      abbrev pub walk_more : Walk state_of Steps old before new ends (n + 1) after
      walk_more = step_more state_of Steps old before mid ended n between watch.walk one new ends after goes

      -- one more step, whose move was noted
      pub move_more : (from to : ℕ) (noted : List Counted) → from ≡ mid.pc → to ≡ new.pc
          → ((x y : ℕ)
          → count_among x y noted ≡ count_among x y said + (if counts (from, to) && is_pair x y (from, to, 1) then 1 else 0))
          → Watch new ends (n + 1) after noted
      move_more from to noted from_is to_is counted = record {
        walk = walk_more;
        moves = watch.moves ++ (mid.pc, new.pc) ∷ [];
        long = let split = length-append watch.moves ((mid.pc, new.pc) ∷ []) in omega (arith, split, watch.long);
        gone = λ rest may.
            let earlier = watch.gone (goes.read ++ rest)
            (may_before state_of Steps old before mid ended n between watch.walk one new ends after goes rest may) in
            let g = goes.goes_on rest may in
            let far : ByteMoves (state_of old (watch.walk.read ++ (goes.read ++ rest))) (suc n)
            (watch.moves ++ (mid.pc, new.pc) ∷ []) (state_of new rest)
            = more g.event earlier g.comes_to in
            let next : suc n ≡ n + 1 = omega arith in
            subst (λ k. ByteMoves (state_of old ((watch.walk.read ++ goes.read) ++ rest)) k (watch.moves ++ (mid.pc, new.pc) ∷ [])
            (state_of new rest)) next
            (subst (λ xs. ByteMoves (state_of old xs) (suc n) (watch.moves ++ (mid.pc, new.pc) ∷ []) (state_of new rest))
            (sym (append_assoc watch.walk.read goes.read rest)) far);
        counts_are = λ x y.
            let last : (if counts (from, to) && is_pair x y (from, to, 1) then 1 else 0) ≡ once counts x y (mid.pc, new.pc)
            = (λ i. once counts x y (from_is i, to_is i)) in
            let all = taken-more counts watch.moves (mid.pc, new.pc) x y in
            omega (arith, counted x y, watch.counts_are x y, last, all);
      }

    module _ (new : Machine) (after : Outside) (limit : ℕ) (below : n < limit) where
      -- the next step ends
      pub ends_watch : (status : ℕ) → StepStops state_of Steps (Ended status) mid new between after
          → IsWatched counts old new limit (n + 1) before after said (answer.Ended status)
      ends_watch status stops = record {
        runs = ends_run state_of Steps old before mid ended n between watch.walk one new after limit below status stops;
        moves = watch.moves;
        few = omega (arith, watch.long);
        state = state_of mid (told between.input.left);
        gone =
            let rest = told between.input.left in
            let same : n ≡ n + 1 - 1 = omega arith in
            subst (λ k. ByteMoves (state_of old (watch.walk.read ++ rest)) k watch.moves (state_of mid rest)) same
            (watch.gone rest (told_may_come ended between.input.left watch.walk.end_is));
        counts_are = watch.counts_are;
      }

      -- the next step traps
      pub halts_watch : (pc : ℕ) (cause : Cause) → StepStops state_of Steps (Halts pc cause) mid new between after
          → IsWatched counts old new limit n before after said (answer.Halted pc cause)
      halts_watch pc cause stops = record {
        runs = halts_run state_of Steps old before mid ended n between watch.walk one new after limit below pc cause stops;
        moves = watch.moves;
        few = omega (arith, watch.long);
        state = state_of mid (told between.input.left);
        gone = watch.gone (told between.input.left) (told_may_come ended between.input.left watch.walk.end_is);
        counts_are = watch.counts_are;
      }

      -- the next step is the last one
      pub last_watch : (ends : Bool) (end : Answer Cause) → (end ≡ answer.Going → ⊥) → before.input.faults ≤ between.input.faults
          → before.output.faults ≤ between.output.faults → StepAnswers state_of Steps end mid new ended ends between after
          → WatchesRun counts old new limit (steps_done end n) before after said end
      last_watch ends answer.Going last reads writes answers = absurd (last refl)
      last_watch ends (answer.Ended status) last reads writes answers = ends_watch status answers
      last_watch ends (answer.Halted pc cause) last reads writes answers = halts_watch pc cause answers
      last_watch ends answer.ReadFault last reads writes answers =
          fails_at_read state_of Steps old before mid ended n between watch.walk one new after limit below reads answers
      last_watch ends answer.WriteFault last reads writes answers =
          fails_at_write state_of Steps old before mid ended n between watch.walk one new after limit below writes answers
      last_watch ends answer.Memory last reads writes answers =
          stops limit mid ended n between after watch.walk (omega (arith, below)) answers.left_is answers.taken_is

  -- the limit of steps was reached
  pub watch_up : (now : Machine) (ended : Bool) (n limit : ℕ) (after : Outside) (said : List Counted)
      → Watch now ended n after said → n ≡ limit → IsWatched counts old now limit n before after said answer.Going
  watch_up now ended n limit after said watch up = record {
    runs = steps_up state_of Steps old before now ended n limit after watch.walk up;
    moves = watch.moves;
    few = omega (arith, watch.long);
    state = state_of now (told after.input.left);
    gone = watch.gone (told after.input.left) (told_may_come ended after.input.left watch.walk.end_is);
    counts_are = watch.counts_are;
  }

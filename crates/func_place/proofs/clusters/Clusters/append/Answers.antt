use Rattle.std.proofs.Common.{ℕ, ◌<◌, length, ◌≡◌, ◌∙◌, sym, refl}
use Rattle.std.specs.Prelude.{slice_index, slice_index_or}
use Rattle.std.proofs.lemmas.List.{get_or_read}
use Rattle.func_place.specs.declared.clusters.Clusters.{Clusters}
use Rattle.func_place.specs.internal.ClusterState.{state_of, count_of, size_at, Merges, IsValidState}
use Rattle.func_place.proofs.ClusterMoves.{CanJoin, sound_join, count_join, append_step, stays_large, stays_same}
use Rattle.func_place.proofs.clusters.Clusters.append.Goals as goal
use Rattle.func_place.proofs.clusters.Clusters.append.Goals.{else-first-second-via-then-first-second+else-index-le-NEAR_LIMIT}
use Rattle.func_place.proofs.clusters.Clusters.append.Goals.{else-first-second-via-else-first-second}

-- the size that was read is the size of the unit's cluster
read : (d : Clusters) (number u n : ℕ) → IsValidState (state_of d) → number ≡ slice_index (state_of d).grouping.numbers u →
    number < count_of (state_of d) → n ≡ slice_index_or d.totals.items number n → n ≡ size_at (state_of d) u
read d number u n sound is number_in read_is =
    let inside : number < length d.totals.items = rw sound.totals_len number_in in
    get_or_read d.totals.items number n inside read_is 0 ∙ rw is refl

-- facts after two clusters were joined
record Known (c : goal.In_ok-join) : Type 0 where
  can : CanJoin (state_of c.args.self.now) c.args.caller c.args.unit
  kept : ℕ
  merges : Merges (state_of c.args.self.now) (state_of c.join.new.self) (slice_index (state_of c.args.self.now).grouping.numbers
      c.args.caller) (slice_index (state_of c.args.self.now).grouping.numbers c.args.unit) kept

known : (c : goal.In_ok-join) → Known c
known c =
    let d = c.args.self.now in
    let sound = c.requires.sound in
    let first = c.group_number-first.ensures in
    let second = c.group_number-second.ensures in
    let one = read d c.group_number-first.result c.args.caller c.index.result.now sound first.is first.within c.index.ensures in
    let two = read d c.group_number-second.result c.args.unit c.index-then-first-second.result.now sound second.is second.within
    c.index-then-first-second.ensures in
    record {
      can = record {
        v_in = c.requires.caller_in;
        u_in = c.requires.unit_in;
        apart = rw (← first.is, ← second.is) c.if-first-second.true;
        low = rw (← one, ← two) c.if-index-le-NEAR_LIMIT.true;
      };
      kept = c.in_ok-join.ensures.0;
      merges = rw (← first.is, ← second.is) c.in_ok-join.ensures.1;
    }

pub returns-in_ok-join-clause-len : goal.returns-in_ok-join-clause-len
returns-in_ok-join-clause-len c = count_join c.requires.sound (known c).can (known c).merges

pub returns-in_ok-join-clause-sound : goal.returns-in_ok-join-clause-sound
returns-in_ok-join-clause-sound c = sound_join c.requires.sound (known c).can (known c).merges

pub returns-in_ok-join-clause-keeps : goal.returns-in_ok-join-clause-keeps
returns-in_ok-join-clause-keeps c = append_step c.requires.sound (known c).can (known c).merges

pub returns-else-first-second-clause-keeps : goal.returns-else-first-second-clause-keeps
returns-else-first-second-clause-keeps c =
    let d = c.args.self.now in
    let sound = c.requires.sound in
    let first = c.group_number-first.ensures in
    let second = c.group_number-second.ensures in
    elim c.else-first-second.branch [
      | else-first-second-via-then-first-second+else-index-le-NEAR_LIMIT w ↦
          let one =
          read d c.group_number-first.result c.args.caller w.index.result.now sound first.is first.within w.index.ensures in
          let two = read d c.group_number-second.result c.args.unit w.index-then-first-second.result.now sound second.is
          second.within w.index-then-first-second.ensures in
          stays_large sound c.args.caller c.args.unit c.requires.caller_in c.requires.unit_in
          (rw (← one, ← two) w.if-index-le-NEAR_LIMIT.false)
      | else-first-second-via-else-first-second w ↦
          stays_same sound c.args.caller c.args.unit c.requires.caller_in c.requires.unit_in
          (sym first.is ∙ w.if-first-second.false ∙ second.is)
    ]

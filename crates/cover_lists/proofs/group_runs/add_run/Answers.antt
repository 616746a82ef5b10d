use Rattle.std.proofs.Common.{◌≡◌, ◌+◌, ◌<◌, ◌==◌, ◌++◌, ◌∷◌, [], ℕ, List, sym, subst, arith, length, take, vec_len}
use Rattle.std.specs.Prelude.{slice_index_or}
use Rattle.std.specs.Global.{Vec}
use Rattle.std.specs.List.{list_any}
use Rattle.std.proofs.lemmas.List.{take_more}
use Rattle.answer_runs.specs.declared.run.Run.{Run}
use Rattle.cover_lists.specs.GroupRuns.{AreStretched, runs_in}
use Rattle.cover_lists.proofs.GroupRunFacts.{still_within, stretched_more, stretched_none}
use Rattle.cover_lists.proofs.group_runs.add_run.Goals as goal
use Rattle.cover_lists.proofs.group_runs.add_run.Goals.{then-group-len+in_ok-stretch_group, else-group-len}

pub stretch_group-requires-clause-within : goal.stretch_group-requires-clause-within
stretch_group-requires-clause-within c =
    let old : List (Vec (Run _)) = c.args.lists.now.items in
    let now : List (Vec (Run _)) = c.loop-group.lists.items in
    let h : ℕ = slice_index_or c.args.groups.now c.loop-group.group-index 0 in
    let size : vec_len c.loop-group.lists ≡ length now = omega (arith, c.loop-group.lists.ok.0) in
    let below : h < length old = omega (arith, c.if-group-len.true, c.len.ensures, size, c.loop-group.invariant.count) in
    still_within c.args.start c.args.len c.requires.some (runs_in old h) (runs_in now h) (c.requires.held h below)
    (list_any (λ k. k == h) (take c.loop-group.group-index c.args.groups.now)) (c.loop-group.invariant.each h below)

pub loop-group-preserved : goal.loop-group-preserved
loop-group-preserved c =
    let old = c.args.lists.now.items in
    let now = c.loop-group.lists.items in
    let gs : List ℕ = take c.loop-group.group-index c.args.groups.now in
    let h : ℕ = slice_index_or c.args.groups.now c.loop-group.group-index 0 in
    let more : gs ++ h ∷ [] ≡ take (c.loop-group.group-index + 1) c.args.groups.now =
    sym (take_more c.args.groups.now c.loop-group.group-index 0 c.loop-group-test.true) in
    let size : vec_len c.loop-group.lists ≡ length now = omega (arith, c.loop-group.lists.ok.0) in
    subst (λ (l : List ℕ). AreStretched l c.args.start c.args.len old c.if-group-len.lists.items) more (elim c.if-group-len.branch [
      | then-group-len+in_ok-stretch_group w ↦
          rw w.lists-is
          (stretched_more gs h c.args.start c.args.len old now w.stretch_group.new.lists.items c.requires.some c.requires.held
          c.loop-group.invariant
          w.in_ok-stretch_group.ensures.count w.in_ok-stretch_group.ensures.others w.in_ok-stretch_group.ensures.kept
          w.in_ok-stretch_group.ensures.more)
      | else-group-len w ↦
          rw w.lists-is
          (stretched_none gs h c.args.start c.args.len old now now c.requires.some c.requires.held c.loop-group.invariant
          (omega (arith, w.if-group-len.false, c.len.ensures, size)))
    ])

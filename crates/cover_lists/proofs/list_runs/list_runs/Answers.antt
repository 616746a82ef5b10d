use Rattle.std.proofs.Common.{◌∙◌, ◌-◌, ◌^◌, ℕ, List, sym, subst, arith, take}
use Rattle.std.specs.Prelude.{slice_index_or}
use Rattle.std.proofs.lemmas.List.{take_more}
use Rattle.answer_runs.specs.declared.run.Run.{Run}
use Rattle.answer_runs.proofs.Grown.{within-up}
use Rattle.cover_lists.specs.GroupRuns.{runs_end}
use Rattle.cover_lists.specs.ListRuns.{IsListRuns, AreCandidates, said_in}
use Rattle.cover_lists.proofs.StretchRuns.{within_at}
use Rattle.cover_lists.proofs.ListRunFacts.{extended_all, list_next}
use Rattle.cover_lists.proofs.list_runs.list_runs.Goals as goal

abbrev none : Run ℕ
none = record { start = 0; len = 0; answer = 0 }

abbrev item : List (Run ℕ) → ℕ → Run ℕ
item ss i = slice_index_or ss i none

pub add_lists-requires-clause-candidates : goal.add_lists-requires-clause-candidates
add_lists-requires-clause-candidates c =
    subst (λ (ns : List ℕ). AreCandidates c.args.lists.now (item c.args.stretches.now c.loop-stretch.stretch-index).answer ns)
    (sym c.deref.ensures.value)
    (c.in_ok-numbers.ensures c.args.lists.now c.requires.finder)

pub add_lists-requires-clause-count : goal.add_lists-requires-clause-count
add_lists-requires-clause-count c = c.loop-stretch.invariant.0

pub add_lists-requires-clause-before : goal.add_lists-requires-clause-before
add_lists-requires-clause-before c = λ n.
    let w = within_at 0 c.args.stretches.now (2 ^ 64 - 1) c.loop-stretch.stretch-index none
    c.requires.within c.loop-stretch-test.true in
    let was = c.loop-stretch.invariant.1 n in
    within-up 0 (said_in c.loop-stretch.runs.items n) (runs_end 0 (take c.loop-stretch.stretch-index c.args.stretches.now))
    (item c.args.stretches.now c.loop-stretch.stretch-index).start
    was.within w.0

pub add_lists-requires-clause-longest : goal.add_lists-requires-clause-longest
add_lists-requires-clause-longest c = λ n. let was = c.loop-stretch.invariant.1 n in was.longest

pub add_lists-requires-clause-some : goal.add_lists-requires-clause-some
add_lists-requires-clause-some c =
    (within_at 0 c.args.stretches.now (2 ^ 64 - 1) c.loop-stretch.stretch-index none
    c.requires.within c.loop-stretch-test.true).1

pub add_lists-requires-clause-fits : goal.add_lists-requires-clause-fits
add_lists-requires-clause-fits c =
    let w = within_at 0 c.args.stretches.now (2 ^ 64 - 1) c.loop-stretch.stretch-index none
    c.requires.within c.loop-stretch-test.true in
    omega (arith, w.2)

pub loop-stretch-preserved : goal.loop-stretch-preserved
loop-stretch-preserved c =
    let w = within_at 0 c.args.stretches.now (2 ^ 64 - 1) c.loop-stretch.stretch-index none
    c.requires.within c.loop-stretch-test.true in
    let r : Run ℕ = item c.args.stretches.now c.loop-stretch.stretch-index in
    let ns = c.deref.result.now in
    let all = subst (λ (ns : List ℕ). AreCandidates c.args.lists.now r.answer ns) (sym c.deref.ensures.value)
    (c.in_ok-numbers.ensures c.args.lists.now c.requires.finder) in (
      c.in_ok-add_lists.ensures.count ∙ c.loop-stretch.invariant.0,
      λ n. let was = c.loop-stretch.invariant.1 n in
          subst (λ (ss : List (Run ℕ)). IsListRuns c.args.lists.now n ss (runs_end 0 ss) (said_in c.add_lists.new.runs.items n))
          (sym (take_more c.args.stretches.now c.loop-stretch.stretch-index none c.loop-stretch-test.true))
          (list_next c.args.lists.now n c.args.stretches.now (2 ^ 64 - 1) c.loop-stretch.stretch-index r
          (said_in c.loop-stretch.runs.items n)
          (said_in c.add_lists.new.runs.items n) c.requires.within w.0 was
          (extended_all c.args.lists.now r.answer ns r.start r.len c.loop-stretch.runs.items c.add_lists.new.runs.items all
          c.in_ok-add_lists.ensures n
          (within-up 0 (said_in c.loop-stretch.runs.items n) (runs_end 0 (take c.loop-stretch.stretch-index c.args.stretches.now)) r.start
          was.within w.0)
          was.longest)),
    )

use Rattle.std.proofs.Common.{ℕ, ◌≡◌, ◌<◌, ◌+◌, List, length, take, arith, sym, ◌∙◌, ap, subst, inl, inr}
use Rattle.std.specs.Prelude.{slice_index}
use Rattle.std.proofs.lemmas.List.{take_all, get_or_read}
use Rattle.func_place.specs.declared.calls.UnitCall.{UnitCall}
use Rattle.func_place.proofs.Heaviest.{call_at}
use Rattle.func_place.proofs.OnlyHeaviest.{callers_found}
use Rattle.func_place.proofs.Sweep.{IsRun, AreTops, within_all, run_step, tops_take, tops_keep, heaviest_by_tops}
use Rattle.func_place.proofs.callers.heaviest_of_sorted.Goals as goal
use Rattle.func_place.proofs.callers.heaviest_of_sorted.Goals.{then-run+then-heats-run-gt0+then-index-run, else-run}
use Rattle.func_place.proofs.callers.heaviest_of_sorted.Goals.{else-run-via-then-run+then-heats-run-gt0+else-index-run}
use Rattle.func_place.proofs.callers.heaviest_of_sorted.Goals.{else-run-via-then-run+else-heats-run-gt0, else-run-via-else-run}

pub more_of-run-requires : goal.more_of-run-requires
more_of-run-requires c =
    let run = c.loop-call.run in
    let le = within_all c.args.calls.now c.loop-call.call-index run.from run.to c.loop-call-test.true in
    let is = c.loop-call.invariant.0.count in
    let all = c.requires.room in
    omega arith

pub loop-call-preserved : goal.loop-call-preserved
loop-call-preserved c =
    let heats = c.args.heats.now in
    let calls = c.args.calls.now in
    let i = c.loop-call.call-index in
    let lt = c.loop-call-test.true in
    let r = c.more_of-run.result in
    let run : IsRun calls (i + 1) r = subst (IsRun calls (i + 1)) (sym c.more_of-run.ensures)
    (run_step calls i c.loop-call.run c.requires.ordered lt c.loop-call.invariant.0) in
    let from_is : r.from ≡ (call_at calls i).from = ap (λ (c : UnitCall). c.from) c.more_of-run.ensures in
    let to_is : r.to ≡ (call_at calls i).to = ap (λ (c : UnitCall). c.to) c.more_of-run.ensures in
    let to_in : r.to < length heats = rw to_is ((c.requires.inside i (record { from = 0; to = 0; count = 0 }) lt).1) in
    let tops = c.loop-call.invariant.1 in
    let best = c.loop-call.heaviest.items in
    let most = c.loop-call.most.items in
    let most_in : r.to < length most = omega (arith, tops.most_len) in
    elim c.if-run.branch [
      | then-run+then-heats-run-gt0+then-index-run w ↦
          let most_is : w.index.result.now ≡ slice_index most r.to = get_or_read most r.to _ most_in w.index.ensures 0 in
          rw (w.heaviest-is, w.most-is) (
            run,
            tops_take heats calls i best most r lt from_is to_is run tops to_in w.if-run.true w.if-heats-run-gt0.true
                (rw (← most_is) w.if-index-run.true),
          )
      | else-run w ↦ elim w.else-run.branch [
        | else-run-via-then-run+then-heats-run-gt0+else-index-run v ↦
            let most_is : v.index.result.now ≡ slice_index most r.to = get_or_read most r.to _ most_in v.index.ensures 0 in
            rw (w.heaviest-is, w.most-is) (
              run,
              tops_keep heats calls i best most r c.requires.ordered lt from_is to_is run tops
                  (inr (rw (← most_is) v.if-index-run.false)),
            )
        | else-run-via-then-run+else-heats-run-gt0 v ↦
            let cold = v.if-heats-run-gt0.false in
            rw (w.heaviest-is, w.most-is) (
              run,
              tops_keep heats calls i best most r c.requires.ordered lt from_is to_is run tops
                  (inl (λ may. let hot = may.1 in omega arith)),
            )
        | else-run-via-else-run v ↦
            rw (w.heaviest-is, w.most-is) (
              run,
              tops_keep heats calls i best most r c.requires.ordered lt from_is to_is run tops
                  (inl (λ may. may.0 v.if-run.false)),
            )
      ]
    ]

pub returns-clause-heaviest : goal.returns-clause-heaviest
returns-clause-heaviest c = λ u.
    let heats = c.args.heats.now in
    let calls = c.args.calls.now in
    let end : c.loop-call.call-index ≡ length calls = omega arith in
    let tops : AreTops heats calls c.loop-call.heaviest.items c.loop-call.most.items =
    subst (λ (cs : List UnitCall). AreTops heats cs c.loop-call.heaviest.items c.loop-call.most.items)
    (ap (λ (n : ℕ). take n calls) end ∙ take_all (length calls) calls (omega arith)) c.loop-call.invariant.1 in
    callers_found heats calls c.loop-call.heaviest.items u c.requires.inside tops.best_len
    (λ w lt. heaviest_by_tops heats calls c.loop-call.heaviest.items c.loop-call.most.items tops w lt)

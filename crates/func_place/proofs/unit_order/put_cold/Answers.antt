use Rattle.std.proofs.Common.{◌<◌, ◌==◌, length}
use Rattle.std.specs.Prelude.{slice_index}
use Rattle.std.proofs.lemmas.List.Elements.{All-push}
use Rattle.func_place.proofs.Ranking.{passes_after, fails_after, is_zero, is_some}
use Rattle.func_place.proofs.unit_order.put_cold.Goals as goal
use Rattle.func_place.proofs.unit_order.put_cold.Goals.{then-heat-eq0+in_ok-push, else-heat-eq0}

pub loop-unit-preserved : goal.loop-unit-preserved
loop-unit-preserved c =
    let inside = c.loop-unit-test.true in
    elim c.if-heat-eq0.branch [
      | then-heat-eq0+in_ok-push w ↦ rw (w.line-is, w.in_ok-push.ensures.items) (
        passes_after (λ u. slice_index c.args.heats.now u == 0) c.loop-unit.unit c.args.line.now.items c.loop-unit.line.items
            (is_zero _ w.if-heat-eq0.true) c.loop-unit.invariant.0,
        λ old. All-push (λ u. u < length c.args.heats.now) c.loop-unit.line.items c.loop-unit.unit
            (c.loop-unit.invariant.1 old) inside,
      )
      | else-heat-eq0 w ↦ rw w.line-is (
        fails_after (λ u. slice_index c.args.heats.now u == 0) c.loop-unit.unit c.args.line.now.items c.loop-unit.line.items
            (is_some _ w.if-heat-eq0.false) c.loop-unit.invariant.0,
        c.loop-unit.invariant.1,
      )
    ]

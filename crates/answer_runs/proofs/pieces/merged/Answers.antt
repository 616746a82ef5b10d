use Rattle.std.proofs.Common.{refl}
use Rattle.answer_runs.proofs.MergedPieces.{none_merged, more_front, more_back}
use Rattle.answer_runs.proofs.pieces.merged.Goals as goal
use Rattle.answer_runs.proofs.pieces.merged.Goals.{then-is_front_next, else-is_front_next}

pub loop-i-init : goal.loop-i-init
loop-i-init c = rw c.new-pieces.ensures.items (none_merged c.args.front.now c.args.back.now)

pub loop-i-preserved : goal.loop-i-preserved
loop-i-preserved c = elim c.if-is_front_next.branch [
  | then-is_front_next w ↦
      rw (c.in_ok-push.ensures.items, c.or.ensures, w.start-is, w.in_front-is, w.in_back-is, w.i-is, w.j-is)
      (more_front c.args.front.now c.args.back.now c.loop-i.pieces.items c.loop-i.i c.loop-i.j c.loop-i.start c.loop-i.in_front
      c.loop-i.in_back _
      c.requires.front c.requires.back c.loop-i.invariant (w.if-is_front_next.ensures.front refl))
  | else-is_front_next w ↦
      rw (c.in_ok-push.ensures.items, c.or.ensures, w.start-is, w.in_front-is, w.in_back-is, w.i-is, w.j-is)
      (more_back c.args.front.now c.args.back.now c.loop-i.pieces.items c.loop-i.i c.loop-i.j c.loop-i.start c.loop-i.in_front
      c.loop-i.in_back _
      c.requires.front c.requires.back c.loop-i.invariant (w.if-is_front_next.ensures.back refl))
]

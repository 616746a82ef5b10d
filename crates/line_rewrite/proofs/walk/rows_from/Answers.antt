use Rattle.std.proofs.Common.{◌+◌, ◌∷◌, [], ◌∙◌, ℕ, ap, arith, length, length-append}
use Rattle.line_rewrite.specs.Keeping.{rows_left}
use Rattle.line_rewrite.proofs.NearRows.{front_whole, front_past, front_more, front_count}
use Rattle.line_rewrite.proofs.walk.rows_from.Goals as goal

pub returns-then-not-next_row-clause-front : goal.returns-then-not-next_row-clause-front
returns-then-not-next_row-clause-front c = λ past.
    front_whole _ _ _ c.loop-n.invariant.rows _ (c.next_row.ensures.none c.if-not-next_row.true)

pub returns-then-n-ge-MAX_ROWS-clause-front : goal.returns-then-n-ge-MAX_ROWS-clause-front
returns-then-n-ge-MAX_ROWS-clause-front c = λ past.
    front_past _ _ _ c.loop-n.invariant.rows _ _ _ (c.next_row.ensures.some c.if-not-next_row.false) (omega arith)

pub loop-n-preserved : goal.loop-n-preserved
loop-n-preserved c = record {
  rows = front_more _ _ _ c.loop-n.invariant.rows _ _ _ _ (c.next_row.ensures.some c.if-not-next_row.false) c.in_ok-push.ensures.items
      (ap (rows_left c.args.program.now c.next_row.new.cursor.left) c.after_row-present.ensures);
  count = ap length c.in_ok-push.ensures.items ∙ length-append c.loop-n.rows.items (c.next_row.new.present ∷ [])
      ∙ ap (λ (k : ℕ). k + 1) c.loop-n.invariant.count;
}

pub returns-clause-front : goal.returns-clause-front
returns-clause-front c = λ past.
    front_count _ _ _ c.loop-n.invariant.rows c.args.count c.args.last (c.loop-n.invariant.count ∙ omega arith) past

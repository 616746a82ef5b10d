use Rattle.std.proofs.Common.{◌≡◌, refl, ℕ, slice_index_or, arith}
use Rattle.rb_bytes.proofs.Gains.{gains_next, gains_all, gains_one, gains_same}
use Rattle.jump_tables.proofs.Collected.{row_is}
use Rattle.jump_tables.proofs.table_pairs.push_row.Goals as goal

pub loop-label-preserved : goal.loop-label-preserved
loop-label-preserved c =
    let a = slice_index_or c.args.labels.now c.loop-label.label-index 0 in
    gains_next (λ a (e : ℕ × ℕ). (c.args.jump, a) ≡ e) c.args.labels.now c.loop-label.label-index a 0 _ _ _
    c.loop-label-test.true refl
    (gains_one _ _ (c.args.jump, a) c.in_ok-push.ensures.items) c.loop-label.invariant

pub returns : goal.returns
returns c =
    gains_same _ _ _ _ (row_is c.args.jump c.args.labels.now)
    (gains_all (λ a (e : ℕ × ℕ). (c.args.jump, a) ≡ e) c.args.labels.now c.loop-label.label-index _ _
    (let upto = c.loop-label.auto.label-index-end in omega arith) c.loop-label.invariant)

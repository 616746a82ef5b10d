use Rattle.std.proofs.Common.{◌≡◌, refl, subst, ℕ, arith}
use Rattle.std.specs.Prelude.{Contains}
use Rattle.rb_bytes.proofs.Gains.{gains_next, gains_all, gains_one, gains_same}
use Rattle.cfg_build.proofs.edge_lists.push_table.Goals as goal

pub loop-pair-preserved : goal.loop-pair-preserved
loop-pair-preserved c =
    gains_next (λ (e : ℕ × ℕ) a. e.1 ≡ a) _ c.loop-pair.pair-index _ (0, 0) _ _ _ c.loop-pair-test.true refl
    (gains_one _ _ _ c.in_ok-push.ensures.items) c.loop-pair.invariant

pub returns : goal.returns
returns c =
    let pairs = c.pairs_of-pair-items.result.now in
    gains_same _ _ _ _ (λ a. (
      (λ (k, e, within, is, same).
          let (is_in, jump) = (c.pairs_of-pair-items.ensures e).0 (k, within, is) in
          let e_is : e ≡ (c.args.jump, a) = λ i. (jump i, same i) in
          subst (Contains c.args.targets.now) e_is is_in),
      (λ is_in.
          let (k, within, is) = (c.pairs_of-pair-items.ensures (c.args.jump, a)).1 (is_in, refl) in
          (k, (c.args.jump, a), within, is, refl)),
    ))
    (gains_all (λ (e : ℕ × ℕ) a. e.1 ≡ a) pairs c.loop-pair.pair-index _ _ (omega arith) c.loop-pair.invariant)

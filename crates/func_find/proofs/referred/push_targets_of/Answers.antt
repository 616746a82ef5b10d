use Rattle.std.proofs.Common.{refl, arith}
use Rattle.func_find.specs.Referents.{GoesTo}
use Rattle.rb_bytes.proofs.Gains.{gains_next, gains_all, gains_same}
use Rattle.func_find.proofs.referred.push_targets_of.Goals as goal

pub loop-from-preserved : goal.loop-from-preserved
loop-from-preserved c =
    gains_next (λ from a. GoesTo c.args.elf.now c.args.end from a) c.args.froms.now c.loop-from.from-index _ 0 _ _ _
    c.loop-from-test.true refl
    (gains_same _ _ _ _ c.target_of.ensures c.in_ok-push_some.ensures.gains) c.loop-from.invariant

pub returns : goal.returns
returns c = gains_all (λ from a. GoesTo c.args.elf.now c.args.end from a) c.args.froms.now c.loop-from.from-index _ _
    (omega arith) c.loop-from.invariant

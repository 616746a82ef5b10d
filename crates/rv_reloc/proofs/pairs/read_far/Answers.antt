use Rattle.std.proofs.Common.{arith}
use Rattle.std.proofs.lemmas.List.{get_or_default}
use Rattle.rv_reloc.specs.Pairs.{IsFar}
use Rattle.rv_reloc.proofs.Finds.{AreFound-begin, AreFound-next, AreFound-all}
use Rattle.rv_reloc.proofs.pairs.read_far.Goals as goal

pub loop-low-init : goal.loop-low-init
loop-low-init c = AreFound-begin (IsFar c.args.elf.now) c.args.lows.now _ c.new-far.ensures.items

pub loop-low-preserved : goal.loop-low-preserved
loop-low-preserved c =
    AreFound-next
    (IsFar c.args.elf.now) c.args.lows.now c.loop-low.low-index _ c.loop-low.far.items _ c.far_of.result c.loop-low-test.true
    (get_or_default _ _ _ _ c.loop-low-test.true) c.in_ok-push_some.ensures.is c.far_of.ensures.is
    c.far_of.ensures.only c.loop-low.invariant

pub returns : goal.returns
returns c = AreFound-all (IsFar c.args.elf.now) c.args.lows.now c.loop-low.low-index _ (omega arith) c.loop-low.invariant

use Rattle.std.proofs.Common.{sym, subst, refl}
use Rattle.func_find.specs.InstLists.{AreInstsOf}
use Rattle.func_find.proofs.Placing.{ArePlacedTo, placed_none, placed_next, placed_all, first_bad}
use Rattle.func_find.proofs.inst_lists.insts_of.Goals as goal

pub loop-address-init : goal.loop-address-init
loop-address-init c = record {
  placed = subst (ArePlacedTo c.args.elf.now c.args.part.now.start c.args.part.now.end c.args.part.now.start)
      (sym c.in_ok-insts.ensures.items)
      (placed_none c.args.elf.now c.args.part.now.start c.args.part.now.end c.requires.part);
  bytes = c.bytes_from-bytes.ensures;
}

pub returns-in-Err-clause-fault : goal.returns-in-Err-clause-fault
returns-in-Err-clause-fault c =
    first_bad c.args.elf.now c.args.part.now c.loop-address.address _ _ c.loop-address-test.true c.in-Err.ensures.fault
    c.loop-address.invariant.placed

pub loop-address-preserved : goal.loop-address-preserved
loop-address-preserved c = record {
  placed = placed_next c.args.elf.now _ _ c.loop-address.address _ _ _ c.in-Ok.placed c.loop-address-test.true
      c.in-Ok.ensures.placed c.in_ok-push.ensures.items refl c.loop-address.invariant.placed;
  bytes = c.bytes_after-bytes.ensures c.args.elf.now c.loop-address.address c.loop-address.invariant.bytes;
}

pub returns-clause-placed : goal.returns-clause-placed
returns-clause-placed c =
    subst (AreInstsOf c.args.elf.now c.args.part.now.start c.args.part.now.end) (sym c.shrink_to_fit.ensures.items)
    (placed_all c.args.elf.now _ _ c.loop-address.address _ c.loop-address-test.false c.loop-address.invariant.placed)

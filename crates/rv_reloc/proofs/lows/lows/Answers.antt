use Rattle.rv_reloc.proofs.LowLists.{AreLows-sorted}
use Rattle.rv_reloc.proofs.lows.lows.Goals as goal

pub returns : goal.returns
returns c = AreLows-sorted c.args.elf.now c.args.records.now _ _ c.requires.records c.in_ok-lows.ensures
    c.in_ok-sort_lows.ensures.permutation c.in_ok-sort_lows.ensures.rising

use Rattle.rv_reloc.proofs.FarLists.{AreFar-ascending}
use Rattle.rv_reloc.proofs.pairs.far_uppers.Goals as goal

pub returns : goal.returns
returns c = AreFar-ascending c.args.elf.now c.args.lows.now _ _ c.requires.lows c.in_ok-far.ensures c.make_ascending.ensures.same
    c.make_ascending.ensures.ascending

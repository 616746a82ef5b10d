use Rattle.rv_reloc.proofs.NamedLists.{AreNamed-ascending}
use Rattle.rv_reloc.proofs.named.named_by_lows.Goals as goal

pub returns : goal.returns
returns c = AreNamed-ascending c.args.elf.now c.args.records.now _ _ c.requires c.in_ok-named.ensures
    c.make_ascending.ensures.same c.make_ascending.ensures.ascending

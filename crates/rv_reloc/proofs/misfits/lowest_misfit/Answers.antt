use Rattle.rv_reloc.proofs.MisfitCases.{IsLowest-misfit}
use Rattle.rv_reloc.proofs.misfits.lowest_misfit.Goals as goal

pub returns : goal.returns
returns c = IsLowest-misfit c.args.elf.now c.args.records.now _ _ _ c.requires.records c.lower.ensures
    c.lowest_unfit-unfit.ensures c.lowest_bad_entry-entry.ensures

use Rattle.rv_reloc.proofs.LowFiles.{IsLow-read}
use Rattle.rv_reloc.proofs.refs.references.Goals as goal

pub references_by-requires-clause-low : goal.references_by-requires-clause-low
references_by-requires-clause-low c = IsLow-read c.args.elf.now c.requires.read

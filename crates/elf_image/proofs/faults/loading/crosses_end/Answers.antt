use Rattle.elf_image.proofs.CodeLemmas.{CrossesEnd-of}
use Rattle.elf_image.proofs.faults.loading.crosses_end.Goals as goal

pub returns : goal.returns
returns c =
    CrossesEnd-of c.args.segments.file.now c.args.code c.args.offset c.args.size _ _ c.requires.code
    c.segment_of.ensures c.crosses.ensures

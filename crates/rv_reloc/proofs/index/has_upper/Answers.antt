use Rattle.elf_code.specs.Relocations.{is_pcrel_hi}
use Rattle.rv_reloc.specs.Index.{upper_class}
use Rattle.rv_reloc.proofs.Classes.{upper-class}
use Rattle.rv_reloc.proofs.Kept.{any-relocation}
use Rattle.rv_reloc.proofs.index.has_upper.Goals as goal

pub returns : goal.returns
returns c = λ elf are.
    let tells = any-relocation elf c.args.records.now c.args.place upper_class is_pcrel_hi upper-class are in
    (λ is. tells.0 (c.has.ensures.0 is), λ has. c.has.ensures.1 (tells.1 has))

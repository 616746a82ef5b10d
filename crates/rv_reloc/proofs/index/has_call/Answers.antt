use Rattle.elf_code.specs.Relocations.{is_call_pair}
use Rattle.rv_reloc.specs.Index.{call_class}
use Rattle.rv_reloc.proofs.Classes.{call-class}
use Rattle.rv_reloc.proofs.Kept.{any-relocation}
use Rattle.rv_reloc.proofs.index.has_call.Goals as goal

pub returns : goal.returns
returns c = λ elf are.
    let tells = any-relocation elf c.args.records.now c.args.place call_class is_call_pair call-class are in
    (λ is. tells.0 (c.has.ensures.0 is), λ has. c.has.ensures.1 (tells.1 has))

use Rattle.std.proofs.Common.{arith}
use Rattle.std.proofs.lemmas.Int.{ints}
use Rattle.rv_reloc.proofs.SlotFields.{names-by_label}
use Rattle.rv_reloc.proofs.got_fields.names_entry.Goals as goal

pub returns : goal.returns
returns c = names-by_label c.args.elf.now c.args.labels.now c.args.hi c.args.to _ c.has_label.result c.requires
    (omega (arith, ints)) c.has_label.ensures

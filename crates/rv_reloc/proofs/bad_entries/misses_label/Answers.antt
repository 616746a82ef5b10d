use Rattle.std.proofs.Common.{◌∙◌, sym}
use Rattle.rv_reloc.proofs.BadEntryPlaces.{misses-number, misses-none}
use Rattle.rv_reloc.proofs.bad_entries.misses_label.Goals as goal

pub has_other_label-requires : goal.has_other_label-requires
has_other_label-requires c = c.requires.labels.ordered

pub has_label_at-requires : goal.has_label_at-requires
has_label_at-requires c = c.requires.labels.ordered

pub returns-in-Some : goal.returns-in-Some
returns-in-Some c =
    let tells = misses-number c.args.elf.now c.args.labels.now c.args.hi c.args.entry c.in-Some.number c.requires.labels
    (sym c.loaded_number.ensures.value ∙ c.in-Some.is) in
    (λ is. tells.0 (c.has_other_label.ensures.0 is), λ misses. c.has_other_label.ensures.1 (tells.1 misses))

pub returns-in-None : goal.returns-in-None
returns-in-None c =
    let tells = misses-none c.args.elf.now c.args.labels.now c.args.hi c.args.entry c.requires.labels
    (sym c.loaded_number.ensures.value ∙ c.in-None.is) in
    (λ is. tells.0 (c.has_label_at.ensures.0 is), λ misses. c.has_label_at.ensures.1 (tells.1 misses))

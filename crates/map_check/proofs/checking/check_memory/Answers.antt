use Rattle.std.proofs.Common.{◌∙◌, ap, refl, sym}
use Rattle.std.proofs.lemmas.Bool.{both_ways}
use Rattle.elf_image.specs.declared.elf.Elf.{Elf}
use Rattle.elf_image.specs.memory.HiddenFields.{e_entry_field}
use Rattle.elf_image.specs.memory.LoadedBytes.{address_of}
use Rattle.map_check.specs.declared.clause.Clause.TheVariants as clause
use Rattle.map_check.proofs.Judgements.{changes_of, faithful, first_at, first_false, holds_next}
use Rattle.map_check.proofs.checking.check_memory.Goals as goal

pub returns-in-Some : goal.returns-in-Some
returns-in-Some c = λ r ch input tight cells code before.
    first_false r 6 clause.Byte c.in-Some.a refl before
    (c.in-Some.ensures r (record { input_is = input; output_is = ch.output_is })
    (changes_of r c.args.input.now c.args.refs.now.cells.items c.args.tight _ input tight cells c.deref.ensures.value c.of.ensures))

pub returns-in-Some-lowest_bad_cell : goal.returns-in-Some-lowest_bad_cell
returns-in-Some-lowest_bad_cell c = λ r ch input tight cells code before.
    let bytes = holds_next r 6 7 clause.Byte refl refl before
    (c.in_default.ensures r (record { input_is = input; output_is = ch.output_is })
    (changes_of r c.args.input.now c.args.refs.now.cells.items c.args.tight _ input tight cells c.deref.ensures.value
    c.of.ensures)) in
    first_false r 7 clause.Cell c.in-Some-lowest_bad_cell.a refl bytes
    (c.in-Some-lowest_bad_cell.ensures.lowest r ch (cells ∙ sym c.deref-2.ensures.value)
    (c.of.ensures.entry_is ∙ ap (λ (e : Elf). address_of e e_entry_field) (sym input)))

pub returns-then-not-keeps_layout : goal.returns-then-not-keeps_layout
returns-then-not-keeps_layout c = λ r ch input tight cells code before.
    let bytes = holds_next r 6 7 clause.Byte refl refl before
    (c.in_default.ensures r (record { input_is = input; output_is = ch.output_is })
    (changes_of r c.args.input.now c.args.refs.now.cells.items c.args.tight _ input tight cells c.deref.ensures.value
    c.of.ensures)) in
    let filled = holds_next r 7 8 clause.Cell refl refl bytes
    (c.in_default-lowest_bad_cell.ensures.lowest r ch (cells ∙ sym c.deref-2.ensures.value)
    (c.of.ensures.entry_is ∙ ap (λ (e : Elf). address_of e e_entry_field) (sym input))) in
    first_at r 8 clause.Table 0 refl filled (
      (λ keeps. both_ways c.keeps_layout.result c.if-not-keeps_layout.true
          ((c.keeps_layout.ensures r (record { input_is = input; output_is = ch.output_is }) tight).1 keeps)),
      refl,
    )
    (λ p wrong. wrong.1)

pub returns : goal.returns
returns c = λ r ch input tight cells code before.
    faithful r code
    (c.in_default.ensures r (record { input_is = input; output_is = ch.output_is })
    (changes_of r c.args.input.now c.args.refs.now.cells.items c.args.tight _ input tight cells c.deref.ensures.value c.of.ensures))
    (c.in_default-lowest_bad_cell.ensures.all r ch (cells ∙ sym c.deref-2.ensures.value)
    (c.of.ensures.entry_is ∙ ap (λ (e : Elf). address_of e e_entry_field) (sym input)))
    ((c.keeps_layout.ensures r (record { input_is = input; output_is = ch.output_is }) tight).0 c.if-not-keeps_layout.false)

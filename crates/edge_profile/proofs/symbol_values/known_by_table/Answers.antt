use Rattle.std.proofs.Common.{◌+◌, ◌∙◌, ap, sym, subst, arith, take}
use Rattle.std.proofs.lemmas.Grind.{common_steps}
use Rattle.elf_image.specs.file.Sections.{text_of}
use Rattle.elf_image.specs.file.Symbols.{symbol_names}
use Rattle.edge_profile.specs.NameEnds.{index_of, indices_in}
use Rattle.edge_profile.specs.SymbolValues.{AreKnown}
use Rattle.edge_profile.proofs.NameIndices.{within_names}
use Rattle.edge_profile.proofs.KnownValues.{known-other, known-more}
use Rattle.edge_profile.proofs.SymbolTables.{entry_within, name_is}
use Rattle.edge_profile.proofs.symbol_values.known_by_table.Goals as goal

pub loop-index-init : goal.loop-index-init
loop-index-init c = c.in_ok-known.ensures

pub name_place-requires : goal.name_place-requires
name_place-requires c =
    entry_within c.args.file.now c.args.table.now c.loop-index.index c.requires.readable c.requires.table
    (omega (arith, c.loop-index-test.true, c.requires.symbols.count_is))

pub note_value-requires : goal.note_value-requires
note_value-requires c =
    let names = c.args.names.now.backward.items in
    let texts = symbol_names c.args.file.now c.args.table.now in
    let found = c.index_at-name.ensures texts (c.deref.ensures.value ∙ c.in_ok-indices.ensures
    ∙ ap (indices_in names) c.symbol_texts.ensures) in
    within_names names (text_of texts c.name_place.result) c.loop-index.known.items c.index_at-name.result
    c.loop-index.invariant.count_is (sym found)

pub loop-index-preserved-then-not-names_function : goal.loop-index-preserved-then-not-names_function
loop-index-preserved-then-not-names_function c =
    known-other c.args.names.now.backward.items c.args.symbols.now c.loop-index.index _ c.loop-index-test.true
    c.loop-index.known.items c.loop-index.invariant (sym c.names_function.ensures ∙ c.if-not-names_function.true)

pub loop-index-preserved : goal.loop-index-preserved
loop-index-preserved c =
    let names = c.args.names.now.backward.items in
    let file = c.args.file.now in
    let table = c.args.table.now in
    let texts = symbol_names file table in
    let found = c.index_at-name.ensures texts (c.deref.ensures.value ∙ c.in_ok-indices.ensures
    ∙ ap (indices_in names) c.symbol_texts.ensures) in
    let own = ap (index_of names) (name_is file table c.args.symbols.now c.loop-index.index _ c.requires.symbols
    c.loop-index-test.true ∙ ap (text_of texts) (sym c.name_place.ensures)) ∙ sym found in
    subst (AreKnown names (take (c.loop-index.index + 1) c.args.symbols.now)) (sym c.note_value.ensures)
    (known-more names c.args.symbols.now c.loop-index.index _ c.loop-index-test.true c.loop-index.known.items
    c.loop-index.invariant (sym c.names_function.ensures ∙ c.if-not-names_function.false) c.index_at-name.result own)

pub returns : goal.returns
returns c = grind (arith, common_steps)

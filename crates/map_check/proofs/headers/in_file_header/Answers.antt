use Rattle.std.proofs.Common.{◌∙◌, ◌++◌, ap}
use Rattle.std.specs.Prelude.{◌||◌, is_none, nat_le}
use Rattle.elf_image.specs.memory.CodeSegment.{executable_end}
use Rattle.elf_image.specs.memory.HiddenFields.{e_entry_field, e_phnum_field, e_phoff_field, only, section_fields}
use Rattle.elf_image.specs.memory.LoadedBytes.{address_of, is_in_range}
use Rattle.map_check.proofs.HeaderFields.{joined, none_from_some, under}
use Rattle.map_check.proofs.headers.in_file_header.Goals as goal

pub returns : goal.returns
returns c = λ tight of.
    let elf = c.args.elf.now in
    let f = is_in_range c.args.offset in
    let moves = tight || nat_le (executable_end elf.segments.items) elf.phoff in
    let one = joined f section_fields (only moves e_phoff_field) _ _ c.in_section_fields-in_sections.ensures
    (under f e_phoff_field _ moves _ _ (c.table_moves-moves.ensures tight of) c.or_has-in_phoff.ensures) in
    let two = joined f (section_fields ++ only moves e_phoff_field) (only tight e_phnum_field) _ _ one
    (under f e_phnum_field _ tight _ _ of.tight_is c.or_has-in_phnum.ensures) in
    joined f (section_fields ++ only moves e_phoff_field ++ only tight e_phnum_field)
    (only (is_none (address_of elf e_entry_field)) e_entry_field) _ _ two
    (under f e_entry_field _ (is_none (address_of elf e_entry_field)) _ _ (none_from_some _ _ c.is_none.ensures ∙ ap is_none of.entry_is)
    c.or_has.ensures)

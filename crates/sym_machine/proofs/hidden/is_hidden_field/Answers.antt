use Rattle.std.proofs.Common.{◌≡◌, ◌∙◌, sym, ap, Some, false}
use Rattle.std.specs.List.{list_any}
use Rattle.std.specs.Option.{option_map_or}
use Rattle.elf_image.specs.memory.LoadedBytes.{is_in_range, file_offset}
use Rattle.elf_image.specs.memory.HiddenFields.{hidden_fields}
use Rattle.sym_machine.specs.internal.Fields.{range_of_field}
use Rattle.sym_machine.proofs.StartFields.{list_any-map}
use Rattle.sym_machine.proofs.hidden.is_hidden_field.Goals as goal

pub returns-in-Some : goal.returns-in-Some
returns-in-Some c = λ tight fields.
    let elf = c.args.elf.now in
    let at : file_offset elf.segments.items c.args.address ≡ Some c.in-Some.offset = sym c.file_offset.ensures.value
    ∙ c.in-Some.is in
    c.has.ensures
    ∙ sym (list_any-map (is_in_range c.in-Some.offset) range_of_field c.args.fields.now.list.items)
    ∙ ap (list_any (is_in_range c.in-Some.offset)) fields
    ∙ sym (ap (λ o. option_map_or (λ offset. list_any (is_in_range offset) (hidden_fields elf tight)) o false) at)

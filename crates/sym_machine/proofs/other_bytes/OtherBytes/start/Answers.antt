use Rattle.std.proofs.Common.{◌≡◌, ◌∙◌, ap, refl, Some, None, Option, Bool, true, false}
use Rattle.std.specs.Prelude.{if◌then◌else◌, ◌||◌}
use Rattle.std.specs.Option.{option_or}
use Rattle.sym_machine.specs.declared.value.MemoryByte.{MemoryByte}
use Rattle.sym_machine.specs.declared.value.MemoryByte.TheVariants.{Hidden}
use Rattle.elf_image.specs.memory.HiddenFields.{is_hidden_field}
use Rattle.sym_machine.specs.HiddenEntries.{is_hidden_entry}
use Rattle.sym_machine.specs.SymStart.{entry_byte, code_cell_byte}
use Rattle.sym_machine.proofs.other_bytes.OtherBytes.start.Goals as goal

hidden_join : (e f : Bool) (o : Option MemoryByte) →
    (if e then Some Hidden else (if f then Some Hidden else o)) ≡ option_or (if f || e then Some Hidden else None) o
hidden_join true true o = refl
hidden_join true false o = refl
hidden_join false true o = refl
hidden_join false false o = refl

pub returns : goal.returns
returns c = λ args pointer count q.
    let elf = c.args.elf.now in
    let f = is_hidden_field elf c.args.tight q in
    let e = is_hidden_entry c.args.tight args q in
    c.in_ok-add_entry.ensures args pointer count q
    ∙ ap (option_or (entry_byte elf args q))
    (c.in_ok-hide_entries.ensures args pointer count q
    ∙ ap (λ (o : Option MemoryByte). if e then Some Hidden else o)
    (c.in_ok-hide_fields.ensures q ∙ ap (λ (o : Option MemoryByte). if f then Some Hidden else o) (c.in_ok-add_cells.ensures q))
    ∙ hidden_join e f (code_cell_byte c.args.cells.now q))

use Rattle.std.proofs.Common.{◌∙◌, ap, Some, List, map}
use Rattle.std.specs.Prelude.{if◌then◌else◌, ◌&&◌}
use Rattle.std.specs.List.{list_any}
use Rattle.elf_image.specs.declared.segment.Segment.{Segment}
use Rattle.sym_machine.specs.declared.value.MemoryByte.TheVariants.{Hidden}
use Rattle.elf_image.specs.memory.HiddenFields.{is_hidden_field}
use Rattle.sym_machine.specs.internal.Fields.{range_of_field}
use Rattle.sym_machine.specs.internal.SpecialBytes.{special, covers_header}
use Rattle.sym_machine.proofs.StartFields.{hidden_everywhere}
use Rattle.std.proofs.lemmas.Result.{on_ok_weaker}
use Rattle.sym_machine.proofs.other_bytes.OtherBytes.hide_fields.Goals as goal

pub returns : goal.returns
returns c =
    on_ok_weaker c.hide_in_segments.result
    (λ all q.
    let old = special c.args.self.now q in
    all c.args.tight (ap (map range_of_field) c.in_ok-fields.ensures ∙ c.in_ok-list.ensures) q
    ∙ ap (λ (segments : List Segment). if list_any (covers_header c.args.elf.now q) segments
    && is_hidden_field c.args.elf.now c.args.tight q
    then Some Hidden else old) c.deref.ensures.value
    ∙ hidden_everywhere c.args.elf.now c.args.tight q (Some Hidden) old)
    c.hide_in_segments.ensures

use Rattle.std.proofs.Common.{◌≡◌, ◌<◌, ℕ, drop, length, false}
use Rattle.std.specs.Prelude.{◌||◌, slice_index_or}
use Rattle.std.specs.List.{list_any}
use Rattle.elf_image.specs.memory.LoadedBytes.{is_in_range}
use Rattle.sym_machine.specs.internal.Fields.{range_of_field}
use Rattle.sym_machine.proofs.fields.marked.Given as goal

abbrev pub invariant-loop-field : goal.invariant-loop-field
invariant-loop-field l = (o : ℕ) → o < length l.marks.items →
    (slice_index_or l.marks.items o false || list_any (λ field. is_in_range o (range_of_field field))
    (drop l.field-index l.fields)) ≡ list_any (λ field. is_in_range o (range_of_field field)) l.fields

use Rattle.std.proofs.Common.{◌≡◌, ◌<◌, ◌≤◌, ℕ, length, false}
use Rattle.std.specs.Prelude.{◌&&◌, ◌||◌, nat_lt, slice_index_or}
use Rattle.elf_image.specs.memory.LoadedBytes.{is_in_range}
use Rattle.sym_machine.specs.internal.Fields.{range_of_field}
use Rattle.sym_machine.proofs.fields.mark.Given as goal

abbrev pub invariant-loop-at : goal.invariant-loop-at
invariant-loop-at l = record {
  size : length l.marks ≡ length l.initial.marks;
  from : l.field.start ≤ l.at;
  marked : (o : ℕ) → o < length l.initial.marks →
      slice_index_or l.marks o false
      ≡ (slice_index_or l.initial.marks o false || (is_in_range o (range_of_field l.field) && nat_lt o l.at));
}

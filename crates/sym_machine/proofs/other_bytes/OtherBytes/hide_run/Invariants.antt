use Rattle.std.proofs.Common.{◌≡◌, ◌+◌, ℕ, Some, Bool, map}
use Rattle.std.specs.Prelude.{◌&&◌, nat_le, nat_lt, if◌then◌else◌}
use Rattle.elf_image.specs.memory.HiddenFields.{hidden_fields, is_hidden_field}
use Rattle.sym_machine.specs.declared.value.MemoryByte.TheVariants.{Hidden}
use Rattle.sym_machine.specs.internal.Fields.{range_of_field}
use Rattle.sym_machine.specs.internal.SpecialBytes.{special}
use Rattle.sym_machine.proofs.other_bytes.OtherBytes.hide_run.Given as goal

abbrev pub invariant-loop-index : goal.invariant-loop-index
invariant-loop-index l = (tight : Bool) → map range_of_field l.fields.list.items ≡ hidden_fields l.elf tight → (q : ℕ) →
    special l.self q ≡ (if (nat_le l.start q && nat_lt q (l.start + l.index))
    && is_hidden_field l.elf tight q then Some Hidden else special l.initial.self q)

-- Fields of the headers in the terms of the code, and segments at low addresses.
use Rattle.std.specs.Prelude.{◌≡◌, ◌≤◌, ◌<◌, ◌^◌, ℕ, List, Bool, Contains, true, false, length, slice_index_or}
use Rattle.std.specs.List.{list_any}
use Rattle.elf_image.specs.declared.segment.Segment.{Segment}
use Rattle.elf_image.specs.memory.Image.{has_memory, end_of}
use Rattle.elf_image.specs.memory.LoadedBytes.{Range, is_in_range}
use Rattle.sym_machine.specs.declared.fields.Field.{Field}

abbrev pub range_of_field : Field → Range
range_of_field field = record { start = field.start; size = field.size }

-- the marks say for each byte of a file if it is in one of these fields
abbrev pub AreMarked : List Bool → List Field → Type 0
AreMarked marks fields = (o : ℕ) → o < length marks →
    slice_index_or marks o false ≡ list_any (λ field. is_in_range o (range_of_field field)) fields

-- each segment that has memory ends at or below 2 ^ 63
pub record AreLow (segments : List Segment) : Type 0 where
  pub each : (p : Segment) → Contains segments p → has_memory p ≡ true → end_of p ≤ 2 ^ 63

-- The fields of an FDE before its instructions.
use Rattle.std.specs.Prelude.{ℕ, ◌+◌, ◌^◌, nat_lt, cond, List, Ok, Err}
use Rattle.rb_bytes.specs.Readers.{and_then}
use Rattle.cfi_rows.specs.declared.fde.FdeHead.{FdeHead}
use Rattle.cfi_rows.specs.declared.instruction.Malformed.TheVariants.{Entry}
use Rattle.cfi_rows.specs.FrameInstructions.{Read, pointer_at, stored_at}
use Rattle.cfi_rows.specs.Entries.{Augmentation, size_encoding, table_at}

abbrev pub head_by : ℕ → ℕ → ℕ → List ℕ → Read FdeHead
head_by start size table left = Ok (record { start = start; size = size; table = table }, left)

abbrev pub head_from : Augmentation → ℕ → ℕ → ℕ → List ℕ → Read FdeHead
head_from a end start size left =
    cond (nat_lt (start + size) (2 ^ 64)) (and_then (table_at a end left) (head_by start size)) (Err Entry)

abbrev pub head_sized : Augmentation → ℕ → ℕ → List ℕ → Read FdeHead
head_sized a end start left = and_then (stored_at (size_encoding a.encoding) left) (head_from a end start)

-- the fields at the front of bytes that end at an address
abbrev pub fde_head_at : Augmentation → ℕ → List ℕ → Read FdeHead
fde_head_at a end left = and_then (pointer_at a.encoding end left) (head_sized a end)

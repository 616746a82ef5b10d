use Rattle.std.proofs.Common.{◌≡◌, ℕ, ◌+◌, ◌*◌, ◌%◌, ◌<◌, length, slice_index}
use Rattle.std.specs.Option.{unwrap_or}
use Rattle.elf_image.specs.memory.LoadedBytes.{byte_at}
use Rattle.code_starts.proofs.halves.push_low_bytes.Given as goal

abbrev pub invariant-loop-index : goal.invariant-loop-index
invariant-loop-index l =
    (length l.halves.items ≡ l.index)
    × ((i : ℕ) → i < l.index → slice_index l.halves.items i % 256 ≡ unwrap_or (byte_at l.elf (l.part.start + 2 * i)) 0)

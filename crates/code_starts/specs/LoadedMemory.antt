-- Bytes in the memory that a file describes, and the end of that memory.
use Rattle.std.specs.Prelude.{◌≡◌, ℕ, ◌+◌, ◌<◌, List, Some, IsSome, length, slice_index}
use Rattle.elf_image.specs.declared.elf.Elf.{Elf}
use Rattle.elf_image.specs.memory.LoadedBytes.{byte_at}
use Rattle.rv_code.specs.layout.FunctionLists.{address_end}

-- All loaded bytes are below the end of loadable addresses.
pub record IsLow (elf : Elf) : Type 0 where
  pub below : (a : ℕ) → IsSome (byte_at elf a) → a < address_end

-- The memory has these bytes from address `a` on.
abbrev pub AreBytesFrom : Elf → ℕ → List ℕ → Type 0
AreBytesFrom elf a bytes = (i : ℕ) → i < length bytes → byte_at elf (a + i) ≡ Some (slice_index bytes i)

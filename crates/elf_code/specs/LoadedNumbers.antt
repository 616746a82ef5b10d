-- Numbers in the memory that a file describes.
use Rattle.std.specs.Prelude.{ℕ, Option}
use Rattle.elf_image.specs.declared.elf.Elf.{Elf}
use Rattle.elf_image.specs.memory.LoadedBytes.{byte_at}
use Rattle.rv_code.specs.machine.MemoryNumbers.{number_in}

-- The little-endian number in the n bytes at an address of a file's memory, if all bytes are loaded.
abbrev pub loaded_number : Elf → ℕ → ℕ → Option ℕ
loaded_number elf a n = number_in (byte_at elf) a n

-- The parts of a file that matter for loading and starting it. gABI, "ELF Header" and "Program Header".
use Rattle.std.specs.Prelude.{◌≡◌, ℕ, ◌+◌, ◌<◌, true, false, List, Option}
use Rattle.elf_image.specs.declared.elf.Elf.{Elf}
use Rattle.elf_image.specs.declared.segment.Segment.{Segment}
use Rattle.elf_image.specs.declared.segment.TheConstants.{PF_X, PF_W}
use Rattle.elf_image.specs.file.Header.{e_entry, segments_of}
use Rattle.elf_image.specs.memory.Image.{image_byte, is_loaded_with}

pub record Executable : Type 0 where
  pub file : List ℕ
  pub segments : List Segment
  pub entry : ℕ

-- From the bytes of a file, and from the value that was read.
abbrev pub executable_of : List ℕ → Executable
executable_of file = record { file = file; segments = segments_of file; entry = e_entry file }

abbrev pub executable_read : Elf → Executable
executable_read elf = record { file = elf.file.now; segments = elf.segments.items; entry = elf.entry }

-- The memory before the first step, without the stack.
abbrev pub memory_of : Executable → ℕ → Option ℕ
memory_of x a = image_byte x.file x.segments a

-- The byte is loaded, executable and not writable.
abbrev pub IsCodeByte : Executable → ℕ → Type 0
IsCodeByte x p = (is_loaded_with PF_X x.segments p ≡ true) × (is_loaded_with PF_W x.segments p ≡ false)

abbrev pub AreCodeBytes : Executable → ℕ → ℕ → Type 0
AreCodeBytes x p n = (i : ℕ) → i < n → IsCodeByte x (p + i)

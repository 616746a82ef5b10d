-- A memory that keeps its file and its break keeps the program's permissions.
use Rattle.std.proofs.Common.{◌≡◌, refl}
use Rattle.rv_memory.specs.declared.memory.Memory.{Memory}
use Rattle.rv_memory.specs.Memory.{Keeps, space_in}

pub space_in-keeps : (old new : Memory) → Keeps old new → space_in old ≡ space_in new
space_in-keeps old new keeps = rw (keeps.elf_is, keeps.start_is, keeps.bound_is) refl

-- Addresses that no program can write, whatever its break.
use Rattle.std.specs.Prelude.{◌≡◌, ◌≤◌, ◌+◌, ◌-◌, ◌⊎◌, ℕ, ◌&&◌, ◌||◌, nat_le, nat_lt, min, Bool, true, false, List}
use Rattle.std.specs.Prelude.{length}
use Rattle.elf_image.specs.declared.segment.Segment.{Segment}
use Rattle.elf_image.specs.declared.segment.TheConstants.{PF_W, PF_X}
use Rattle.elf_image.specs.memory.Image.{has_flag, is_loaded_with}
use Rattle.rv_memory.specs.Start.{in_stack, stack_end, stack_size}
use Rattle.rv_memory.specs.declared.code_range.CodeRange.{CodeRange}

abbrev pub is_in_code : CodeRange → ℕ → Bool
is_in_code range q = nat_le range.from q && nat_lt q range.to

-- The address is in a writable segment, in the stack, or in the memory that a break with this start and bound can gain.
abbrev pub is_ever_writable : List Segment → ℕ → ℕ → ℕ → Bool
is_ever_writable segments from to q = (is_loaded_with PF_W segments q || in_stack q) || (nat_le from q && nat_lt q to)

-- The number of bytes of a segment that come from the file.
abbrev pub loaded_size : Segment → ℕ
loaded_size p = min p.filesz p.memsz

-- The file bytes of a segment are executable and can never be written: the segment isn't writable, and they are neither
-- in the stack nor in the memory that a break from `from` to `to` can gain. The file contains all of them.
pub record IsFixedCode (file : List ℕ) (from to : ℕ) (p : Segment) : Type 0 where
  pub executable : has_flag PF_X p ≡ true
  pub unwritable : has_flag PF_W p ≡ false
  pub below_stack : p.vaddr + loaded_size p ≤ stack_end - stack_size
  pub apart : (p.vaddr + loaded_size p ≤ from) ⊎ (to ≤ p.vaddr)
  pub in_file : p.offset + loaded_size p ≤ length file

-- The addresses of these bytes, and their offset in the file.
abbrev pub loaded_range : Segment → CodeRange
loaded_range p = record { from = p.vaddr; to = p.vaddr + loaded_size p; offset = p.offset }

-- The contents of a memory: the byte at each address, and the program's permissions.
use Rattle.std.specs.Prelude.{◌≡◌, ℕ, ◌<◌, ◌&&◌, ◌||◌, nat_lt, nat_le, if◌then◌else◌, Bool, unwrap_or, IsSome}
use Rattle.rv_code.specs.machine.Machine.{Space, plus}
use Rattle.elf_image.specs.declared.segment.TheConstants.{PF_R, PF_W, PF_X}
use Rattle.elf_image.specs.memory.Image.{image_byte, is_loaded_with}
use Rattle.rv_memory.specs.Start.{in_stack}
use Rattle.rv_memory.specs.Pages.{page_byte}
use Rattle.rv_memory.specs.declared.rights.Access.{Access}
use Rattle.rv_memory.specs.declared.rights.Access.TheVariants.{Read, Write, Execute}
use Rattle.rv_memory.specs.declared.memory.Memory.{Memory}

-- The address is in the stack, or in memory that the break has gained at some time.
abbrev pub is_zero_filled : Memory → ℕ → Bool
is_zero_filled m a = in_stack a || (nat_le m.break_start a && nat_lt a m.break_top)

-- The byte at an address that was never written: the image's byte, or 0.
abbrev pub unwritten_byte : Memory → ℕ → ℕ
unwritten_byte m a = if is_zero_filled m a then 0 else unwrap_or
    (image_byte m.elf.now.file.now m.elf.now.segments.items a) 0

abbrev pub memory_of : Memory → ℕ → ℕ
memory_of m a = unwrap_or (page_byte m.pages a) (unwritten_byte m a)

-- Each of the n addresses from `a` on has a page.
abbrev pub HasRoom : Memory → ℕ → ℕ → Type 0
HasRoom m a n = (k : ℕ) → k < n → IsSome (page_byte m.pages (plus a k))

-- The permissions for a whole run.
abbrev pub space_in : Memory → Space
space_in m = record {
  reads = λ a. is_loaded_with PF_R m.elf.now.segments.items a || in_stack a;
  writes = λ a. is_loaded_with PF_W m.elf.now.segments.items a || in_stack a;
  executes = is_loaded_with PF_X m.elf.now.segments.items;
  break_start = m.break_start;
  break_bound = m.break_bound;
}

-- The current permissions, with the current break.

abbrev pub gained_by_break : Memory → ℕ → Bool
gained_by_break m a = nat_le m.break_start a && nat_lt a m.program_break

abbrev pub reads : Memory → ℕ → Bool
reads m a = (is_loaded_with PF_R m.elf.now.segments.items a || in_stack a) || gained_by_break m a

abbrev pub writes : Memory → ℕ → Bool
writes m a = (is_loaded_with PF_W m.elf.now.segments.items a || in_stack a) || gained_by_break m a

abbrev pub executes : Memory → ℕ → Bool
executes m a = is_loaded_with PF_X m.elf.now.segments.items a

abbrev pub may : Memory → Access → ℕ → Bool
may m Read a = reads m a
may m Write a = writes m a
may m Execute a = executes m a

-- The file, the break with its bounds, and the range of constant code are unchanged.
pub record Keeps (old new : Memory) : Type 0 where
  pub elf_is : new.elf ≡ old.elf
  pub start_is : new.break_start ≡ old.break_start
  pub bound_is : new.break_bound ≡ old.break_bound
  pub break_is : new.program_break ≡ old.program_break
  pub top_is : new.break_top ≡ old.break_top
  pub code_is : new.code ≡ old.code

-- The break may be set to `to`.
abbrev pub may_stand : Memory → ℕ → Bool
may_stand m to = nat_le m.break_start to && nat_le to m.break_bound

-- The break, and the byte at an address, after the program asked for the break `to`.
abbrev pub break_after : Memory → ℕ → ℕ
break_after m to = if may_stand m to then to else m.program_break

abbrev pub byte_after : Memory → ℕ → ℕ → ℕ
byte_after m to a =
    if may_stand m to then (if nat_le m.program_break a && nat_lt a to then 0 else memory_of m a) else memory_of m a

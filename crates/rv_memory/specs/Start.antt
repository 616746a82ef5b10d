-- The start of a program, and its runs. The stack and its auxiliary vector follow the System V ABI for other processors
-- ("Process Initialization"), with Linux's AT_RANDOM. The bytes of a file, of arguments and of input are below 256, and
-- arguments have no zero byte.
use Rattle.std.specs.Prelude.{ℕ, ◌+◌, ◌-◌, ◌*◌, ◌^◌, ◌&&◌, ◌||◌, ◌==◌, nat_lt, nat_le, if◌then◌else◌, Bool, List, []}
use Rattle.std.specs.Prelude.{◌∷◌, ◌++◌, length, flat_map, replicate, slice_index, unwrap_or, codes}
use Rattle.rv_code.specs.machine.Machine.{Space, low_bytes, Event, Run, SoFar}
use Rattle.rv_code.specs.machine.Step.{ByteState, Steps}
use Rattle.elf_image.specs.declared.segment.Segment.{Segment}
use Rattle.elf_image.specs.declared.segment.TheConstants.{PF_R, PF_W, PF_X, PHDR_SIZE}
use Rattle.elf_image.specs.file.Header.{e_entry, e_phnum, segments_of}
use Rattle.elf_image.specs.memory.Image.{image_byte, is_loaded_with}
use Rattle.elf_image.specs.memory.Break.{rounded_down, table_address, break_bound, page_size, break_start}

-- The stack: 8 MiB below 2^38.

abbrev pub stack_end : ℕ
stack_end = 2 ^ 38

abbrev pub stack_size : ℕ
stack_size = 8 * 2 ^ 20

abbrev pub in_stack : ℕ → Bool
in_stack a = nat_le (stack_end - stack_size) a && nat_lt a stack_end

-- The 16 bytes at the end of the stack, whose address AT_RANDOM gives.
abbrev pub random_bytes : List ℕ
random_bytes = 0 ∷ 1 ∷ 2 ∷ 3 ∷ 4 ∷ 5 ∷ 6 ∷ 7 ∷ 8 ∷ 9 ∷ 10 ∷ 11 ∷ 12 ∷ 13 ∷ 14 ∷ 15 ∷ []

abbrev pub random_address : ℕ
random_address = stack_end - 16

-- The arguments: the program's name, which is always the same, and the given arguments.
abbrev pub program_arguments : List (List ℕ) → List (List ℕ)
program_arguments args = codes "program" ∷ args

-- The texts of the arguments are below these bytes, each with a final zero byte.
abbrev pub texts : List (List ℕ) → List ℕ
texts args = flat_map (λ text. text ++ 0 ∷ []) (program_arguments args)

abbrev pub texts_address : List (List ℕ) → ℕ
texts_address args = random_address - length (texts args)

-- The addresses of consecutive texts, of which the first is at address `a`.
abbrev pub text_addresses : ℕ → List (List ℕ) → List ℕ
text_addresses a [] = []
text_addresses a (text ∷ rest) = a ∷ text_addresses (a + length text + 1) rest

-- AT_PHDR, AT_PHENT, AT_PHNUM, AT_PAGESZ, AT_ENTRY, AT_RANDOM and AT_NULL, each with its value.
abbrev pub auxiliary_vector : List ℕ → List ℕ
auxiliary_vector file =
    3 ∷ table_address file ∷ 4 ∷ PHDR_SIZE ∷ 5 ∷ e_phnum file ∷ 6 ∷ page_size ∷ 9 ∷ e_entry file
    ∷ 25 ∷ random_address ∷ 0 ∷ 0 ∷ []

-- The numbers from the stack pointer on: the number of arguments, their addresses, the ends of the lists of arguments
-- and of environment variables, and the auxiliary vector.
abbrev pub stack_entries : List ℕ → List (List ℕ) → List ℕ
stack_entries file args =
    length (program_arguments args) ∷ text_addresses (texts_address args) (program_arguments args)
    ++ 0 ∷ 0 ∷ auxiliary_vector file

-- The stack pointer is a multiple of 16.
abbrev pub stack_pointer : List (List ℕ) → ℕ
stack_pointer args = rounded_down 16 (texts_address args - 8 * (length (program_arguments args) + 17))

abbrev pub start_bytes : List ℕ → List (List ℕ) → List ℕ
start_bytes file args = flat_map (low_bytes 8) (stack_entries file args)

-- The bytes from the stack pointer to the end of the stack.
abbrev pub stack_bytes : List ℕ → List (List ℕ) → List ℕ
stack_bytes file args =
    start_bytes file args ++ replicate (texts_address args - stack_pointer args - length (start_bytes file args)) 0
    ++ texts args ++ random_bytes

-- The byte at an address of the stack.
abbrev pub stack_byte : List ℕ → List (List ℕ) → ℕ → ℕ
stack_byte file args a =
    if nat_le (stack_pointer args) a then slice_index (stack_bytes file args) (a - stack_pointer args) else 0

-- The state before the first step.

abbrev pub space_of : List Segment → Space
space_of segments = record {
  reads = λ a. is_loaded_with PF_R segments a || in_stack a;
  writes = λ a. is_loaded_with PF_W segments a || in_stack a;
  executes = is_loaded_with PF_X segments;
  break_start = break_start segments;
  break_bound = break_bound segments;
}

abbrev pub start_memory : List ℕ → List (List ℕ) → ℕ → ℕ
start_memory file args a = if in_stack a then stack_byte file args a else unwrap_or
    (image_byte file (segments_of file) a) 0

-- All registers are 0 except the stack pointer, register 2.
abbrev pub start_registers : List (List ℕ) → ℕ → ℕ
start_registers args r = if r == 2 then stack_pointer args else 0

abbrev pub start : List ℕ → List (List ℕ) → List ℕ → ByteState
start file args input = record {
  pc = e_entry file;
  registers = start_registers args;
  memory = start_memory file args;
  space = space_of (segments_of file);
  program_break = break_start (segments_of file);
  input = input;
}

-- The n-th step of the file, run with these arguments and this input, ends with this status, after these calls.
abbrev pub Runs : List ℕ → List (List ℕ) → List ℕ → ℕ → List Event → ℕ → Type 0
Runs file args input n trace status = Run Steps (start file args input) n trace status

-- The first n steps neither end nor trap, and make these calls.
pub record RunsSoFar (file : List ℕ) (args : List (List ℕ)) (input : List ℕ) (n : ℕ) (trace : List Event) : Type 0 where
  pub state : ByteState
  pub so_far : SoFar Steps (start file args input) n trace state

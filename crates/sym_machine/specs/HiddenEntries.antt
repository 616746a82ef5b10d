-- The bytes of the initial stack that depend on hidden fields of the file: in a tight file two numbers of the auxiliary
-- vector are hidden, and one is the entry point.
use Rattle.std.specs.Prelude.{ℕ, ◌+◌, ◌*◌, ◌&&◌, ◌||◌, Bool, List, length}
use Rattle.elf_image.specs.memory.LoadedBytes.{Range, is_in_range}
use Rattle.rv_memory.specs.Start.{program_arguments, stack_pointer}

-- the addresses of the value of entry n of the auxiliary vector, counted from 0
abbrev pub auxiliary_value : List (List ℕ) → ℕ → Range
auxiliary_value args n = record {
  start = stack_pointer args + 8 * (length (program_arguments args) + 4 + 2 * n);
  size = 8;
}

-- the values of AT_PHDR, AT_PHNUM and AT_ENTRY
abbrev pub at_phdr : List (List ℕ) → Range
at_phdr args = auxiliary_value args 0

abbrev pub at_phnum : List (List ℕ) → Range
at_phnum args = auxiliary_value args 2

abbrev pub at_entry : List (List ℕ) → Range
at_entry args = auxiliary_value args 4

-- the byte at an address is in the value of AT_PHDR or of AT_PHNUM, and the file is tight
abbrev pub is_hidden_entry : Bool → List (List ℕ) → ℕ → Bool
is_hidden_entry tight args a = tight && (is_in_range a (at_phdr args) || is_in_range a (at_phnum args))

-- The executable segment and the break of small examples. Each equation holds by computation.
use Rattle.std.specs.Prelude.{◌≡◌, ℕ, [], ◌∷◌, Some, refl}
use Rattle.elf_image.specs.declared.segment.Segment.{Segment}
use Rattle.elf_image.specs.memory.CodeSegment.{executable_segment, executable_end}
use Rattle.elf_image.specs.memory.Break.{break_start, break_bound}

-- Segments.

-- A loaded segment with these flags, whose bytes all come from the file.
abbrev segment : ℕ → ℕ → ℕ → ℕ → Segment
segment flags offset address size = record {
  kind = 1;
  flags = flags;
  offset = offset;
  vaddr = address;
  paddr = address;
  filesz = size;
  memsz = size;
  align = 0x1000;
}

abbrev code : Segment
code = segment 5 0 0x10000 0xff0

abbrev variables : Segment
variables = segment 6 0x1000 0x11000 8

-- Of two executable segments, the one at the lower address counts.
lower_is_executable : executable_segment (segment 5 0x2000 0x20000 16 ∷ code ∷ []) ≡ Some (1, code)
lower_is_executable = refl

-- Of two executable segments at the same address, the first counts.
first_is_executable : executable_segment (segment 5 0x2000 0x10000 0 ∷ code ∷ []) ≡ Some (0, segment 5 0x2000 0x10000 0)
first_is_executable = refl

end_of_executable : executable_end (code ∷ variables ∷ []) ≡ 0xff0
end_of_executable = refl

-- The program break.

-- The break starts on the page after the variables, with up to 64 MiB.
start_of_break : break_start (code ∷ variables ∷ []) ≡ 0x12000
start_of_break = refl

bound_of_break : break_bound (code ∷ variables ∷ []) ≡ 0x4012000
bound_of_break = refl

-- A segment above limits the break to the page on which it starts.
bound_below_next : break_bound (code ∷ variables ∷ segment 4 0x2000 0x14010 8 ∷ []) ≡ 0x14000
bound_below_next = refl

-- That page may be the page on which the variables end.
bound_on_one_page : break_bound (code ∷ variables ∷ segment 4 0x2000 0x11010 8 ∷ []) ≡ 0x12000
bound_on_one_page = refl

-- There is no break without a writable segment.
no_break : break_bound (code ∷ []) ≡ 0
no_break = refl

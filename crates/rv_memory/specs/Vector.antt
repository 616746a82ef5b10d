-- The auxiliary vector.
use Rattle.std.specs.Prelude.{ℕ, List, [], ◌∷◌}
use Rattle.elf_image.specs.declared.segment.TheConstants.{PHDR_SIZE}
use Rattle.elf_image.specs.memory.Break.{page_size}
use Rattle.rv_memory.specs.Start.{random_address}

-- The vector for the address and the number of program headers, and the entry point.
abbrev pub vector : ℕ → ℕ → ℕ → List ℕ
vector table count entry = 3 ∷ table ∷ 4 ∷ PHDR_SIZE ∷ 5 ∷ count ∷ 6 ∷ page_size ∷ 9 ∷ entry ∷ 25 ∷ random_address ∷ 0
    ∷ 0 ∷ []

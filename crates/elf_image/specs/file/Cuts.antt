-- The cuts of a file: addresses at which functions may start or end. gABI, "Symbol Table".
use Rattle.std.specs.Prelude.{◌≡◌, ◌<◌, ◌+◌, ◌%◌, ◌^◌, ◌==◌, ◌⊎◌, ℕ, Bool, IsTrue, List, Any}
use Rattle.elf_image.specs.declared.section.Section.{Section}
use Rattle.elf_image.specs.declared.symbol.Symbol.{Symbol}
use Rattle.elf_image.specs.declared.symbol.TheConstants.{STT_FUNC}
use Rattle.elf_image.specs.file.Sections.{holds_code}

-- The symbol names a function.
abbrev pub names_function : Symbol → Bool
names_function symbol = symbol.info % 16 == STT_FUNC

-- The start of a range, or its end if the end is an address.
abbrev pub IsBound : ℕ → ℕ → ℕ → Type 0
IsBound start size a = (a ≡ start) ⊎ ((a ≡ start + size) × (a < 2 ^ 64))

-- A bound of a function symbol, or of a section with code.
abbrev pub IsCutAddress : List Symbol → List Section → ℕ → Type 0
IsCutAddress symbols sections a =
    Any (λ symbol. IsTrue (names_function symbol) × IsBound symbol.value symbol.size a) symbols
    ⊎ Any (λ section. IsTrue (holds_code section.flags) × IsBound section.addr section.size a) sections

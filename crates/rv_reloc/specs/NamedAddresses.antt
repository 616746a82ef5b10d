-- The addresses that relocations for lower parts refer to.
use Rattle.std.specs.Prelude.{◌≡◌, ◌<◌, ◌↔◌, ℕ, List, IsTrue, Contains, AllPairs}
use Rattle.elf_image.specs.declared.elf.Elf.{Elf}
use Rattle.elf_code.specs.Relocations.{Relocation, symbol_value, is_pcrel_lo}
use Rattle.elf_code.specs.ReferenceFaults.{IsNamedByLow}

-- A relocation for a lower part refers to the address `a`.
pub record NamesUpper (elf : Elf) (r : Relocation) (a : ℕ) : Type 0 where
  pub is_low : IsTrue (is_pcrel_lo r.kind)
  pub names : symbol_value elf r ≡ a

-- All addresses that relocations for lower parts refer to, ascending.
pub record AreNamed (elf : Elf) (named : List ℕ) : Type 0 where
  pub all : (a : ℕ) → Contains named a ↔ IsNamedByLow elf a
  pub ascending : AllPairs (λ a b. a < b) named

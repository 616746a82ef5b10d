-- Signs of routines that are selected when a program starts, and of files that were rewritten before.
use Rattle.std.proofs.Common.{◌≡◌, ◌≢◌, ◌%◌, ℕ, ◌⊎◌, inl, inr, Option}
use Rattle.elf_image.specs.declared.elf.Elf.{Elf}
use Rattle.elf_image.specs.declared.section.Section.{Section}
use Rattle.elf_image.specs.declared.symbol.Symbol.{Symbol}
use Rattle.elf_image.specs.declared.relocation.TheConstants.{R_RISCV_IRELATIVE}
use Rattle.elf_image.specs.declared.symbol.TheConstants.{STT_GNU_IFUNC}
use Rattle.elf_code.specs.Relocations.{HasRelocation}
use Rattle.elf_image.specs.faults.LowestPlace.{IsLowest, lower}
use Rattle.elf_code.specs.ReferenceFaults.{IsStubs, IsIfuncOrPlt}
use Rattle.elf_image.proofs.LowestPlaces.{IsLowest-same, IsLowest-lower}
use Rattle.rv_reloc.specs.Places.{IsPlaceOf}

abbrev pub Symbols : Elf → ℕ → Type 0
Symbols elf = IsPlaceOf (λ (s : Symbol). s.value) (λ s. s.info % 16 ≡ STT_GNU_IFUNC) elf.symbols.items

abbrev pub Stubs : Elf → ℕ → Type 0
Stubs elf = IsPlaceOf (λ (s : Section). s.addr) (λ s. IsStubs s × (s.size ≢ 0)) elf.sections.items

abbrev pub Relatives : Elf → ℕ → Type 0
Relatives elf = HasRelocation elf (λ r. r.kind ≡ R_RISCV_IRELATIVE)

to : (elf : Elf) (p : ℕ) → (Symbols elf p ⊎ Stubs elf p) ⊎ Relatives elf p → IsIfuncOrPlt elf p
to elf p (inl (inl is)) =
    let (k, within, there) = is.listed in
    IsIfuncOrPlt.symbol (k, is.item, within, there, (is.bad, is.place_is))
to elf p (inl (inr is)) =
    let (k, within, there) = is.listed in IsIfuncOrPlt.section (k, is.item, within, there, (is.bad.0, is.bad.1, is.place_is))
to elf p (inr is) = IsIfuncOrPlt.relocation is

from : (elf : Elf) (p : ℕ) → IsIfuncOrPlt elf p → (Symbols elf p ⊎ Stubs elf p) ⊎ Relatives elf p
from elf p (IsIfuncOrPlt.symbol (k, s, within, there, (bad, place))) =
    inl (inl (record { item = s; listed = (k, within, there); bad = bad; place_is = place }))
from elf p (IsIfuncOrPlt.section (k, s, within, there, (stubs, some, place))) =
    inl (inr (record { item = s; listed = (k, within, there); bad = (stubs, some); place_is = place }))
from elf p (IsIfuncOrPlt.relocation is) = inr is

pub IsLowest-selecting : (elf : Elf) (a b c both all : Option ℕ) → both ≡ lower a b → all ≡ lower both c →
    IsLowest (Symbols elf) a → IsLowest (Stubs elf) b → IsLowest (Relatives elf) c → IsLowest (IsIfuncOrPlt elf) all
IsLowest-selecting elf a b c both all is is' symbols stubs relatives =
    IsLowest-same all (to elf) (from elf) (IsLowest-lower both c all is' (IsLowest-lower a b both is symbols stubs) relatives)

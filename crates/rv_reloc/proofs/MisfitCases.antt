-- Relocations that don't fit, by reason.
use Rattle.std.proofs.Common.{◌≡◌, ℕ, ◌<◌, ◌≤◌, pos, ◌⊎◌, inl, inr, ⊎_elim, List, Option, arith}
use Rattle.std.proofs.lemmas.Bool.{cases_lt}
use Rattle.std.proofs.lemmas.Int.{ints}
use Rattle.elf_image.specs.declared.elf.Elf.{Elf}
use Rattle.elf_code.specs.Fields.{HasField}
use Rattle.elf_code.specs.Relocations.{Relocation, HasRelocation}
use Rattle.elf_image.specs.faults.LowestPlace.{IsLowest, lower}
use Rattle.elf_code.specs.ReferenceFaults.{IsAddress, IsBadField, IsBadPair, IsMisfit}
use Rattle.elf_image.proofs.LowestPlaces.{IsLowest-same, IsLowest-lower}
use Rattle.rv_reloc.specs.declared.records.Record.{Record}
use Rattle.rv_reloc.specs.BadEntries.{HasBadEntry}
use Rattle.rv_reloc.specs.Misfits.{HasBadSymbol, IsUnfit}
use Rattle.rv_reloc.specs.Pairs.{MakesNoAddress}
use Rattle.rv_reloc.specs.Places.{IsPlaceOf}
use Rattle.rv_reloc.specs.Records.{seen, AreRecords}
use Rattle.rv_reloc.proofs.UnfitPlaces.{lowest-unfit}

pub bad_symbol : (elf : Elf) (r : Relocation) → HasBadSymbol elf r → IsBadField elf r
bad_symbol elf r (named, past) = IsBadField.symbol named past

pub field_cases : {P : Type 0} (elf : Elf) (r : Relocation) → (HasBadSymbol elf r → P) →
    ((HasField elf r → ⊥) → P) → IsBadField elf r → P
field_cases elf r symbol field (IsBadField.symbol named past) = symbol (named, past)
field_cases elf r symbol field (IsBadField.field none) = field none

-- The target of a bad pair is the address of an entry, or isn't an address.
entry_cases : (elf : Elf) (r : Relocation) → IsBadPair elf r → MakesNoAddress elf r ⊎ HasBadEntry elf r
entry_cases elf r (IsBadPair.address target makes unfit) = inl (record { number = target; makes = makes; unfit = unfit })
entry_cases elf r (IsBadPair.slot is entry makes unfit) =
    ⊎_elim
    (λ (low : entry < 0x7fff0001). inr
    (record { is_slot = is; entry = entry; makes = makes; address = (omega (arith, ints), omega (arith, ints)); unfit = unfit }))
    (λ (high : 0x7fff0001 ≤ entry). inl
    (record {
      number = pos entry;
      makes = makes;
      unfit = λ (address : IsAddress (pos entry)). let upto = address.1 in omega (arith, ints);
    }))
    (cases_lt entry 0x7fff0001)

unfit_cases : (elf : Elf) (r : Relocation) → IsMisfit elf r → IsUnfit elf r ⊎ HasBadEntry elf r
unfit_cases elf r (IsMisfit.field is) = inl (inl (inl is))
unfit_cases elf r (IsMisfit.call is) = inl (inl (inr (inl (inl is))))
unfit_cases elf r (IsMisfit.upper is) = inl (inl (inr (inl (inr is))))
unfit_cases elf r (IsMisfit.pair is) = ⊎_elim (λ far. inl (inr (inl far))) (λ entry. inr entry) (entry_cases elf r is)
unfit_cases elf r (IsMisfit.lower is) = inl (inl (inr (inr (inl is))))
unfit_cases elf r (IsMisfit.absolute is) = inl (inl (inr (inr (inr is))))
unfit_cases elf r (IsMisfit.difference is) = inl (inr (inr is))

of_unfit : (elf : Elf) (r : Relocation) → IsUnfit elf r → IsMisfit elf r
of_unfit elf r (inl (inl is)) = IsMisfit.field is
of_unfit elf r (inl (inr (inl (inl is)))) = IsMisfit.call is
of_unfit elf r (inl (inr (inl (inr is)))) = IsMisfit.upper is
of_unfit elf r (inl (inr (inr (inl is)))) = IsMisfit.lower is
of_unfit elf r (inl (inr (inr (inr is)))) = IsMisfit.absolute is
of_unfit elf r (inr (inl far)) = IsMisfit.pair (IsBadPair.address far.number far.makes far.unfit)
of_unfit elf r (inr (inr is)) = IsMisfit.difference is

of_entry : (elf : Elf) (r : Relocation) → HasBadEntry elf r → IsMisfit elf r
of_entry elf r bad = IsMisfit.pair (IsBadPair.slot bad.is_slot bad.entry bad.makes bad.unfit)

-- All places.

to_misfit : (elf : Elf) (p : ℕ) → HasRelocation elf (IsUnfit elf) p ⊎ HasRelocation elf (HasBadEntry elf) p →
    HasRelocation elf (IsMisfit elf) p
to_misfit elf p (inl has) =
    record { relocation = has.relocation; counts = has.counts; is = of_unfit elf has.relocation has.is; place_is = has.place_is }
to_misfit elf p (inr has) =
    record { relocation = has.relocation; counts = has.counts; is = of_entry elf has.relocation has.is; place_is = has.place_is }

from_misfit : (elf : Elf) (p : ℕ) → HasRelocation elf (IsMisfit elf) p → HasRelocation elf (IsUnfit elf) p
    ⊎ HasRelocation elf (HasBadEntry elf) p
from_misfit elf p has =
    ⊎_elim
    (λ unfit. inl (record { relocation = has.relocation; counts = has.counts; is = unfit; place_is = has.place_is }))
    (λ entry. inr (record { relocation = has.relocation; counts = has.counts; is = entry; place_is = has.place_is }))
    (unfit_cases elf has.relocation has.is)

pub IsLowest-misfit : (elf : Elf) (records : List Record) (a b all : Option ℕ) → AreRecords elf records → all ≡ lower a b →
    IsLowest (IsPlaceOf (λ r. r.place) (λ r. IsUnfit elf (seen r)) records) a → IsLowest (HasRelocation elf (HasBadEntry elf)) b →
    IsLowest (HasRelocation elf (IsMisfit elf)) all
IsLowest-misfit elf records a b all are joined unfit entry =
    IsLowest-same all (to_misfit elf) (from_misfit elf)
    (IsLowest-lower a b all joined (lowest-unfit elf records are a unfit) entry)

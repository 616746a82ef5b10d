-- The lowest place of a relocation with a property, from the records.
use Rattle.std.proofs.Common.{sym, subst, ap, ◌∙◌, ℕ, List, Option}
use Rattle.std.specs.List.{Contains}
use Rattle.elf_image.specs.declared.elf.Elf.{Elf}
use Rattle.elf_image.specs.declared.section.Section.{Section}
use Rattle.elf_image.specs.faults.LowestPlace.{IsLowest}
use Rattle.elf_code.specs.Relocations.{Relocation, relocations, HasRelocation}
use Rattle.elf_image.proofs.LowestPlaces.{IsLowest-same}
use Rattle.rv_reloc.specs.declared.records.Record.{Record}
use Rattle.rv_reloc.specs.Places.{IsPlaceOf}
use Rattle.rv_reloc.specs.Records.{seen, AreRecords}
use Rattle.rv_reloc.specs.Thinned.{for_section}
use Rattle.rv_reloc.proofs.Kept.{counts, kept}

pub of_record : (elf : Elf) (records : List Record) (Is : Relocation → Type 0) (place : ℕ) → AreRecords elf records →
    IsPlaceOf (λ r. r.place) (λ r. Is (seen r)) records place → HasRelocation elf Is place
of_record elf records Is place are is = record {
  relocation = seen is.item;
  counts = counts elf records is.item are is.listed;
  is = is.bad;
  place_is = is.place_is;
}

-- What holds for a relocation holds for each section that it applies to.
abbrev pub IsForEach : Elf → (Relocation → Type 0) → Type 0
IsForEach elf Is = (s : Section) (r : Relocation) → Contains (relocations elf) r → Contains (relocations elf) (for_section s r) →
    Is r → Is (for_section s r)

of_relocation : (elf : Elf) (records : List Record) (Is : Relocation → Type 0) (place : ℕ) → AreRecords elf records →
    IsForEach elf Is → HasRelocation elf Is place → IsPlaceOf (λ r. r.place) (λ r. Is (seen r)) records place
of_relocation elf records Is place are each is =
    let (s, r, listed, same, counts) = kept elf records is.relocation are is.counts in
    record {
      item = r;
      listed = listed;
      bad = subst Is (sym same) (each s is.relocation is.counts counts is.is);
      place_is = ap (λ (q : Relocation). q.place) same ∙ is.place_is;
    }

pub lowest-relocation : (elf : Elf) (records : List Record) (Is : Relocation → Type 0) (lowest : Option ℕ) →
    AreRecords elf records → IsForEach elf Is →
    IsLowest (IsPlaceOf (λ r. r.place) (λ r. Is (seen r)) records) lowest → IsLowest (HasRelocation elf Is) lowest
lowest-relocation elf records Is lowest are each is =
    IsLowest-same lowest (λ p. of_record elf records Is p are) (λ p. of_relocation elf records Is p are each) is

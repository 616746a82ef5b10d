-- The addresses that relocations for lower parts refer to.
use Rattle.std.proofs.Common.{sym, subst, ℕ, ◌↔◌, List}
use Rattle.std.specs.List.{Contains}
use Rattle.std.specs.List.Sorted.{IsStrictlyIncreasing}
use Rattle.std.proofs.lemmas.List.Kept.{AllPairs-from_increasing}
use Rattle.elf_image.specs.declared.elf.Elf.{Elf}
use Rattle.elf_code.specs.Relocations.{Relocation}
use Rattle.rv_reloc.specs.declared.records.Record.{Record}
use Rattle.rv_reloc.specs.Finds.{AreFound}
use Rattle.rv_reloc.specs.NamedAddresses.{NamesUpper, AreNamed}
use Rattle.rv_reloc.specs.Records.{seen, AreRecords}
use Rattle.rv_reloc.proofs.Kept.{counts, kept}

pub AreNamed-ascending : (elf : Elf) (records : List Record) (were named : List ℕ) → AreRecords elf records →
    AreFound (λ r a. NamesUpper elf (seen r) a) records were → ((a : ℕ) → Contains named a ↔ Contains were a) →
    IsStrictlyIncreasing named → AreNamed elf named
AreNamed-ascending elf records were named are found same rising = record {
  all = λ a. (
    λ listed.
        let (r, has_r, is) = found.only a ((same a).0 listed) in
        let (k, within, there) = counts elf records r are has_r in
        (k, seen r, within, there, (is.is_low, is.names)),
    λ (k, r, within, there, (is_low, names)).
        let (s, q, listed, is, counts) = kept elf records r are (k, within, there) in
        (same a).1 (found.each q a listed
        (subst (λ (t : Relocation). NamesUpper elf t a) (sym is) (record { is_low = is_low; names = names }))),
  );
  ascending = AllPairs-from_increasing named rising;
}

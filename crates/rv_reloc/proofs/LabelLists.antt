-- The labels that GOT entries should have.
use Rattle.std.proofs.Common.{sym, subst, List}
use Rattle.std.specs.List.{AllPairs}
use Rattle.std.specs.List.Sorted.{IsPermutation}
use Rattle.std.proofs.lemmas.List.Sorted.{Contains-permutation, IsPermutation-sym}
use Rattle.elf_image.specs.declared.elf.Elf.{Elf}
use Rattle.elf_code.specs.Relocations.{Relocation}
use Rattle.rv_reloc.specs.declared.records.Record.{Record}
use Rattle.rv_reloc.specs.declared.slots.SlotLabel.{SlotLabel}
use Rattle.rv_reloc.specs.Finds.{AreFound}
use Rattle.rv_reloc.specs.Records.{seen, AreRecords}
use Rattle.rv_reloc.specs.Slots.{IsSlotLabelOf, IsLabelFrom, AreSlotLabels}
use Rattle.rv_reloc.proofs.Alike.{label-for}
use Rattle.rv_reloc.proofs.Kept.{counts, kept}

pub AreSlotLabels-sorted : (elf : Elf) (records : List Record) (were labels : List SlotLabel) → AreRecords elf records →
    AreFound (λ r s. IsSlotLabelOf elf (seen r) s) records were → IsPermutation were labels →
    AllPairs (λ s t. IsLabelFrom s.place s.label t) labels → AreSlotLabels elf labels
AreSlotLabels-sorted elf records were labels are found moved ordered = record {
  all = λ s. (
    λ listed.
        let (r, has_r, is) = found.only s (Contains-permutation labels were s (IsPermutation-sym were labels moved) listed) in
        record { source = seen r; counts = counts elf records r are has_r; is = is },
    λ is.
        let (t, r, listed, same, there) = kept elf records is.source are is.counts in
        Contains-permutation were labels s moved
        (found.each r s listed
        (subst (λ (q : Relocation). IsSlotLabelOf elf q s) (sym same) (label-for elf t is.source there s is.is))),
  );
  ordered = ordered;
}

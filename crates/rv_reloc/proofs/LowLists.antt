-- The lower parts that relocations give.
use Rattle.std.proofs.Common.{◌≡◌, ◌∙◌, sym, subst, ℕ, ℤ, List, Option, Some}
use Rattle.std.specs.List.{Contains}
use Rattle.std.specs.List.Sorted.{IsNonDecreasingBy, IsPermutation}
use Rattle.std.proofs.lemmas.List.Sorted.{Contains-permutation, IsPermutation-sym}
use Rattle.elf_image.specs.declared.elf.Elf.{Elf}
use Rattle.elf_code.specs.Relocations.{Relocation}
use Rattle.rv_reloc.specs.declared.records.Record.{Record}
use Rattle.rv_reloc.specs.declared.lows.Low.{Low}
use Rattle.rv_reloc.specs.Finds.{AreFound}
use Rattle.rv_reloc.specs.Lows.{IsLowOf, IsLowPart, AreLows}
use Rattle.rv_reloc.specs.Records.{seen, AreRecords}
use Rattle.rv_reloc.proofs.Kept.{counts, kept}

low_part : (elf : Elf) (records : List Record) (l : Low) (r : Record) → AreRecords elf records → Contains records r →
    IsLowOf elf (seen r) l → IsLowPart elf l
low_part elf records l r are listed is = record {
  source = seen r;
  part = record {
    counts = counts elf records r are listed;
    is_low = is.is_low;
    names = is.names;
    inst = is.inst;
    there = is.there;
    immediate = is.immediate;
  };
}

low_of : (elf : Elf) (records : List Record) (l : Low) → AreRecords elf records → (is : IsLowPart elf l) → (r : Record)
    × Contains records r × IsLowOf elf (seen r) l
low_of elf records l are is =
    let (s, r, listed, same, counts) = kept elf records is.source are is.part.counts in (
      r,
      listed,
      subst (λ (q : Relocation). IsLowOf elf q l) (sym same) (record {
        is_low = is.part.is_low;
        names = is.part.names;
        inst = is.part.inst;
        there = is.part.there;
        immediate = is.part.immediate;
      }),
    )

pub AreLows-sorted : (elf : Elf) (records : List Record) (were lows : List Low) → AreRecords elf records →
    AreFound (λ r l. IsLowOf elf (seen r) l) records were → IsPermutation were lows →
    IsNonDecreasingBy (λ l. l.hi) lows → AreLows elf lows
AreLows-sorted elf records were lows are found moved rising = record {
  all = λ l. (
    λ listed. let (r, has_r, is) = found.only l (Contains-permutation lows were l (IsPermutation-sym were lows moved) listed) in
        low_part elf records l r are has_r is,
    λ is. let (r, listed, low) = low_of elf records l are is in
        Contains-permutation were lows l moved (found.each r l listed low),
  );
  rising = rising;
}

pub low_same : (hi : ℕ) (imm imm' : ℤ) (l : Low) (o : Option ℤ) → l.hi ≡ hi → imm' ≡ imm → o ≡ Some imm → o ≡ Some l.imm →
    Some (record { hi = hi; imm = imm' }) ≡ Some l
low_same hi imm imm' l o his same is is' =
    let e : imm ≡ l.imm = cc in
    let f : imm' ≡ l.imm = same ∙ e in
    λ i. Some (record { hi = sym his i; imm = f i })

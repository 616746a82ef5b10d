-- Relocations, and the records that are kept for them.
use Rattle.std.proofs.Common.{◌≡◌, ◌∙◌, sym, subst, ap, ℕ, ◌↔◌, Bool, ◌==◌, ◌&&◌, IsTrue, List, map, Option, Some, IfSome}
use Rattle.std.specs.List.{Contains, Any}
use Rattle.std.specs.List.Sorted.{IsPermutation}
use Rattle.std.proofs.lemmas.List.Sorted.{IsPermutation-map}
use Rattle.elf_image.specs.declared.elf.Elf.{Elf}
use Rattle.elf_image.specs.declared.section.Section.{Section}
use Rattle.elf_code.specs.Cells.{IsOnly}
use Rattle.elf_code.specs.Relocations.{Relocation, relocations, HasRelocation}
use Rattle.rv_reloc.specs.declared.records.Record.{Record}
use Rattle.rv_reloc.specs.Index.{class}
use Rattle.rv_reloc.specs.Records.{seen, AreRecords, AreInOrder, has_key, FindsOnly}
use Rattle.rb_bytes.proofs.ListLemmas.{from_map, in_map}
use Rattle.rv_reloc.specs.Thinned.{for_section, IsThinned}
use Rattle.rv_reloc.proofs.Only.{only-thinned, thinned-only, only-map, only-from_map, some-only, only-some}
use Rattle.rv_reloc.proofs.Thinning.{thinned-moved, thinned-trans}
use Rattle.rv_reloc.proofs.Ordered.{has_key-true, has_key-same}

pub counts : (elf : Elf) (records : List Record) (r : Record) → AreRecords elf records → Contains records r →
    Contains (relocations elf) (seen r)
counts elf records r are listed = are.all.back (seen r) (in_map seen records r listed)

-- A relocation is kept for one of the sections that it applies to.
pub kept : (elf : Elf) (records : List Record) (r : Relocation) → AreRecords elf records →
    Contains (relocations elf) r → (s : Section) × (q : Record)
    × Contains records q × (seen q ≡ for_section s r) × Contains (relocations elf) (for_section s r)
kept elf records r are listed =
    let (s, is_kept, up) = are.all.starts r listed in
    let (q, is_in, same) = from_map seen records (for_section s r) is_kept in
    (s, q, is_in, same, are.all.back (for_section s r) is_kept)

pub AreRecords-sorted : (elf : Elf) (all entries : List Relocation) (were records : List Record) → all ≡ relocations elf →
    IsThinned all entries → map seen were ≡ entries → IsPermutation were records → AreInOrder records → AreRecords elf records
AreRecords-sorted elf all entries were records all_are thinned same moved ordered = record {
  all = subst (λ (rs : List Relocation). IsThinned rs (map seen records)) all_are
      (thinned-trans all (map seen were) (map seen records)
      (subst (λ (rs : List Relocation). IsThinned all rs) (sym same) thinned)
      (thinned-moved (map seen were) (map seen records) (IsPermutation-map seen were records moved)));
  ordered = ordered;
}

-- Some relocation with a place and class.
pub any-relocation : (elf : Elf) (records : List Record) (place at : ℕ) (is : ℕ → Bool) →
    ((kind : ℕ) → (class kind ≡ at) ↔ IsTrue (is kind)) → AreRecords elf records →
    Any (λ r. IsTrue (has_key place at r)) records ↔ HasRelocation elf (λ r. IsTrue (is r.kind)) place
any-relocation elf records place at is tells are = (
  λ (k, x, within, there, passes).
      let (p, c) = has_key-true place at x passes in
      record { relocation = seen x; counts = counts elf records x are (k, within, there); is = (tells x.kind).0 c; place_is = p },
  λ has.
      let (s, q, listed, same, counts) = kept elf records has.relocation are has.counts in
      let (k, within, there) = listed in
      let kind : q.kind ≡ has.relocation.kind = ap (λ (r : Relocation). r.kind) same in (
        k,
        q,
        within,
        there,
        has_key-same place at q (ap (λ (r : Relocation). r.place) same ∙ has.place_is)
            ((tells q.kind).1 (subst (λ (n : ℕ). IsTrue (is n)) (sym kind) has.is)),
      ),
)

-- The only relocation with a place and class.
pub only-relocation : (elf : Elf) (records : List Record) (place at : ℕ) (is : Relocation → Bool) →
    ((r : Relocation) → is r ≡ (r.place == place && class r.kind == at)) → AreRecords elf records → (q : Record) →
    IsOnly (has_key place at) records q → IsOnly is (relocations elf) (seen q)
only-relocation elf records place at is same are q only =
    only-thinned is (relocations elf) (map seen records) (seen q) (λ s r. same (for_section s r) ∙ sym (same r)) are.all
    (only-map seen is records q (subst (λ (test : Record → Bool). IsOnly test records q) (λ i r. sym (same (seen r)) i) only))

pub only-kept : (elf : Elf) (records : List Record) (place at : ℕ) (is : Relocation → Bool) →
    ((r : Relocation) → is r ≡ (r.place == place && class r.kind == at)) → AreRecords elf records → (r : Relocation) →
    IsOnly is (relocations elf) r → (q : Record) × IsOnly (has_key place at) records q × (seen q ≡ r)
only-kept elf records place at is same are r only =
    let (q, one, there) =
    only-from_map seen is records r
    (thinned-only is (relocations elf) (map seen records) r (λ s q. same (for_section s q) ∙ sym (same q)) are.all only) in
    (q, subst (λ (test : Record → Bool). IsOnly test records q) (λ i z. same (seen z) i) one, there)

-- The result of a search for a place and class.
pub finds-only : (records : List Record) (place at n : ℕ) (is : Relocation → Bool) (found : Option Record) → n ≡ at →
    ((r : Relocation) → is r ≡ (r.place == place && class r.kind == at)) →
    IfSome found (IsOnly (has_key place n) records) →
    ((q : Record) → IsOnly (has_key place n) records q → found ≡ Some q) → FindsOnly is records found
finds-only records place at n is found class_is same one none_else = record {
  is = λ elf are. some-only found
      (λ q only. only-relocation elf records place at is same are q
      (subst (λ (m : ℕ). IsOnly (has_key place m) records q) class_is only))
      one;
  only = λ elf r are passing.
      let (q, only, there) = only-kept elf records place at is same are r passing in
      only-some seen r found q
      (none_else q (subst (λ (m : ℕ). IsOnly (has_key place m) records q) (sym class_is) only)) there;
}

-- The lowest place of a relocation that doesn't fit, from the kept records.
use Rattle.std.proofs.Common.{◌≡◌, ◌∙◌, sym, subst, ap, refl, ℕ, ◌+◌, ◌-◌, ◌≤◌, ◌<◌, inl, inr, ⊎_elim}
use Rattle.std.proofs.Common.{List, Option, Some, None, IsSomeAnd, map, length, arith}
use Rattle.std.specs.List.{Contains}
use Rattle.std.specs.Prelude.{option_map}
use Rattle.std.proofs.lemmas.Bool.{cases_lt}
use Rattle.rb_bytes.proofs.ListLemmas.{from_map}
use Rattle.rb_bytes.proofs.Options.{the_some}
use Rattle.elf_image.specs.declared.elf.Elf.{Elf}
use Rattle.elf_image.specs.declared.section.Section.{Section}
use Rattle.elf_image.specs.faults.LowestPlace.{IsLowest}
use Rattle.elf_code.specs.Fields.{leb_at, width_size, size_by, field_size, HasField}
use Rattle.elf_code.specs.ReferenceFaults.{IsBadField}
use Rattle.elf_code.specs.Relocations.{Relocation, relocations, HasRelocation, Width, Bits, Uleb128, plus_width, minus_width}
use Rattle.rv_reloc.specs.declared.records.Record.{Record}
use Rattle.rv_reloc.specs.AppliesTo.{end_of}
use Rattle.rv_reloc.specs.Misfits.{IsUnfit}
use Rattle.rv_reloc.specs.Places.{IsPlaceOf}
use Rattle.rv_reloc.specs.Records.{seen, AreRecords}
use Rattle.rv_reloc.specs.Thinned.{for_section}
use Rattle.rv_reloc.proofs.Alike.{call-for, upper-for, lower-for, absolute-for, far-for, bad_difference-for}
use Rattle.rv_reloc.proofs.Faulty.{of_record}
use Rattle.rv_reloc.proofs.Lebs.{bytes-from}

-- A relocation's field is in each section that the relocation applies to, if it is in one that starts at the same
-- address or later and in one that ends at the same address or earlier.

leb_more : (elf : Elf) (a n m : ℕ) (bs : List ℕ) → leb_at elf a n ≡ Some bs → n ≤ m → leb_at elf a m ≡ Some bs
leb_more elf a n m bs is upto =
    let are = bytes-from elf n a bs is in
    ⊎_elim
    (λ (short : n < length bs). let none : None ≡ Some bs = sym (are.beyond n short) ∙ is in absurd (cc))
    (λ (long : length bs ≤ n). are.within m (omega (arith, long, upto)))
    (cases_lt n (length bs))

module _ (elf : Elf) (s t : Section) (r : Relocation) (sooner : end_of t ≤ end_of s) where
  width-more : (w : Width) (n : ℕ) → width_size elf (for_section t r) w ≡ Some n → width_size elf (for_section s r) w ≡ Some n
  width-more (Bits k) n is = is
  width-more Uleb128 n is = by (leb_at elf r.place (end_of t - r.place)) refl is
    where
      by : (o : Option (List ℕ)) → leb_at elf r.place (end_of t - r.place) ≡ o → option_map length o ≡ Some n →
          option_map length (leb_at elf r.place (end_of s - r.place)) ≡ Some n
      by None none e = absurd (cc)
      by (Some bs) there e =
          ap (option_map length) (leb_more elf r.place (end_of t - r.place) (end_of s - r.place) bs there (omega (arith, sooner))) ∙ e

  by-more : (plus minus : Option Width) (n : ℕ) → size_by elf (for_section t r) plus minus ≡ Some n →
      size_by elf (for_section s r) plus minus ≡ Some n
  by-more (Some w) minus n is = width-more w n is
  by-more None (Some w) n is = width-more w n is
  by-more None None n is = is

  size-more : (n : ℕ) → field_size elf (for_section t r) ≡ Some n → field_size elf (for_section s r) ≡ Some n
  size-more n is = by-more (plus_width r.kind) (minus_width r.kind) n is

field-between : (elf : Elf) (s t : Section) (r : Relocation) → r.section.addr ≤ s.addr → end_of t ≤ end_of r.section →
    HasField elf (for_section s r) → HasField elf (for_section t r) → HasField elf r
field-between elf s t r starts ends (inl ignored) there = inl ignored
field-between elf s t r starts ends (inr is) (inl ignored) = inl ignored
field-between elf s t r starts ends (inr is) (inr is') =
    let (n, size, (low, high)) = the_some (λ size. (s.addr ≤ r.place) × (r.place + size ≤ s.addr + s.size))
    (field_size elf (for_section s r)) is in
    let (m, size', (low', high')) = the_some (λ size. (t.addr ≤ r.place) × (r.place + size ≤ t.addr + t.size))
    (field_size elf (for_section t r)) is' in
    inr (subst (λ (o : Option ℕ). IsSomeAnd o (λ size. (r.section.addr ≤ r.place) × (r.place + size ≤ end_of r.section)))
    (sym (size-more elf r.section t r ends m size')) (omega (arith, starts, low), omega (arith, ends, high')))

-- The lowest place of a set, if each of its places is in another set, and each place of the other set is, up to double
-- negation, in it.
lowest-denied : {P Q : ℕ → Type 0} (o : Option ℕ) → ((p : ℕ) → P p → Q p) → ((p : ℕ) → Q p → (P p → ⊥) → ⊥) →
    IsLowest P o → IsLowest Q o
lowest-denied None to from is = record { present = is.present; least = λ p q. absurd (from p q (λ here. is.least p here)) }
lowest-denied (Some l) to from is = record {
  present = to l is.present;
  least = λ p q. ⊎_elim
      (λ (below : p < l). absurd (from p q (λ here. let upto : l ≤ p = is.least p here in omega (arith, upto, below))))
      (λ (upto : l ≤ p). upto)
      (cases_lt p l);
}

module _ (elf : Elf) (records : List Record) (are : AreRecords elf records) where
  abbrev unfit_at : ℕ → Type 0
  unfit_at = IsPlaceOf (λ (q : Record). q.place) (λ (q : Record). IsUnfit elf (seen q)) records

  -- If all kept relocations fit, a relocation that is kept for a section fits.
  fits : (p : ℕ) (r : Relocation) (s : Section) → r.place ≡ p → Contains (map seen records) (for_section s r) →
      (unfit_at p → ⊥) → IsUnfit elf (for_section s r) → ⊥
  fits p r s place listed none bad =
      let (q, is_in, same) = from_map seen records (for_section s r) listed in
      none (record {
        item = q;
        listed = is_in;
        bad = subst (IsUnfit elf) (sym same) bad;
        place_is = ap (λ (x : Relocation). x.place) same ∙ place;
      })

  missed : (p : ℕ) (r : Relocation) → r.place ≡ p → Contains (relocations elf) r → IsUnfit elf r → (unfit_at p → ⊥) → ⊥
  missed p r place counted is none =
      let (s, kept, up) = are.all.starts r counted in
      let (t, kept', down) = are.all.ends r counted in
      by s t up down (fits p r s place kept none) (fits p r t place kept' none) (are.all.back (for_section s r) kept) is
    where
      by : (s t : Section) → r.section.addr ≤ s.addr → end_of t ≤ end_of r.section →
          (IsUnfit elf (for_section s r) → ⊥) → (IsUnfit elf (for_section t r) → ⊥) →
          Contains (relocations elf) (for_section s r) → IsUnfit elf r → ⊥
      by s t up down fit fit' counts (inl (inl (IsBadField.symbol named past))) = fit (inl (inl (IsBadField.symbol named past)))
      by s t up down fit fit' counts (inl (inl (IsBadField.field lacks))) =
          fit (inl (inl (IsBadField.field (λ has. fit' (inl (inl (IsBadField.field (λ has'.
          lacks (field-between elf s t r up down has has')))))))))
      by s t up down fit fit' counts (inl (inr (inl (inl bad)))) = fit (inl (inr (inl (inl (call-for elf s r counted counts bad)))))
      by s t up down fit fit' counts (inl (inr (inl (inr bad)))) = fit (inl (inr (inl (inr (upper-for elf s r counted counts bad)))))
      by s t up down fit fit' counts (inl (inr (inr (inl bad)))) = fit (inl (inr (inr (inl (lower-for elf s r counted counts bad)))))
      by s t up down fit fit' counts (inl (inr (inr (inr bad)))) =
          fit (inl (inr (inr (inr (absolute-for elf s r counted counts bad)))))
      by s t up down fit fit' counts (inr (inl far)) = fit (inr (inl (far-for elf s r counts far)))
      by s t up down fit fit' counts (inr (inr bad)) = fit (inr (inr (bad_difference-for elf s r counted counts bad)))

  pub lowest-unfit : (lowest : Option ℕ) → IsLowest unfit_at lowest → IsLowest (HasRelocation elf (IsUnfit elf)) lowest
  lowest-unfit lowest is = lowest-denied lowest (λ p here. of_record elf records (IsUnfit elf) p are here)
      (λ p has none. missed p has.relocation has.place_is has.counts has.is none) is

-- The fields that can be cells, as they are found and sorted.
use Rattle.std.proofs.Common.{◌≡◌, ◌≢◌, ◌∙◌, sym, ap, subst, refl, ℕ, ◌/◌, ◌<◌, ℤ, pos, ◌<ℤ◌, ◌≤ℤ◌, ◌⊎◌, inl, inr, ⊎_elim, true}
use Rattle.std.proofs.Common.{List, ◌++◌, Some, slice_index_or, arith}
use Rattle.std.specs.List.{Contains, AllPairs}
use Rattle.std.specs.List.Sorted.{IsPermutation}
use Rattle.std.proofs.lemmas.Bool.{cases_eq, eq-eqb, ne_eqb}
use Rattle.std.proofs.lemmas.Int.{ints, by_lt_z}
use Rattle.std.proofs.lemmas.List.{get_or_default}
use Rattle.std.proofs.lemmas.List.Elements.{Contains-append_left, Contains-append_right, Contains-append_cases}
use Rattle.std.proofs.lemmas.List.Sorted.{Contains-permutation, IsPermutation-sym}
use Rattle.elf_image.specs.declared.elf.Elf.{Elf}
use Rattle.elf_image.specs.declared.relocation.TheConstants.{R_RISCV_32, R_RISCV_GOT_HI20}
use Rattle.elf_code.specs.Cells.{Field, Content, Address, Difference, CanBeCell, IsField, pointer, slot, difference}
use Rattle.elf_code.specs.Cells.{IsContentBefore, address_width}
use Rattle.elf_code.specs.LoadedNumbers.{loaded_number}
use Rattle.elf_code.specs.Relocations.{Relocation, Bits, is_pcrel_hi}
use Rattle.elf_code.specs.Roles.{PcrelHiTo}
use Rattle.elf_code.proofs.Differences.{difference_counts, difference_bits}
use Rattle.rv_reloc.specs.declared.records.Record.{Record}
use Rattle.rv_reloc.specs.declared.lows.Low.{Low}
use Rattle.rv_reloc.specs.Candidates as found
use Rattle.rv_reloc.specs.Candidates.{AreFree, IsCodeField, IsDifferenceField, IsFieldOf}
use Rattle.rv_reloc.specs.Finds.{AreFound}
use Rattle.rv_reloc.specs.Lows.{AreLows}
use Rattle.rv_reloc.specs.Records.{seen, AreRecords}
use Rattle.rv_reloc.specs.GotFields.{IsSlotOf}
use Rattle.rv_reloc.specs.CountedFields.{IsFieldUpTo, IsKeyUpTo, IsContentUpTo, AreCandidates}
use Rattle.rv_reloc.proofs.Alike.{field-for}
use Rattle.rv_reloc.proofs.Kept.{counts, kept}
use Rattle.rv_reloc.proofs.PairTargets.{target_upper, upper_target}

-- Properties of a field.

address-is : (f : Field) (a b : ℕ) → f.content ≡ Address a → f.content ≡ Address b → a ≡ b
address-is f a b e e' = let g : Address a ≡ Address b = sym e ∙ e' in cc

pub address-loaded : (elf : Elf) (tabled : List (ℕ × ℕ)) (f : Field) (a : ℕ) → IsField elf tabled f → f.content ≡ Address a →
    loaded_number elf f.place f.width ≡ Some a
address-loaded elf tabled f a (pointer r listed is place width to loaded start content) has =
    loaded ∙ ap (λ (x : ℕ). Some x) (address-is f to a content has)
address-loaded elf tabled f a (slot r kind pair width to loaded label start content) has =
    ap (λ (w : ℕ). loaded_number elf f.place w) width ∙ loaded ∙ ap (λ (x : ℕ). Some x) (address-is f to a content has)
address-loaded elf tabled f a (difference r bits to from is can code across place width content) has =
    let e : Address a ≡ Difference to from = sym has ∙ content in absurd (cc)

width_some : (kind : ℕ) → 0 < address_width kind
width_some kind = ⊎_elim
    (λ (e : kind ≡ R_RISCV_32). let w : address_width kind ≡ 4 = rw (eq-eqb kind R_RISCV_32 e) refl in omega arith)
    (λ (e : kind ≢ R_RISCV_32). let w : address_width kind ≡ 8 = rw (ne_eqb kind R_RISCV_32 e) refl in omega arith)
    (cases_eq kind R_RISCV_32)

pub has-bytes : (elf : Elf) (tabled : List (ℕ × ℕ)) (f : Field) → IsField elf tabled f → 0 < f.width
has-bytes elf tabled f (pointer r listed is place width to loaded start content) = let w = width_some r.kind in omega arith
has-bytes elf tabled f (slot r kind pair width to loaded label start content) = omega arith
has-bytes elf tabled f (difference r bits to from is can code across place width content) =
    ⊎_elim (λ (e : bits ≡ 32). let w : bits / 8 ≡ 4 = ap (λ (n : ℕ). n / 8) e in omega arith)
    (λ (e : bits ≡ 64). let w : bits / 8 ≡ 8 = ap (λ (n : ℕ). n / 8) e in omega arith) (difference_bits elf r bits to from is can)

-- The order.

same_field : (f g : Field) → f.place ≡ g.place → f.width ≡ g.width → f.content ≡ g.content → f ≡ g
same_field f g p w c = λ i. record { place = p i; width = w i; content = c i }

contents_up : (elf : Elf) (tabled : List (ℕ × ℕ)) (f g : Field) (c d : Content) → f.content ≡ c → g.content ≡ d →
    CanBeCell elf tabled f → CanBeCell elf tabled g → f.place ≡ g.place → f.width ≡ g.width →
    IsContentUpTo c d → IsContentBefore c d
    ⊎ (c ≡ d)
contents_up elf tabled f g (Address a) (Address b) c_is d_is can can' place width up =
    let one = address-loaded elf tabled f a can.is_field c_is in
    let two = address-loaded elf tabled g b can'.is_field d_is in
    let same : Some a ≡ Some b = sym one ∙ ap (λ (p : ℕ). loaded_number elf p f.width) place
    ∙ ap (λ (w : ℕ). loaded_number elf g.place w) width ∙ two in
    let e : a ≡ b = cc in
    inr (ap (λ (x : ℕ). Address x) e)
contents_up elf tabled f g (Address a) (Difference to from) c_is d_is can can' place width up = inl tt
contents_up elf tabled f g (Difference to from) (Address b) c_is d_is can can' place width up = absurd up
contents_up elf tabled f g (Difference to from) (Difference to' from') c_is d_is can can' place width (inl less) = inl (inl less)
contents_up elf tabled f g (Difference to from) (Difference to' from') c_is d_is can can' place width (inr (same, up)) =
    ⊎_elim
    (λ (less : from <ℤ from'). inl (inr (same, less)))
    (λ (e : from ≡ from'). inr (ap (λ (z : ℤ). Difference z from) same ∙ ap (λ (z : ℤ). Difference to' z) e))
    (strict from from' up)
  where
    strict : (a b : ℤ) → a ≤ℤ b → (a <ℤ b) ⊎ (a ≡ b)
    strict a b up' = by_lt_z a b (λ less. inl less) (λ more. inr (omega (arith, ints)))

field_up : (elf : Elf) (tabled : List (ℕ × ℕ)) (f g : Field) → CanBeCell elf tabled f → CanBeCell elf tabled g → IsKeyUpTo f g →
    IsFieldUpTo f g
field_up elf tabled f g can can' (inl lower) = inl (inl lower)
field_up elf tabled f g can can' (inr (place, inl wider)) = inl (inr (place, inl wider))
field_up elf tabled f g can can' (inr (place, inr (width, up))) =
    ⊎_elim
    (λ before. inl (inr (place, inr (width, before))))
    (λ same. inr (same_field f g place width same))
    (contents_up elf tabled f g f.content g.content refl refl can can' place width up)

-- All fields.

pub can-be : (elf : Elf) (tabled : List (ℕ × ℕ)) (records : List Record) (r : Record) (f : Field) → AreRecords elf records →
    Contains records r → IsFieldOf elf tabled (seen r) f → CanBeCell elf tabled f
can-be elf tabled records r f are listed (found.pointer is code) = record {
  is_field = pointer (seen r) (counts elf records r are listed) is code.place_is code.width_is code.to
      (ap (λ (p : ℕ). loaded_number elf p f.width) code.place_is ∙ ap (λ (w : ℕ). loaded_number elf r.place w) code.width_is
      ∙ code.loaded) code.is_start code.content_is;
  from_file = let free = moved elf f r.place _ code.place_is code.width_is code.free in free.from_file;
  no_header = let free = moved elf f r.place _ code.place_is code.width_is code.free in free.no_header;
}
  where
    moved : (e : Elf) (g : Field) (place width : ℕ) → g.place ≡ place → g.width ≡ width → AreFree e place width →
        AreFree e g.place g.width
    moved e g place width p w free = subst (λ (x : ℕ). AreFree e x g.width) (sym p) (subst (AreFree e place) (sym w) free)
can-be elf tabled records r f are listed (found.difference d) = record {
  is_field = difference (seen r) d.bits d.to d.from d.is d.can_be d.has_code d.across d.place_is d.width_is d.content_is;
  from_file = let free = moved elf f r.place _ d.place_is d.width_is d.free in free.from_file;
  no_header = let free = moved elf f r.place _ d.place_is d.width_is d.free in free.no_header;
}
  where
    moved : (e : Elf) (g : Field) (place width : ℕ) → g.place ≡ place → g.width ≡ width → AreFree e place width →
        AreFree e g.place g.width
    moved e g place width p w free = subst (λ (x : ℕ). AreFree e x g.width) (sym p) (subst (AreFree e place) (sym w) free)

free_of : (elf : Elf) (tabled : List (ℕ × ℕ)) (f : Field) (place width : ℕ) → CanBeCell elf tabled f → f.place ≡ place →
    f.width ≡ width → AreFree elf place width
free_of elf tabled f place width can p w =
    let free : AreFree elf f.place f.width = record { from_file = can.from_file; no_header = can.no_header } in
    subst (λ (x : ℕ). AreFree elf x width) p (subst (AreFree elf f.place) w free)

hi_kind : (kind : ℕ) → kind ≡ R_RISCV_GOT_HI20 → is_pcrel_hi kind ≡ true
hi_kind kind is = ap is_pcrel_hi is

-- A GOT entry can be a cell.
pub slot-can_be : (elf : Elf) (tabled : List (ℕ × ℕ)) (lows : List Low) (l : Low) (f : Field) →
    AreLows elf lows → Contains lows l → IsSlotOf elf l f → CanBeCell elf tabled f
slot-can_be elf tabled lows l f are listed is =
    let low = (are.all l).0 listed in
    let n = is.entry.named in
    let r = n.relocation in
    let code = is.entry.field in
    let pair : PcrelHiTo elf r (pos f.place) =
    subst (λ (p : ℕ). PcrelHiTo elf r (pos p)) (sym code.place_is)
    (target_upper elf r l (pos is.slot) n.counts (hi_kind r.kind n.kind_is) low is.names n.place_is) in
    let free : AreFree elf f.place f.width =
    subst (λ (x : ℕ). AreFree elf x f.width) (sym code.place_is) (subst (AreFree elf is.slot) (sym code.width_is) code.free) in
    record {
      is_field = slot r n.kind_is pair code.width_is code.to
          (ap (λ (p : ℕ). loaded_number elf p 8) code.place_is ∙ code.loaded) n.label_is code.is_start code.content_is;
      from_file = free.from_file;
      no_header = free.no_header;
    }

pub candidates-all : (elf : Elf) (tabled : List (ℕ × ℕ)) (records : List Record) (lows : List Low)
    (ofs slots both fields : List Field) →
    AreRecords elf records → AreLows elf lows → AreFound (λ r f. IsFieldOf elf tabled (seen r) f) records ofs →
    AreFound (IsSlotOf elf) lows slots → both ≡ ofs ++ slots → IsPermutation both fields → AllPairs IsKeyUpTo fields →
    AreCandidates elf tabled fields
candidates-all elf tabled records lows ofs slots both fields are are_lows of_records of_lows joined moved sorted = record {
  only = λ f listed. can f listed;
  each = λ f is. Contains-permutation both fields f moved
      (subst (λ (fs : List Field). Contains fs f) (sym joined) (in_either f is is.is_field));
  ordered = λ i j d less within.
      let at_i =
      can (slice_index_or fields i d) (i, omega arith, get_or_default fields i (slice_index_or fields i d) d (omega arith)) in
      let at_j = can (slice_index_or fields j d) (j, within, get_or_default fields j (slice_index_or fields j d) d within) in
      field_up elf tabled (slice_index_or fields i d) (slice_index_or fields j d) at_i at_j (sorted i j d less within);
  has_bytes = λ f listed. let c = can f listed in has-bytes elf tabled f c.is_field;
}
  where
    can : (f : Field) → Contains fields f → CanBeCell elf tabled f
    can f listed =
        let before =
        subst (λ (fs : List Field). Contains fs f) joined
        (Contains-permutation fields both f (IsPermutation-sym both fields moved) listed) in
        ⊎_elim
        (λ first. let (r, has_r, is) = of_records.only f first in can-be elf tabled records r f are has_r is)
        (λ second. let (l, has_l, is) = of_lows.only f second in slot-can_be elf tabled lows l f are_lows has_l is)
        (Contains-append_cases ofs slots f before)

    in_either : (f : Field) → CanBeCell elf tabled f → IsField elf tabled f → Contains (ofs ++ slots) f
    in_either f is (pointer r listed address place width to loaded start content) =
        let (t, q, has_q, same, there) = kept elf records r are listed in
        let code : IsCodeField elf r.place (address_width r.kind) f = record {
          place_is = place;
          width_is = width;
          to = to;
          loaded = ap (λ (p : ℕ). loaded_number elf p (address_width r.kind)) (sym place)
              ∙ ap (λ (w : ℕ). loaded_number elf f.place w) (sym width) ∙ loaded;
          is_start = start;
          content_is = content;
          free = free_of elf tabled f r.place (address_width r.kind) is place width;
        } in
        Contains-append_left ofs slots f
        (of_records.each q f has_q (subst (λ (s : Relocation). IsFieldOf elf tabled s f) (sym same)
        (field-for elf t r there tabled f (found.pointer address code))))
    in_either f is (slot r kind pair width to loaded label start content) =
        let l : Low = record { hi = r.place; imm = pair.lower } in
        let has_l = (are_lows.all l).1 (record { source = pair.low; part = pair.part }) in
        let code : IsCodeField elf f.place 8 f =
        record {
          place_is = refl;
          width_is = width;
          to = to;
          loaded = loaded;
          is_start = start;
          content_is = content;
          free = free_of elf tabled f f.place 8 is refl width;
        } in
        let slot_is : IsSlotOf elf l f = record {
          slot = f.place;
          names = upper_target elf r (pos f.place) pair;
          entry = record {
            field = code;
            named = record { relocation = r; counts = pair.counts; kind_is = kind; place_is = refl; label_is = label };
          };
        } in
        Contains-append_right ofs slots f (of_lows.each l f has_l slot_is)
    in_either f is (difference r bits to from made can_be code across place width content) =
        let (t, q, has_q, same, there) = kept elf records r are (difference_counts elf r (Bits bits) to from made) in
        let field_is : IsDifferenceField elf tabled r f = record {
          bits = bits;
          to = to;
          from = from;
          is = made;
          can_be = can_be;
          has_code = code;
          across = across;
          place_is = place;
          width_is = width;
          content_is = content;
          free = free_of elf tabled f r.place (bits / 8) is place width;
        } in
        Contains-append_left ofs slots f
        (of_records.each q f has_q (subst (λ (s : Relocation). IsFieldOf elf tabled s f) (sym same)
        (field-for elf t r there tabled f (found.difference field_is))))

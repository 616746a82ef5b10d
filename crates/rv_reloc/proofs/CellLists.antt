-- Cells from the fields that count, and labels that aren't addresses.
use Rattle.std.proofs.Common.{◌≡◌, ◌∙◌, sym, ap, subst, refl, ℕ, ◌+◌, ◌<◌, ℤ, pos, negsuc, ◌⊎◌, inl, inr, ⊎_elim, true, List, map}
use Rattle.std.proofs.Common.{Option, None, length, slice_index_or, arith}
use Rattle.std.specs.Int.RustNames.{unsigned_abs}
use Rattle.std.specs.List.{Contains, All}
use Rattle.std.proofs.lemmas.Int.{ints, by_lt_z}
use Rattle.std.proofs.lemmas.List.{get_or_default, get_or-map, length-map}
use Rattle.rv_code.specs.declared.cell.CodeCell.{CodeCell}
use Rattle.rv_code.specs.declared.cell.CellKind.{CellKind}
use Rattle.rv_code.specs.declared.cell.CellKind.TheVariants.{Abs, Diff}
use Rattle.elf_image.specs.declared.elf.Elf.{Elf}
use Rattle.elf_code.specs.Cells as spec
use Rattle.elf_code.specs.Cells.{Field, CanBeCell, Counts, counts, IsCell, SameContent}
use Rattle.elf_code.specs.FileCode.{AreCells}
use Rattle.elf_image.specs.faults.LowestPlace.{IsLowest}
use Rattle.elf_code.specs.ReferenceFaults.{IsAddress, HasBadLabel}
use Rattle.elf_image.proofs.LowestPlaces.{IsLowest-same}
use Rattle.rv_reloc.specs.declared.sweep.Candidate.{Candidate}
use Rattle.rv_reloc.specs.declared.sweep.Content.{Content}
use Rattle.rv_reloc.specs.declared.sweep.Content.TheVariants.{Address, Difference}
use Rattle.rv_reloc.specs.Cells.{AreAddresses, HasAddresses, IsBadContent, HasBadContent, kind_of, cell_of}
use Rattle.rv_reloc.specs.Places.{IsPlaceOf}
use Rattle.rv_reloc.specs.CountedFields.{content, as_field, AreCounted}
use Rattle.rv_reloc.proofs.CellFields.{has-bytes}
use Rattle.rb_bytes.proofs.ListLemmas.{from_map, in_map}

-- Labels.

whole : (z : ℤ) → IsAddress z → z ≡ pos (unsigned_abs z)
whole (pos n) is = refl
whole (negsuc n) is = let low = is.0 in absurd (omega (arith, ints))

bad_field : (f : Candidate) (width : ℕ) (to from : ℤ) → f.content ≡ Difference to from →
    (IsAddress to × IsAddress from → ⊥) → HasBadContent f
bad_field f width to from is unfit = record { bad = subst IsBadContent (sym is) unfit }

difference_of : (c : Content) (to from : ℤ) → content c ≡ spec.Difference to from → c ≡ Difference to from
difference_of (Address a) to from is = absurd (cc)
difference_of (Difference to' from') to from is =
    let e : to' ≡ to = cc in let g : from' ≡ from = cc in ap (λ (z : ℤ). Difference z from') e ∙ ap (λ (z : ℤ). Difference to z) g

bad_counted : (elf : Elf) (tabled : List (ℕ × ℕ)) (f : Candidate) (c : Content) → f.content ≡ c → IsBadContent c →
    Counts elf tabled (as_field f) true → HasBadLabel elf tabled f.place
bad_counted elf tabled f (Address a) is bad counted = absurd bad
bad_counted elf tabled f (Difference to from) is bad counted = record {
  width = f.width;
  to = to;
  from = from;
  counted = subst
      (λ (c : Content). Counts elf tabled (record { place = f.place; width = f.width; content = content c }) true) is counted;
  unfit = bad;
}

pub of_bad_field : (elf : Elf) (tabled : List (ℕ × ℕ)) (counted : List Candidate) →
    AreCounted elf tabled (map as_field counted) → (p : ℕ) → IsPlaceOf (λ f. f.place) HasBadContent counted p →
    HasBadLabel elf tabled p
of_bad_field elf tabled counted are p is =
    subst (HasBadLabel elf tabled) is.place_is
    (bad_counted elf tabled is.item is.item.content refl is.bad.bad
    (are.only (as_field is.item) (in_map as_field counted is.item is.listed)))

to_place : (elf : Elf) (tabled : List (ℕ × ℕ)) (counted : List Candidate) → AreCounted elf tabled (map as_field counted) →
    (p : ℕ) →
    HasBadLabel elf tabled p → IsPlaceOf (λ f. f.place) HasBadContent counted p
to_place elf tabled counted are p is =
    let there : Field = record { place = p; width = is.width; content = spec.Difference is.to is.from } in
    let (f, listed, same) = from_map as_field counted there (are.each there is.counted) in
    record {
      item = f;
      listed = listed;
      bad = bad_field f is.width is.to is.from
          (difference_of f.content is.to is.from (ap (λ (g : Field). g.content) same)) is.unfit;
      place_is = ap (λ (g : Field). g.place) same;
    }

pub bad-label : (elf : Elf) (tabled : List (ℕ × ℕ)) (counted : List Candidate) (lowest : Option ℕ) →
    AreCounted elf tabled (map as_field counted) → IsLowest (IsPlaceOf (λ f. f.place) HasBadContent counted) lowest →
    IsLowest (HasBadLabel elf tabled) lowest
bad-label elf tabled counted lowest are is =
    IsLowest-same lowest (of_bad_field elf tabled counted are) (to_place elf tabled counted are) is

address_or_not : (z : ℤ) → IsAddress z ⊎ (IsAddress z → ⊥)
address_or_not z = by_lt_z z (pos 0)
    (λ below. inr (λ is. let low = is.0 in omega (arith, ints)))
    (λ above. by_lt_z (pos 0x7fff0000) z (λ high. inr (λ is. let low = is.1 in omega (arith, ints))) (λ low. inl (above, low)))

good_content : (c : Content) → (IsBadContent c → ⊥) → AreAddresses c
good_content (Address a) good = tt
good_content (Difference to from) good = ⊎_elim
    (λ (is_to : IsAddress to). ⊎_elim (λ (is_from : IsAddress from). (is_to, is_from))
    (λ (other : IsAddress from → ⊥). absurd (good (λ both. other both.1))) (address_or_not from))
    (λ (other : IsAddress to → ⊥). absurd (good (λ both. other both.0)))
    (address_or_not to)

pub none-bad : (counted : List Candidate) → IsLowest (IsPlaceOf (λ f. f.place) HasBadContent counted) None →
    All HasAddresses counted
none-bad counted is k d within =
    let f = slice_index_or counted k d in
    record {
      labels = good_content f.content
          (λ bad. is.least f.place
          (record {
            item = f;
            listed = (k, within, get_or_default counted k f d within);
            bad = record { bad = bad };
            place_is = refl;
          }));
    }

-- Cells.

same_content : (c : Content) → AreAddresses c → SameContent (content c) (kind_of c)
same_content (Address a) is = refl
same_content (Difference to from) is = (whole to is.0, whole from is.1)

same_kind : (c : Content) (k : CellKind) → SameContent (content c) k → kind_of c ≡ k
same_kind (Address a) (Abs to) is = ap (λ (x : ℕ). Abs x) is
same_kind (Address a) (Diff to from) is = absurd is
same_kind (Difference to from) (Abs to') is = absurd is
same_kind (Difference to from) (Diff to' from') is =
    ap (λ (x : ℕ). Diff x (unsigned_abs from)) (ap unsigned_abs is.0) ∙ ap (λ (x : ℕ). Diff to' x) (ap unsigned_abs is.1)

pub cells-all : (elf : Elf) (tabled : List (ℕ × ℕ)) (counted : List Candidate) (cells : List CodeCell) →
    All HasAddresses counted → AreCounted elf tabled (map as_field counted) → cells ≡ map cell_of counted →
    AreCells elf tabled cells
cells-all elf tabled counted cells good are made = subst (AreCells elf tabled) (sym made) (record {
  only = λ cell listed.
      let (f, has_f, same) = from_map cell_of counted cell listed in
      subst (IsCell elf tabled) same (record {
        content = content f.content;
        counted = are.only (as_field f) (in_map as_field counted f has_f);
        same = same_content f.content (labels f has_f);
      });
  each = λ cell is.
      let there : Field = record { place = cell.addr; width = cell.width; content = is.content } in
      let (f, has_f, same) = from_map as_field counted there (are.each there is.counted) in
      subst (Contains (map cell_of counted))
      (made_of cell f (ap (λ (g : Field). g.place) same) (ap (λ (g : Field). g.width) same)
      (subst (λ (c : spec.Content). SameContent c cell.kind) (sym (ap (λ (g : Field). g.content) same)) is.same))
      (in_map cell_of counted f has_f);
  ordered = λ i j d less within.
      let inside : j < length counted = (let n = length-map counted cell_of in omega arith) in
      let f = slice_index_or counted i none in
      let g = slice_index_or counted j none in
      let at_i = get_or-map cell_of counted i none d (omega arith) in
      let at_j = get_or-map cell_of counted j none d inside in
      let field_i = get_or-map as_field counted i none (as_field f) (omega arith) in
      let field_j = get_or-map as_field counted j none (as_field f) inside in
      let ends = are.ordered i j (as_field f) less (let n = length-map counted as_field in omega arith) in
      let bytes = some_bytes f (i, omega arith, get_or_default counted i f none (omega arith)) in
      let end_i = ap (λ (h : Field). h.place + h.width) field_i in
      let place_j = ap (λ (h : Field). h.place) field_j in
      let addr_i = ap (λ (c : CodeCell). c.addr) at_i in
      let addr_j = ap (λ (c : CodeCell). c.addr) at_j in
      omega arith;
})
  where
    none : Candidate
    none = record { place = 0; width = 0; content = Address 0 }

    labels : (f : Candidate) → Contains counted f → AreAddresses f.content
    labels f (k, within, is) = subst (λ (g : Candidate). AreAddresses g.content) is (let l = good k f within in l.labels)

    made_of : (cell : CodeCell) (f : Candidate) → f.place ≡ cell.addr → f.width ≡ cell.width →
        SameContent (content f.content) cell.kind → cell_of f ≡ cell
    made_of cell f place width same = λ i. record { addr = place i; width = width i; kind = same_kind f.content cell.kind same i }

    can_be : (f : Field) → Counts elf tabled f true → CanBeCell elf tabled f
    can_be f (counts _ can others) = can

    some_bytes : (f : Candidate) → Contains counted f → 0 < f.width
    some_bytes f listed = let can = can_be (as_field f) (are.only (as_field f) (in_map as_field counted f listed)) in
        has-bytes elf tabled (as_field f) can.is_field

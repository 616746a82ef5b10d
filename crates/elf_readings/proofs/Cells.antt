-- Code cells don't depend on the reading.
use Rattle.std.proofs.Common.{◌≡◌, ◌∙◌, sym, subst, refl, ℕ, ◌+◌, ◌*◌, ◌≤◌, ◌<◌, ◌⊎◌, inl, inr, Bool, List, IsTrue, length, arith}
use Rattle.std.specs.Prelude.{ℤ, IsSome, IfSome}
use Rattle.std.proofs.lemmas.Grind.{common_steps}
use Rattle.rv_code.specs.declared.cell.CodeCell.{CodeCell}
use Rattle.elf_image.specs.declared.elf.Elf.{Elf}
use Rattle.elf_image.specs.declared.section.Section.{Section}
use Rattle.elf_image.specs.declared.segment.Segment.{Segment}
use Rattle.elf_image.specs.declared.segment.TheConstants.{PHDR_SIZE}
use Rattle.elf_image.specs.file.Header.{header_size}
use Rattle.elf_image.specs.memory.LoadedBytes.{file_offset}
use Rattle.elf_code.specs.Relocations.{Relocation, relocations, Width}
use Rattle.elf_code.specs.Cells.{IsOnly, is_plus, is_minus, IsDifference, of_labels, of_place, IsCodeLabel, HasCodeLabel, IsInOneWhole}
use Rattle.elf_code.specs.Cells.{Field, IsField, pointer, slot, difference, CanBeCell, Counts, counts, gives_way, IsCell}
use Rattle.elf_code.proofs.Differences.{difference_counts}
use Rattle.elf_readings.proofs.Alike.{bare, Alike, back}
use Rattle.elf_readings.proofs.Relocations.{with_section, Twin, twin, count_alike}
use Rattle.elf_readings.proofs.Parts.{start_of, whole_of}
use Rattle.elf_readings.proofs.Roles.{label_alike, number_alike, hi_of}

pub only_of : (e e' : Elf) → Alike e e' → (test : Relocation → Bool) →
    ((r : Relocation) (s : Section) → test (with_section r s) ≡ test r) →
    (r : Relocation) (s : Section) → Twin e e' r s → IsOnly test (relocations e) r →
    IsOnly test (relocations e') (with_section r s)
only_of e e' a test any r s t o = record {
  listed = t.there;
  passes = subst IsTrue (sym (any r s)) o.passes;
  alone = sym (count_alike e e' a test (λ x. any x (bare x.section))) ∙ o.alone;
}

pub difference_of : (e e' : Elf) → Alike e e' → (r : Relocation) (s : Section) → Twin e e' r s → (w : Width) (to from : ℤ) →
    IsDifference e r w to from → IsDifference e' (with_section r s) w to from
difference_of e e' a r s t w to from (of_labels only minus minus_only to_is from_is) =
    let (q, u) = twin e e' a minus minus_only.listed in
    of_labels (only_of e e' a (is_plus r.place w) (λ x y. refl) r s t only) (with_section minus q)
    (only_of e e' a (is_minus r.place w) (λ x y. refl) minus q u minus_only)
    (to_is ∙ label_alike e e' a r) (from_is ∙ label_alike e e' a minus)
difference_of e e' a r s t w to from (of_place counted kind width to_is from_is) = grind (arith, common_steps, label_alike)

pub code_label_of : (e e' : Elf) → Alike e e' → (z : ℤ) → IsCodeLabel e z → IsCodeLabel e' z
code_label_of e e' a z (at, is, start) = (at, is, start_of e e' a at start)

pub has_code_label_of : (e e' : Elf) → Alike e e' → (to from : ℤ) → HasCodeLabel e to from → HasCodeLabel e' to from
has_code_label_of e e' a to from (inl is) = inl (code_label_of e e' a to is)
has_code_label_of e e' a to from (inr is) = inr (code_label_of e e' a from is)

pub one_whole_of : (e e' : Elf) → Alike e e' → (tabled : List (ℕ × ℕ)) (to from : ℤ) → IsInOneWhole e tabled to from →
    IsInOneWhole e' tabled to from
one_whole_of e e' a tabled to from w = record {
  start = w.start;
  end = w.end;
  whole = whole_of e e' a tabled w.start w.end w.whole;
  to_in = w.to_in;
  from_in = w.from_in;
}

is_field_of : (e e' : Elf) → Alike e e' → (tabled : List (ℕ × ℕ)) (f : Field) → IsField e tabled f → IsField e' tabled f
is_field_of e e' a tabled f (pointer r counted kind place width to loaded start content) =
    let (s, t) = twin e e' a r counted in
    pointer (with_section r s) t.there kind place width to (sym (number_alike e e' a f.place f.width) ∙ loaded)
    (start_of e e' a to start) content
is_field_of e e' a tabled f (slot r kind h width to loaded is start content) =
    let (s, t) = twin e e' a r h.counts in
    slot (with_section r s) kind (hi_of e e' a r s t _ h) width to (sym (number_alike e e' a f.place 8) ∙ loaded)
    (sym (label_alike e e' a r) ∙ is) (start_of e e' a to start) content
is_field_of e e' a tabled f (difference r bits to from d can has across place width content) =
    let (s, t) = twin e e' a r (difference_counts e r _ to from d) in
    difference (with_section r s) bits to from (difference_of e e' a r s t _ to from d) can (has_code_label_of e e' a to from has)
    (λ whole. across (one_whole_of e' e (back e e' a) tabled to from whole)) place width content

abbrev in_headers : ℕ → List Segment → ℕ → Type 0
in_headers phoff segments offset = (offset < header_size) ⊎ ((phoff ≤ offset) × (offset < phoff + PHDR_SIZE * length segments))

abbrev no_header_at : ℕ → ℕ → List Segment → Type 0
no_header_at at phoff segments = IfSome (file_offset segments at) (λ offset. in_headers phoff segments offset → ⊥)

pub can_be_of : (e e' : Elf) → Alike e e' → (tabled : List (ℕ × ℕ)) (f : Field) → CanBeCell e tabled f → CanBeCell e' tabled f
can_be_of e e' a tabled f c = record {
  is_field = is_field_of e e' a tabled f c.is_field;
  from_file = λ i within. subst
      (λ (segments : List Segment). IsSome (file_offset segments (f.place + i))) a.segments (c.from_file i within);
  no_header = λ i within. subst (λ (segments : List Segment). no_header_at (f.place + i) e'.phoff segments) a.segments
      (subst (λ (phoff : ℕ). no_header_at (f.place + i) phoff e.segments.items) a.phoff (c.no_header i within));
}

pub counts_of : (e e' : Elf) → Alike e e' → (tabled : List (ℕ × ℕ)) (f : Field) (b : Bool) →
    Counts e tabled f b → Counts e' tabled f b
counts_of e e' a tabled f b (counts g can others) =
    counts g (can_be_of e e' a tabled g can)
    (λ h can' before share. counts_of e e' a tabled h _ (others h (can_be_of e' e (back e e' a) tabled h can') before share))
counts_of e e' a tabled f b (gives_way g h can before share won) =
    gives_way g h (can_be_of e e' a tabled g can) before share (counts_of e e' a tabled h _ won)

pub cell_of : (e e' : Elf) → Alike e e' → (tabled : List (ℕ × ℕ)) (cell : CodeCell) → IsCell e tabled cell → IsCell e' tabled cell
cell_of e e' a tabled cell c = record { content = c.content; counted = counts_of e e' a tabled _ _ c.counted; same = c.same }

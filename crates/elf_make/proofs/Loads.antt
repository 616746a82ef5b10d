-- The segments of the input are carried by those of the written file.
use Rattle.std.proofs.Common.{◌≡◌, ◌∙◌, sym, ap, subst, refl, ℕ, ◌+◌, ◌-◌, ◌≤◌, ◌<◌, ◌⊎◌, inl, inr, List, Bool, true, false}
use Rattle.std.proofs.Common.{IsTrue, get_or, arith, eqb}
use Rattle.std.specs.Prelude.{Contains, nat_le, IsFalse}
use Rattle.std.proofs.lemmas.Bool.{le-leb, lt-leb, leb-true, leb-false}
use Rattle.elf_image.specs.declared.segment.Segment.{Segment}
use Rattle.elf_image.specs.declared.segment.TheConstants.{PT_LOAD}
use Rattle.elf_image.specs.memory.Image.{is_load}
use Rattle.elf_image.specs.faults.SegmentLayout.{IsFileByte}
use Rattle.elf_make.specs.CarriedBytes.{CarriesSegment}
use Rattle.elf_plan.specs.Area.{moved_by}
use Rattle.elf_plan.specs.NewSegments.{IsNewLoad, CrossesNot}

-- Each byte that the input loads is in the written file, unless it may change.
abbrev pub KeepsLoaded : List ℕ → List ℕ → List Segment → ℕ → ℕ → (ℕ → Bool) → Type 0
KeepsLoaded file written segments file_end delta changed =
    (p : Segment) → Contains segments p → (k : ℕ) → IsFileByte k p → k - p.offset < p.memsz →
    IsFalse (changed (p.vaddr + (k - p.offset))) → get_or written (moved_by file_end delta k) 0 ≡ get_or file k 0

pub moved-behind : (file_end delta o : ℕ) → file_end ≤ o → moved_by file_end delta o ≡ o + delta
moved-behind file_end delta o behind = rw (le-leb file_end o behind) refl

pub moved-before : (file_end delta o : ℕ) → o < file_end → moved_by file_end delta o ≡ o
moved-before file_end delta o before = rw (lt-leb file_end o before) refl

-- a segment that doesn't cross the end moves whole
pub moved-whole : (file_end delta : ℕ) (p : Segment) (k : ℕ) → CrossesNot file_end p → k < p.filesz →
    moved_by file_end delta p.offset + k ≡ moved_by file_end delta (p.offset + k)
moved-whole file_end delta p k apart inside = cases (nat_le file_end p.offset) refl
  where
    cases : (b : Bool) → nat_le file_end p.offset ≡ b →
        moved_by file_end delta p.offset + k ≡ moved_by file_end delta (p.offset + k)
    cases true e =
        let behind : file_end ≤ p.offset = leb-true file_end p.offset e in
        let here : moved_by file_end delta p.offset ≡ p.offset + delta = moved-behind file_end delta p.offset behind in
        let there : moved_by file_end delta (p.offset + k) ≡ (p.offset + k) + delta =
        moved-behind file_end delta (p.offset + k) (omega arith) in
        omega (arith, here, there)
    cases false e =
        let before : p.offset < file_end = leb-false file_end p.offset e in
        let end : p.offset + p.filesz ≤ file_end = apart before in
        let here : moved_by file_end delta p.offset ≡ p.offset = moved-before file_end delta p.offset before in
        let there : moved_by file_end delta (p.offset + k) ≡ p.offset + k =
        moved-before file_end delta (p.offset + k) (omega arith) in
        omega (arith, here, there)

pub carries-load : (file written : List ℕ) (changed : ℕ → Bool) (segments : List Segment) (file_end delta : ℕ) (p q : Segment) →
    KeepsLoaded file written segments file_end delta changed → Contains segments p → IsTrue (is_load p) → CrossesNot file_end p →
    IsNewLoad file_end delta p q → CarriesSegment file written changed p q
carries-load file written changed segments file_end delta p q keeps there load apart new = record {
  loaded = subst (λ (k : ℕ). IsTrue (eqb k PT_LOAD)) (sym new.kind) load;
  flags = new.flags;
  vaddr = new.vaddr;
  memory = memory new.sizes;
  from_file = from_file new.sizes;
  bytes = λ k inside inside_memory kept.
      let some : 0 < p.filesz = omega arith in
      let back : (p.offset + k) - p.offset ≡ k = omega arith in
      ap (λ (o : ℕ). get_or written (o + k) 0) (new.offset some)
      ∙ ap (λ (o : ℕ). get_or written o 0) (moved-whole file_end delta p k apart inside)
      ∙ keeps p there (p.offset + k) (load, omega arith, omega arith) (omega arith)
      (subst (λ (j : ℕ). IsFalse (changed (p.vaddr + j))) (sym back) kept);
}
  where
    memory : ((q.filesz ≡ p.filesz) × (q.memsz ≡ p.memsz))
        ⊎ ((p.memsz ≡ p.filesz) × (p.filesz ≤ q.filesz) × (q.memsz ≡ q.filesz)) → p.memsz ≤ q.memsz
    memory (inl same) = let e : q.memsz ≡ p.memsz = same.1 in omega arith
    memory (inr grown) =
        let e : p.memsz ≡ p.filesz = grown.0 in
        let f : p.filesz ≤ q.filesz = grown.1 in
        let g : q.memsz ≡ q.filesz = grown.2 in omega arith

    from_file : ((q.filesz ≡ p.filesz) × (q.memsz ≡ p.memsz))
        ⊎ ((p.memsz ≡ p.filesz) × (p.filesz ≤ q.filesz) × (q.memsz ≡ q.filesz)) →
        (q.filesz ≡ p.filesz) ⊎ ((p.memsz ≡ p.filesz) × (p.filesz ≤ q.filesz))
    from_file (inl same) = inl same.0
    from_file (inr grown) = inr (grown.0, grown.1)

-- The loaded bytes of a file whose front stays, and whose bytes from the first loaded one after the executable segment
-- on.
pub keeps-stretches : (file base : List ℕ) (segments : List Segment) (file_end delta low high keep : ℕ) → file_end ≤ keep →
    ((k : ℕ) → k < keep → get_or base k 0 ≡ get_or file k 0) →
    ((k : ℕ) → low ≤ k → k < high → get_or base (k + delta) 0 ≡ get_or file k 0) →
    ((p : Segment) → Contains segments p → IsTrue (is_load p) → CrossesNot file_end p) → ((p : Segment) → Contains segments p →
    IsTrue (is_load p) → file_end ≤ p.offset → 0 < p.filesz → (low ≤ p.offset) × (p.offset + p.filesz ≤ high)) → (p : Segment) →
    Contains segments p → (k : ℕ) → IsFileByte k p → get_or base (moved_by file_end delta k) 0 ≡ get_or file k 0
keeps-stretches file base segments file_end delta low high keep enough front behind apart all p there k in_file =
    cases (nat_le file_end p.offset) refl
  where
    from : p.offset ≤ k
    from = in_file.1

    before_end : k < p.offset + p.filesz
    before_end = in_file.2

    cases : (b : Bool) → nat_le file_end p.offset ≡ b → get_or base (moved_by file_end delta k) 0 ≡ get_or file k 0
    cases true e =
        let at : file_end ≤ p.offset = leb-true file_end p.offset e in
        let bounds = all p there in_file.0 at (omega arith) in
        let low_bound : low ≤ p.offset = bounds.0 in
        let high_bound : p.offset + p.filesz ≤ high = bounds.1 in
        ap (λ (o : ℕ). get_or base o 0) (moved-behind file_end delta k (omega arith)) ∙ behind k (omega arith) (omega arith)
    cases false e =
        let at : p.offset < file_end = leb-false file_end p.offset e in
        let end : p.offset + p.filesz ≤ file_end = apart p there in_file.0 at in
        ap (λ (o : ℕ). get_or base o 0) (moved-before file_end delta k (omega arith)) ∙ front k (omega arith)

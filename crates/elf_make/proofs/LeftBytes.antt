-- What is put over a file's bytes leaves the loaded ones as they are, except for those that may change.
use Rattle.std.proofs.Common.{◌≡◌, ◌∙◌, sym, ap, subst, refl, ℕ, ◌+◌, ◌-◌, ◌*◌, ◌≤◌, ◌<◌, ◌⊎◌, inl, inr, List, ◌∷◌, Option, Some}
use Rattle.std.proofs.Common.{Bool, true, false, length, get_or, arith}
use Rattle.std.specs.Prelude.{slice_index, ◌==◌}
use Rattle.std.specs.List.{list_any}
use Rattle.std.specs.Option.{option_map_or}
use Rattle.std.proofs.lemmas.Bool.{cases_lt, eqb-true, eqb-false, eq-eqb}
use Rattle.byteorder.specs.Endian.{little_bytes}
use Rattle.byteorder.specs.Numbers.{length-bytes_low_first}
use Rattle.elf_image.specs.declared.elf.Elf.{Elf}
use Rattle.elf_image.specs.declared.segment.Segment.{Segment}
use Rattle.elf_image.specs.declared.segment.TheConstants.{PHDR_SIZE, PT_GNU_EH_FRAME}
use Rattle.elf_image.specs.file.Header.{number_at, segment_at}
use Rattle.elf_image.specs.memory.CodeSegment.{executable_segment, executable_end}
use Rattle.elf_image.specs.memory.LoadedBytes.{is_in_range}
use Rattle.elf_image.specs.memory.HiddenFields.{hidden_fields, is_executable_segment}
use Rattle.elf_parts.specs.Patches.{Leaves}
use Rattle.elf_parts.specs.Spellings.{Number, number, segment_numbers, segment_table}
use Rattle.elf_parts.proofs.SameBytes.{little_bytes-same}
use Rattle.elf_parts.proofs.Spellings.{length-segment_table}
use Rattle.elf_plan.specs.Area.{moved_by}
use Rattle.elf_plan.specs.NewSegments.{IsRenewed, AreRenewed, NamesNew, grows_at}
use Rattle.elf_make.proofs.CellPatches.{moved-less, moved-more}
use Rattle.elf_make.proofs.HiddenBytes.{hides-sizes, hides-offset, hides-place}
use Rattle.elf_make.proofs.Loads.{moved-before, moved-behind}
use Rattle.elf_make.proofs.TableBytes.{AreSameBut, no_numbers, same_number, hidden_number, table-same}

-- A number before the bytes that move.
pub leaves-number : (file_end step o n v k b : ℕ) → o + n ≤ file_end →
    (o ≤ k → k < o + n → get_or (little_bytes n v) (k - o) 0 ≡ b) →
    Leaves (moved_by file_end step k) b (record { offset = o; bytes = little_bytes n v })
leaves-number file_end step o n v k b front same = cases (cases_lt k o) (cases_lt k (o + n))
  where
    size : length (little_bytes n v) ≡ n
    size = length-bytes_low_first 0 n v

    stays : k < o + n → moved_by file_end step k ≡ k
    stays below = moved-before file_end step k (omega arith)

    beyond : o + n ≤ k → o + n ≤ moved_by file_end step k
    beyond high = further (cases_lt k file_end)
      where
        further : (k < file_end) ⊎ (file_end ≤ k) → o + n ≤ moved_by file_end step k
        further (inl low) = let e = moved-before file_end step k low in omega arith
        further (inr over) = let e = moved-behind file_end step k over in omega arith

    cases : (k < o) ⊎ (o ≤ k) → (k < o + n) ⊎ (o + n ≤ k) →
        Leaves (moved_by file_end step k) b (record { offset = o; bytes = little_bytes n v })
    cases (inl low) other = let e = stays (omega arith) in inl (inl (omega arith))
    cases (inr from) (inl below) =
        let e : moved_by file_end step k ≡ k = stays below in
        inr (omega arith, ap (λ (j : ℕ). get_or (little_bytes n v) (j - o) 0) e ∙ same from below)
    cases (inr from) (inr high) = let e = beyond high in inl (inr (omega (arith, size)))

-- a number that was there
pub number-left : (file : List ℕ) (o n v k : ℕ) → ((j : ℕ) → slice_index file j < 256) → v ≡ number_at file o n → o ≤ k →
    k < o + n → get_or (little_bytes n v) (k - o) 0 ≡ get_or file k 0
number-left file o n v k bytes is from below =
    let back : o + (k - o) ≡ k = omega arith in
    ap (λ (w : ℕ). get_or (little_bytes n w) (k - o) 0) is ∙ little_bytes-same file o n (k - o) bytes (omega arith)
    ∙ ap (λ (j : ℕ). get_or file j 0) back

-- The table of program headers, where it is elsewhere ..
pub leaves-elsewhere : (at k b : ℕ) (table : List ℕ) → k < at → Leaves k b (record { offset = at; bytes = table })
leaves-elsewhere at k b table below = inl (inl below)

-- .. and where it stays with the bytes beside it.
module _ (elf : Elf) (code : ℕ) (p_code : Segment) (found : executable_segment elf.segments.items ≡ Some (code, p_code)) where
  abbrev Hides : ℕ → Type 0
  Hides k = list_any (is_in_range k) (hidden_fields elf false) ≡ true

  executable : (i : ℕ) → i ≡ code → is_executable_segment elf i ≡ true
  executable i e = ap (λ (o : Option (ℕ × Segment)). option_map_or (λ x. x.0 == i) o false) found ∙ eq-eqb code i (sym e)

  field : (o n v w : ℕ) (ns ms : List Number) → (v ≡ w) ⊎ ((j : ℕ) → o ≤ j → j < o + n → Hides j) →
      AreSameBut Hides (o + n) ns ms → AreSameBut Hides o (number n v ∷ ns) (number n w ∷ ms)
  field o n v w ns ms (inl e) rest =
      subst (λ (x : ℕ). AreSameBut Hides o (number n v ∷ ns) (number n x ∷ ms)) e (same_number o n v ns ms rest)
  field o n v w ns ms (inr hides) rest = hidden_number o n v w ns ms hides rest

  -- a header that is written over the input's
  header-same : (file_end step end i : ℕ) (q : Segment) → i < length elf.segments.items →
      file_end ≡ executable_end elf.segments.items →
      ((d : Segment) → IsRenewed file_end step end false (grows_at false code i) (get_or elf.segments.items i d) q) →
      (p : Segment) → ((d : Segment) → get_or elf.segments.items i d ≡ p) →
      AreSameBut Hides (elf.phoff + PHDR_SIZE * i) (segment_numbers q) (segment_numbers p)
  header-same file_end step end i q below end_is renewed p is = made (p.kind == PT_GNU_EH_FRAME) refl
    where
      at : ℕ
      at = elf.phoff + PHDR_SIZE * i

      here : IsRenewed file_end step end false (i == code) p q
      here = subst (λ (x : Segment). IsRenewed file_end step end false (i == code) x q) (is p) (renewed p)

      places : p.kind ≡ PT_GNU_EH_FRAME → (j : ℕ) → at + 8 ≤ j → j < at + 48 → Hides j
      places kind j from under = hides-place elf false i j below from under (λ d. ap (λ (x : Segment). x.kind) (is d) ∙ kind)

      offsets : file_end ≤ p.offset → (j : ℕ) → at + 8 ≤ j → j < at + 16 → Hides j
      offsets behind j from under =
          hides-offset elf false i j below from under
          (λ d. subst (λ (x : Segment). executable_end elf.segments.items ≤ x.offset) (sym (is d))
          (subst (λ (e : ℕ). e ≤ p.offset) end_is behind))

      sizes : (i == code) ≡ true → (j : ℕ) → at + 32 ≤ j → j < at + 48 → Hides j
      sizes e j from under = hides-sizes elf false i j below from under (executable i (eqb-true i code e))

      spelled_so : (q.offset ≡ p.offset) ⊎ ((j : ℕ) → at + 8 ≤ j → j < at + 16 → Hides j) →
          (q.vaddr ≡ p.vaddr) ⊎ ((j : ℕ) → at + 16 ≤ j → j < at + 24 → Hides j) →
          (q.paddr ≡ p.paddr) ⊎ ((j : ℕ) → at + 24 ≤ j → j < at + 32 → Hides j) →
          (q.filesz ≡ p.filesz) ⊎ ((j : ℕ) → at + 32 ≤ j → j < at + 40 → Hides j) → (q.memsz ≡ p.memsz)
          ⊎ ((j : ℕ) → at + 40 ≤ j → j < at + 48 → Hides j) → AreSameBut Hides at (segment_numbers q) (segment_numbers p)
      spelled_so offset vaddr paddr filesz memsz =
          field at 4 q.kind p.kind _ _ (inl here.kind)
          (field (at + 4) 4 q.flags p.flags _ _ (inl here.flags)
          (field (at + 4 + 4) 8 q.offset p.offset _ _ (moved offset (omega arith) (omega arith))
          (field (at + 4 + 4 + 8) 8 q.vaddr p.vaddr _ _ (moved vaddr (omega arith) (omega arith))
          (field (at + 4 + 4 + 8 + 8) 8 q.paddr p.paddr _ _ (moved paddr (omega arith) (omega arith))
          (field (at + 4 + 4 + 8 + 8 + 8) 8 q.filesz p.filesz _ _ (moved filesz (omega arith) (omega arith))
          (field (at + 4 + 4 + 8 + 8 + 8 + 8) 8 q.memsz p.memsz _ _ (moved memsz (omega arith) (omega arith))
          (field (at + 4 + 4 + 8 + 8 + 8 + 8 + 8) 8 q.align p.align _ _ (inl here.align) (no_numbers _))))))))
        where
          moved : {v w low high o end : ℕ} → (v ≡ w) ⊎ ((j : ℕ) → low ≤ j → j < high → Hides j) → o ≡ low → end ≡ high →
              (v ≡ w) ⊎ ((j : ℕ) → o ≤ j → j < end → Hides j)
          moved (inl e) from to = inl e
          moved (inr hides) from to = inr (λ j above under. hides j (omega arith) (omega arith))

      other : (p.kind == PT_GNU_EH_FRAME) ≡ false → NamesNew false p.kind → ⊥
      other e (inl is) = eqb-false p.kind PT_GNU_EH_FRAME e is
      other e (inr tight) = absurd (let t = tight.0 in cc)

      made : (b : Bool) → (p.kind == PT_GNU_EH_FRAME) ≡ b → AreSameBut Hides at (segment_numbers q) (segment_numbers p)
      made true e =
          let kind : p.kind ≡ PT_GNU_EH_FRAME = eqb-true p.kind PT_GNU_EH_FRAME e in
          spelled_so (inr (λ j from under. places kind j (omega arith) (omega arith)))
          (inr (λ j from under. places kind j (omega arith) (omega arith)))
          (inr (λ j from under. places kind j (omega arith) (omega arith)))
          (inr (λ j from under. places kind j (omega arith) (omega arith)))
          (inr (λ j from under. places kind j (omega arith) (omega arith)))
      made false e = by (cases_lt p.offset file_end) (i == code) refl
        where
          offset_so : (p.offset < file_end) ⊎ (file_end ≤ p.offset) →
              (q.offset ≡ p.offset) ⊎ ((j : ℕ) → at + 8 ≤ j → j < at + 16 → Hides j)
          offset_so (inl low) = inl (here.offset (other e) low)
          offset_so (inr high) = inr (offsets high)

          by : (p.offset < file_end) ⊎ (file_end ≤ p.offset) → (b : Bool) → (i == code) ≡ b →
              AreSameBut Hides at (segment_numbers q) (segment_numbers p)
          by place true grows =
              spelled_so (offset_so place) (inl (here.vaddr (other e))) (inl (here.paddr (other e)))
              (inr (λ j from under. sizes grows j (omega arith) (omega arith)))
              (inr (λ j from under. sizes grows j (omega arith) (omega arith)))
          by place false grows =
              spelled_so (offset_so place) (inl (here.vaddr (other e))) (inl (here.paddr (other e)))
              (inl (here.sizes (other e) grows).0) (inl (here.sizes (other e) grows).1)

  -- the whole table
  pub leaves-table : (file_end step end k b : ℕ) (qs : List Segment) → ((j : ℕ) → slice_index elf.file.now j < 256) →
      file_end ≡ executable_end elf.segments.items → ((i : ℕ) (d : Segment) → i < length elf.segments.items →
      get_or elf.segments.items i d ≡ segment_at elf.file.now (elf.phoff + PHDR_SIZE * i)) →
      AreRenewed file_end step end false (grows_at false code) elf.segments.items qs →
      (elf.phoff < file_end → elf.phoff + PHDR_SIZE * length elf.segments.items ≤ file_end) → b ≡ get_or elf.file.now k 0 →
      (Hides k → ⊥) →
      Leaves (moved_by file_end step k) b (record { offset = moved_by file_end step elf.phoff; bytes = segment_table qs })
  leaves-table file_end step end k b qs bytes end_is read are apart byte_is kept =
      cases (cases_lt k elf.phoff) (cases_lt k (elf.phoff + PHDR_SIZE * length elf.segments.items))
    where
      long : length (segment_table qs) ≡ PHDR_SIZE * length elf.segments.items
      long = length-segment_table qs ∙ ap (λ (m : ℕ). PHDR_SIZE * m) are.count

      each : (i : ℕ) (d : Segment) → i < length elf.segments.items → AreSameBut Hides (elf.phoff + PHDR_SIZE * i)
          (segment_numbers (get_or qs i d)) (segment_numbers (segment_at elf.file.now (elf.phoff + PHDR_SIZE * i)))
      each i d below = header-same file_end step end i (get_or qs i d) below end_is (λ e. are.each i e d below)
          (segment_at elf.file.now (elf.phoff + PHDR_SIZE * i)) (λ e. read i e below)

      inside : elf.phoff ≤ k → k < elf.phoff + PHDR_SIZE * length elf.segments.items →
          moved_by file_end step k ≡ moved_by file_end step elf.phoff + (k - elf.phoff)
      inside from below = by (cases_lt elf.phoff file_end)
        where
          by : (elf.phoff < file_end) ⊎ (file_end ≤ elf.phoff) →
              moved_by file_end step k ≡ moved_by file_end step elf.phoff + (k - elf.phoff)
          by (inl low) =
              let a = apart low in
              let x = moved-before file_end step elf.phoff low in
              let y = moved-before file_end step k (omega arith) in omega arith
          by (inr high) =
              let x = moved-behind file_end step elf.phoff high in
              let y = moved-behind file_end step k (omega arith) in omega arith

      there : elf.phoff ≤ k → k < elf.phoff + PHDR_SIZE * length elf.segments.items →
          (get_or (segment_table qs) (k - elf.phoff) 0 ≡ get_or elf.file.now (elf.phoff + (k - elf.phoff)) 0)
          ⊎ Hides (elf.phoff + (k - elf.phoff)) →
          Leaves (moved_by file_end step k) b (record { offset = moved_by file_end step elf.phoff; bytes = segment_table qs })
      there from below (inr hides) =
          let back : elf.phoff + (k - elf.phoff) ≡ k = omega arith in
          absurd (kept (subst Hides back hides))
      there from below (inl e) =
          let back : elf.phoff + (k - elf.phoff) ≡ k = omega arith in
          let place : moved_by file_end step k - moved_by file_end step elf.phoff ≡ k - elf.phoff = let x = inside from below in
          omega arith in
          inr (
            let x = inside from below in omega arith,
            ap (λ (j : ℕ). get_or (segment_table qs) j 0) place ∙ e ∙ ap (λ (j : ℕ). get_or elf.file.now j 0) back ∙ sym byte_is,
          )

      cases : (k < elf.phoff) ⊎ (elf.phoff ≤ k) →
          (k < elf.phoff + PHDR_SIZE * length elf.segments.items) ⊎ (elf.phoff + PHDR_SIZE * length elf.segments.items ≤ k) →
          Leaves (moved_by file_end step k) b (record { offset = moved_by file_end step elf.phoff; bytes = segment_table qs })
      cases (inl low) other = inl (inl (moved-less file_end step k elf.phoff low))
      cases (inr from) (inl below) = there from below (table-same elf.file.now Hides elf.phoff
          (length elf.segments.items) qs bytes are.count each (k - elf.phoff) (omega arith))
      cases (inr from) (inr beyond) = inl (inr
          (let x = moved-more file_end step k elf.phoff (PHDR_SIZE * length elf.segments.items) beyond in omega (arith, long)))

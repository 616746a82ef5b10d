-- A number that is put where a code cell went leaves all bytes that aren't the cell's.
use Rattle.std.proofs.Common.{◌≡◌, sym, subst, ℕ, ◌+◌, ◌-◌, ◌≤◌, ◌<◌, ◌⊎◌, inl, inr, length, IsTrue, arith}
use Rattle.std.proofs.lemmas.Bool.{cases_lt}
use Rattle.byteorder.specs.Endian.{little_bytes}
use Rattle.byteorder.specs.Numbers.{length-bytes_low_first}
use Rattle.elf_image.specs.declared.segment.Segment.{Segment}
use Rattle.elf_image.specs.memory.Image.{is_load}
use Rattle.elf_image.specs.faults.SegmentLayout.{IsFileByte}
use Rattle.elf_plan.specs.Area.{moved_by}
use Rattle.elf_parts.specs.Patches.{Leaves}
use Rattle.elf_make.proofs.Loads.{moved-behind, moved-before}

-- a lower offset goes to a lower one
pub moved-less : (file_end delta k o : ℕ) → k < o → moved_by file_end delta k < moved_by file_end delta o
moved-less file_end delta k o less = cases (cases_lt k file_end) (cases_lt o file_end)
  where
    cases : (k < file_end) ⊎ (file_end ≤ k) → (o < file_end) ⊎ (file_end ≤ o) →
        moved_by file_end delta k < moved_by file_end delta o
    cases (inl a) (inl b) = let x = moved-before file_end delta k a in let y = moved-before file_end delta o b in omega arith
    cases (inl a) (inr b) = let x = moved-before file_end delta k a in let y = moved-behind file_end delta o b in omega arith
    cases (inr a) (inl b) = absurd (omega arith)
    cases (inr a) (inr b) = let x = moved-behind file_end delta k a in let y = moved-behind file_end delta o b in omega arith

pub moved-more : (file_end delta k o w : ℕ) → o + w ≤ k → moved_by file_end delta o + w ≤ moved_by file_end delta k
moved-more file_end delta k o w more = cases (cases_lt k file_end) (cases_lt o file_end)
  where
    cases : (k < file_end) ⊎ (file_end ≤ k) → (o < file_end) ⊎ (file_end ≤ o) →
        moved_by file_end delta o + w ≤ moved_by file_end delta k
    cases (inl a) (inl b) = let x = moved-before file_end delta k a in let y = moved-before file_end delta o b in omega arith
    cases (inl a) (inr b) = absurd (omega arith)
    cases (inr a) (inl b) = let x = moved-behind file_end delta k a in let y = moved-before file_end delta o b in omega arith
    cases (inr a) (inr b) = let x = moved-behind file_end delta k a in let y = moved-behind file_end delta o b in omega arith

-- the cell's bytes come from the segment s, and the byte k of the file from p
pub cell-leaves : (file_end delta : ℕ) (p s : Segment) (k address width value b : ℕ) → IsFileByte k p → IsTrue (is_load s) →
    s.vaddr ≤ address → address + width ≤ s.vaddr + s.filesz → (IsFileByte k s → p ≡ s) →
    (p.vaddr + (k - p.offset) < address) ⊎ (address + width ≤ p.vaddr + (k - p.offset)) → Leaves (moved_by file_end delta k) b
    (record { offset = moved_by file_end delta (s.offset + (address - s.vaddr)); bytes = little_bytes width value })
cell-leaves file_end delta p s k address width value b in_p load from inside once apart =
    inl (cases (cases_lt k place) (cases_lt k (place + width)))
  where
    place : ℕ
    place = s.offset + (address - s.vaddr)

    size : length (little_bytes width value) ≡ width
    size = length-bytes_low_first 0 width value

    beyond : place + width ≤ k → moved_by file_end delta place + length (little_bytes width value) ≤ moved_by file_end delta k
    beyond more = subst (λ (n : ℕ). moved_by file_end delta place + n ≤ moved_by file_end delta k) (sym size)
        (moved-more file_end delta k place width more)

    not_apart : s.offset ≤ k → place ≤ k → k < place + width →
        (s.vaddr + (k - s.offset) < address) ⊎ (address + width ≤ s.vaddr + (k - s.offset)) → (k < place) ⊎ (place + width ≤ k)
    not_apart low at under (inl before) = absurd (omega arith)
    not_apart low at under (inr behind) = absurd (omega arith)

    in_cell : place ≤ k → k < place + width → (k < place) ⊎ (place + width ≤ k)
    in_cell at under =
        let low : s.offset ≤ k = omega arith in
        let high : k < s.offset + s.filesz = omega arith in
        let same : p ≡ s = once (load, low, high) in
        not_apart low at under
        (subst (λ (q : Segment). (q.vaddr + (k - q.offset) < address) ⊎ (address + width ≤ q.vaddr + (k - q.offset))) same apart)

    decided : (k < place) ⊎ (place + width ≤ k) → (moved_by file_end delta k < moved_by file_end delta place)
        ⊎ (moved_by file_end delta place + length (little_bytes width value) ≤ moved_by file_end delta k)
    decided (inl low) = inl (moved-less file_end delta k place low)
    decided (inr high) = inr (beyond high)

    cases : (k < place) ⊎ (place ≤ k) → (k < place + width) ⊎ (place + width ≤ k) →
        (moved_by file_end delta k < moved_by file_end delta place)
        ⊎ (moved_by file_end delta place + length (little_bytes width value) ≤ moved_by file_end delta k)
    cases (inl low) other = decided (inl low)
    cases (inr at) (inr high) = decided (inr high)
    cases (inr at) (inl under) = decided (in_cell at under)

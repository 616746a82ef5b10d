-- Numbers that were put over bytes of a file, in memory.
use Rattle.std.proofs.Common.{◌≡◌, ◌∙◌, sym, ap, subst, ℕ, ◌+◌, ◌-◌, ◌^◌, ◌≤◌, ◌<◌, ◌⊎◌, inl, inr, List, Option, Some, IsTrue}
use Rattle.std.proofs.Common.{length, map, get_or, arith, eqb}
use Rattle.std.specs.Prelude.{All, AllPairs, Contains, option_map}
use Rattle.std.proofs.lemmas.List.{get_or-map, length-map}
use Rattle.std.proofs.Math.Nat.{mod-eq_of_lt}
use Rattle.byteorder.specs.Endian.{little_bytes}
use Rattle.byteorder.specs.Numbers.{length-bytes_low_first}
use Rattle.elf_image.specs.declared.segment.Segment.{Segment}
use Rattle.elf_image.specs.declared.segment.TheConstants.{PT_LOAD}
use Rattle.elf_image.specs.memory.Image.{image_byte, byte_of, is_load, loads_address, LoadOnce}
use Rattle.rv_code.specs.machine.MemoryNumbers.{number_in}
use Rattle.elf_image.proofs.LoadLemmas.{loads-from_parts}
use Rattle.elf_parts.specs.declared.number_at.NumberAt.{NumberAt}
use Rattle.elf_parts.specs.Numbers.{patch_of}
use Rattle.elf_parts.specs.Patches.{Patch, put_all, IsWithin, AreApart, Stands}
use Rattle.elf_parts.proofs.Patches.{stands-each, stands-put_all, length-put_all}
use Rattle.elf_plan.specs.declared.area.Shift.{Shift}
use Rattle.elf_plan.specs.Area.{moved_by}
use Rattle.elf_plan.specs.NewSegments.{IsNewLoad, CrossesNot}
use Rattle.elf_make.proofs.CellPlaces.{CellPlace}
use Rattle.elf_make.proofs.Images.{segment_of-once, byte_of-from_file}
use Rattle.elf_make.proofs.LoadedNumbers.{number_in-holds}
use Rattle.elf_make.proofs.Loads.{moved-whole}

-- A number among the bytes that a segment loads is in memory where they went.
pub number-held : (w : List ℕ) (qs : List Segment) (file_end step : ℕ) (p q : Segment) (a n v : ℕ) → LoadOnce qs → Contains qs q →
    IsNewLoad file_end step p q → IsTrue (is_load p) → CrossesNot file_end p → p.vaddr ≤ a → (a - p.vaddr) + n ≤ p.filesz →
    (a - p.vaddr) + n ≤ p.memsz → 0 < n → v < 256 ^ n →
    Stands w (moved_by file_end step (p.offset + (a - p.vaddr))) (little_bytes n v) →
    number_in (λ x. image_byte w qs x) a n ≡ Some v
number-held w qs file_end step p q a n v once there new load apart low in_file in_memory some fits stands =
    number_in-holds (λ x. image_byte w qs x) a n v holds ∙ ap (λ (x : ℕ). Some x) (mod-eq_of_lt fits)
  where
    from : q.vaddr ≡ p.vaddr
    from = new.vaddr

    loaded : IsTrue (is_load q)
    loaded = subst (λ (k : ℕ). IsTrue (eqb k PT_LOAD)) (sym new.kind) load

    larger : ((q.filesz ≡ p.filesz) × (q.memsz ≡ p.memsz))
        ⊎ ((p.memsz ≡ p.filesz) × (p.filesz ≤ q.filesz) × (q.memsz ≡ q.filesz)) → (p.filesz ≤ q.filesz) × (p.memsz ≤ q.memsz)
    larger (inl same) = let e = same.0 in let f = same.1 in (omega arith, omega arith)
    larger (inr more) = let e = more.0 in let f = more.1 in let g = more.2 in (omega arith, omega arith)

    size : length (little_bytes n v) ≡ n
    size = length-bytes_low_first 0 n v

    place : q.offset + (a - p.vaddr) ≡ moved_by file_end step (p.offset + (a - p.vaddr))
    place = ap (λ (o : ℕ). o + (a - p.vaddr)) (new.offset (omega arith))
        ∙ moved-whole file_end step p (a - p.vaddr) apart (omega arith)

    holds : (j : ℕ) → j < length (little_bytes n v) → image_byte w qs (a + j) ≡ Some (get_or (little_bytes n v) j 0)
    holds j below =
        let more = larger new.sizes in
        let more_file : p.filesz ≤ q.filesz = more.0 in
        let more_memory : p.memsz ≤ q.memsz = more.1 in
        let loads : IsTrue (loads_address (a + j) q) =
        loads-from_parts (a + j) q loaded (omega (arith, from)) (omega (arith, from, size)) in
        let at : q.offset + ((a + j) - q.vaddr) ≡ moved_by file_end step (p.offset + (a - p.vaddr)) + j =
        omega (arith, from, place) in
        ap (λ (o : Option Segment). option_map (byte_of w (a + j)) o) (segment_of-once qs (a + j) q once there loads)
        ∙ ap (λ (b : ℕ). Some b)
        (byte_of-from_file w (a + j) q (omega (arith, from, size)) ∙ ap (λ (k : ℕ). get_or w k 0) at ∙ stands.same j below)

-- A number that is put is there, if those put with it are apart, and so are those put after it.
pub number-stands : (xs : List ℕ) (numbers : List NumberAt) (later : List Patch) (i : ℕ) (d : NumberAt) → i < length numbers →
    All (IsWithin (length xs)) (map patch_of numbers) → AllPairs AreApart (map patch_of numbers) →
    All (IsWithin (length xs)) later → All (λ p. (p.offset + length p.bytes ≤ (get_or numbers i d).offset)
    ⊎ ((get_or numbers i d).offset + (get_or numbers i d).width ≤ p.offset)) later →
    Stands (put_all (put_all xs (map patch_of numbers)) later) (get_or numbers i d).offset
    (little_bytes (get_or numbers i d).width (get_or numbers i d).value)
number-stands xs numbers later i d below within apart later_within beside =
    stands-put_all later (put_all xs (map patch_of numbers)) n.offset (little_bytes n.width n.value)
    (λ k e low. subst (λ (m : ℕ). IsWithin m (get_or later k e)) (sym long) (later_within k e low))
    (λ k e low. subst (λ (m : ℕ). ((get_or later k e).offset + length (get_or later k e).bytes ≤ n.offset)
    ⊎ (n.offset + m ≤ (get_or later k e).offset)) (sym size) (beside k e low))
    first
  where
    n : NumberAt
    n = get_or numbers i d

    size : length (little_bytes n.width n.value) ≡ n.width
    size = length-bytes_low_first 0 n.width n.value

    long : length (put_all xs (map patch_of numbers)) ≡ length xs
    long = length-put_all (map patch_of numbers) xs within

    long_list : length (map patch_of numbers) ≡ length numbers
    long_list = length-map numbers patch_of

    item : get_or (map patch_of numbers) i (patch_of d) ≡ patch_of n
    item = get_or-map patch_of numbers i d (patch_of d) below

    first : Stands (put_all xs (map patch_of numbers)) n.offset (little_bytes n.width n.value)
    first = subst (λ (p : Patch). Stands (put_all xs (map patch_of numbers)) p.offset p.bytes) item
        (stands-each (map patch_of numbers) xs within apart i (patch_of d) (omega (arith, long_list)))

-- A code cell holds its number.
pub cell-held : (w : List ℕ) (ps qs : List Segment) (shift : Shift) (cell : ℕ × ℕ × ℕ) (number : NumberAt)
    (place : CellPlace ps shift cell number) → number.width ≡ cell.1 → number.value ≡ cell.2 → 0 < cell.1 →
    cell.2 < 256 ^ cell.1 → LoadOnce qs → CrossesNot shift.from place.segment → (q : Segment) → Contains qs q →
    IsNewLoad shift.from shift.by place.segment q → Stands w number.offset (little_bytes number.width number.value) →
    number_in (λ a. image_byte w qs a) cell.0 cell.1 ≡ Some cell.2
cell-held w ps qs shift cell number place width value some fits once apart q there new stands =
    number-held w qs shift.from shift.by place.segment q cell.0 cell.1 cell.2 once there new place.load apart place.low
    place.in_file place.in_memory some fits
    (subst (λ (o : ℕ). Stands w o (little_bytes cell.1 cell.2)) place.offset
    (subst (λ (n : ℕ). Stands w number.offset (little_bytes n cell.2)) width
    (subst (λ (v : ℕ). Stands w number.offset (little_bytes number.width v)) value stands)))

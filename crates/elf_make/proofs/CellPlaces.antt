-- Where code cells are in the written file: apart from one another, and beside headers.
use Rattle.std.proofs.Common.{◌≡◌, ◌∙◌, sym, ap, subst, refl, ℕ, ◌+◌, ◌-◌, ◌*◌, ◌≤◌, ◌<◌, ◌⊎◌, inl, inr, List, Option, Some, None}
use Rattle.std.proofs.Common.{IsTrue, length, min, arith}
use Rattle.std.specs.Prelude.{Contains, IsSomeAnd, IfSome, option_and_then}
use Rattle.std.proofs.lemmas.Bool.{cases_lt, lt-ltb}
use Rattle.byteorder.specs.Endian.{little_bytes}
use Rattle.byteorder.specs.Numbers.{length-bytes_low_first}
use Rattle.elf_image.specs.declared.elf.Elf.{Elf}
use Rattle.elf_image.specs.declared.segment.Segment.{Segment}
use Rattle.elf_image.specs.declared.segment.TheConstants.{PHDR_SIZE}
use Rattle.elf_image.specs.file.Header.{header_size}
use Rattle.elf_image.specs.memory.Image.{is_load, loads_address, segment_of, LoadOnce}
use Rattle.elf_image.specs.memory.LoadedBytes.{file_offset, offset_in, IsInHeaders}
use Rattle.elf_image.specs.faults.SegmentLayout.{IsFileByte}
use Rattle.elf_image.proofs.LoadLemmas.{loads-parts, loads-from_parts}
use Rattle.rb_bytes.proofs.Searches.{find-found}
use Rattle.elf_parts.specs.declared.number_at.NumberAt.{NumberAt}
use Rattle.elf_parts.specs.Numbers.{patch_of}
use Rattle.elf_parts.specs.Patches.{AreApart}
use Rattle.elf_plan.specs.declared.area.Shift.{Shift}
use Rattle.elf_plan.specs.Area.{moved_by}
use Rattle.elf_make.specs.CellNumbers.{CellStandsIn, IsCellNumber}
use Rattle.elf_make.proofs.CellPatches.{moved-more}
use Rattle.elf_make.proofs.Images.{segment_of-once}

-- no two segments load a byte of the file
abbrev pub FileOnce : List Segment → Type 0
FileOnce ps = (k : ℕ) (p q : Segment) → Contains ps p → Contains ps q → IsFileByte k p → IsFileByte k q → p ≡ q

-- The segment that loads a cell from the file, and where its number was put.
pub record CellPlace (ps : List Segment) (shift : Shift) (cell : ℕ × ℕ × ℕ) (number : NumberAt) : Type 0 where
  pub segment : Segment
  pub there : Contains ps segment
  pub load : IsTrue (is_load segment)
  pub low : segment.vaddr ≤ cell.0
  pub in_file : (cell.0 - segment.vaddr) + cell.1 ≤ segment.filesz
  pub in_memory : (cell.0 - segment.vaddr) + cell.1 ≤ segment.memsz
  pub offset : number.offset ≡ moved_by shift.from shift.by (segment.offset + (cell.0 - segment.vaddr))

pub cell-place : (elf : Elf) (shift : Shift) (cell : ℕ × ℕ × ℕ) (number : NumberAt) → IsCellNumber elf shift cell number →
    CellPlace elf.segments.items shift cell number
cell-place elf shift cell number is = cases (segment_of elf.segments.items cell.0) refl is.place
  where
    cases : (o : Option Segment) → segment_of elf.segments.items cell.0 ≡ o → IsSomeAnd o (CellStandsIn shift cell number) →
        CellPlace elf.segments.items shift cell number
    cases None e place = absurd place
    cases (Some p) e place =
        let found = find-found (loads_address cell.0) elf.segments.items p e in
        let parts = loads-parts cell.0 p found.0 in
        let inside : (cell.0 - p.vaddr) + cell.1 ≤ min p.filesz p.memsz = place.inside in
        record {
          segment = p;
          there = found.1;
          load = parts.0;
          low = parts.1;
          in_file = omega arith;
          in_memory = omega arith;
          offset = place.offset;
        }

-- where it is in the input
abbrev pub stands_at : {ps : List Segment} {shift : Shift} {cell : ℕ × ℕ × ℕ} {number : NumberAt} →
    CellPlace ps shift cell number → ℕ
stands_at {cell = cell} place = place.segment.offset + (cell.0 - place.segment.vaddr)

-- two cells without a common byte have none in the file
places-apart : (o w k v : ℕ) (p q : Segment) (a b : ℕ) → o ≡ p.offset + (a - p.vaddr) → k ≡ q.offset + (b - q.vaddr) →
    p.vaddr ≤ a → q.vaddr ≤ b → (a - p.vaddr) + w ≤ p.filesz → (b - q.vaddr) + v ≤ q.filesz → 0 < w → 0 < v → IsTrue (is_load p) →
    IsTrue (is_load q) → ((j : ℕ) → IsFileByte j p → IsFileByte j q → p ≡ q) → (a + w ≤ b) ⊎ (b + v ≤ a) →
    (o + w ≤ k) ⊎ (k + v ≤ o)
places-apart o w k v p q a b first second low high in_p in_q some more load_p load_q once apart =
    cases (cases_lt k (o + w)) (cases_lt o (k + v)) (cases_lt o k)
  where
    same : p ≡ q → k ≡ p.offset + (b - p.vaddr)
    same e = subst (λ (x : Segment). k ≡ x.offset + (b - x.vaddr)) (sym e) second

    from_same : p ≡ q → p.vaddr ≤ b
    from_same e = subst (λ (x : Segment). x.vaddr ≤ b) (sym e) high

    decided : p ≡ q → (a + w ≤ b) ⊎ (b + v ≤ a) → (o + w ≤ k) ⊎ (k + v ≤ o)
    decided e (inl before) =
        let there : k ≡ p.offset + (b - p.vaddr) = same e in
        let from : p.vaddr ≤ b = from_same e in
        inl (omega (arith, first, there, low, before))
    decided e (inr behind) =
        let there : k ≡ p.offset + (b - p.vaddr) = same e in
        let from : p.vaddr ≤ b = from_same e in
        inr (omega (arith, first, there, low, behind))

    cases : (k < o + w) ⊎ (o + w ≤ k) → (o < k + v) ⊎ (k + v ≤ o) → (o < k) ⊎ (k ≤ o) → (o + w ≤ k) ⊎ (k + v ≤ o)
    cases (inr before) other order = inl before
    cases (inl under) (inr behind) order = inr behind
    cases (inl under) (inl over) (inl less) = decided (once k (load_p, omega (arith, first), omega (arith, first, in_p))
        (load_q, omega (arith, second), omega (arith, second, in_q, more))) apart
    cases (inl under) (inl over) (inr more_or_same) =
        decided (once o (load_p, omega (arith, first), omega (arith, first, in_p, some))
        (load_q, omega (arith, second, more_or_same), omega (arith, second, in_q))) apart

pub numbers-apart : (ps : List Segment) (shift : Shift) (c d : ℕ × ℕ × ℕ) (n m : NumberAt) → FileOnce ps →
    CellPlace ps shift c n → CellPlace ps shift d m → n.width ≡ c.1 → m.width ≡ d.1 → 0 < c.1 → 0 < d.1 →
    (c.0 + c.1 ≤ d.0) ⊎ (d.0 + d.1 ≤ c.0) → AreApart (patch_of n) (patch_of m)
numbers-apart ps shift c d n m once first second n_width m_width some more apart =
    cases
    (places-apart (stands_at first) c.1 (stands_at second) d.1 first.segment second.segment c.0 d.0 refl refl first.low second.low
    first.in_file second.in_file some more first.load second.load
    (λ j in_p in_q. once j first.segment second.segment first.there second.there in_p in_q) apart)
  where
    n_size : length (little_bytes n.width n.value) ≡ c.1
    n_size = length-bytes_low_first 0 n.width n.value ∙ n_width

    m_size : length (little_bytes m.width m.value) ≡ d.1
    m_size = length-bytes_low_first 0 m.width m.value ∙ m_width

    cases : (stands_at first + c.1 ≤ stands_at second) ⊎ (stands_at second + d.1 ≤ stands_at first) →
        AreApart (patch_of n) (patch_of m)
    cases (inl before) =
        let moved = moved-more shift.from shift.by (stands_at second) (stands_at first) c.1 before in
        inl (omega (arith, moved, n_size, first.offset, second.offset))
    cases (inr behind) =
        let moved = moved-more shift.from shift.by (stands_at first) (stands_at second) d.1 behind in
        inr (omega (arith, moved, m_size, first.offset, second.offset))

-- The bytes of a cell in the input: the place of each.
pub cell-offset : (ps : List Segment) (shift : Shift) (cell : ℕ × ℕ × ℕ) (number : NumberAt)
    (place : CellPlace ps shift cell number) (i : ℕ) → LoadOnce ps → i < cell.1 →
    file_offset ps (cell.0 + i) ≡ Some (stands_at place + i)
cell-offset ps shift cell number place i once below =
    ap (λ (o : Option Segment). option_and_then (offset_in (cell.0 + i)) o)
    (segment_of-once ps (cell.0 + i) p once place.there loads)
    ∙ rw (lt-ltb ((cell.0 + i) - p.vaddr) p.filesz inside) (ap (λ (o : ℕ). Some o) there)
  where
    p : Segment
    p = place.segment

    loads : IsTrue (loads_address (cell.0 + i) p)
    loads =
        let low = place.low in
        let high = place.in_memory in
        loads-from_parts (cell.0 + i) p place.load (omega arith) (omega arith)

    inside : (cell.0 + i) - p.vaddr < p.filesz
    inside = let low = place.low in let high = place.in_file in omega arith

    there : p.offset + ((cell.0 + i) - p.vaddr) ≡ (p.offset + (cell.0 - p.vaddr)) + i
    there = let low = place.low in omega arith

-- A cell without a byte of a header is beside the file's header and beside the table.
pub record IsBesideHeaders (table table_end o w : ℕ) : Type 0 where
  pub header : header_size ≤ o
  pub apart : (o + w ≤ table) ⊎ (table_end ≤ o)

pub beside-headers : (elf : Elf) (shift : Shift) (cell : ℕ × ℕ × ℕ) (number : NumberAt)
    (place : CellPlace elf.segments.items shift cell number) → LoadOnce elf.segments.items → 0 < cell.1 →
    0 < length elf.segments.items →
    ((i : ℕ) → i < cell.1 → IfSome (file_offset elf.segments.items (cell.0 + i)) (λ offset. IsInHeaders elf offset → ⊥)) →
    IsBesideHeaders elf.phoff (elf.phoff + PHDR_SIZE * length elf.segments.items) (stands_at place) cell.1
beside-headers elf shift cell number place once some headers none = record {
  header = from_header (cases_lt o header_size);
  apart = from_table (cases_lt o elf.phoff) (cases_lt o table_end);
}
  where
    o : ℕ
    o = stands_at place

    table_end : ℕ
    table_end = elf.phoff + PHDR_SIZE * length elf.segments.items

    never : (i : ℕ) → i < cell.1 → IsInHeaders elf (o + i) → ⊥
    never i below = subst (λ (r : Option ℕ). IfSome r (λ offset. IsInHeaders elf offset → ⊥))
        (cell-offset elf.segments.items shift cell number place i once below) (none i below)

    from_header : (o < header_size) ⊎ (header_size ≤ o) → header_size ≤ o
    from_header (inl low) = absurd (never 0 some (inl (omega (arith, low))))
    from_header (inr high) = high

    -- a byte of it that is the table's first
    meets : o < elf.phoff → (elf.phoff < o + cell.1) ⊎ (o + cell.1 ≤ elf.phoff) → (o + cell.1 ≤ elf.phoff) ⊎ (table_end ≤ o)
    meets low (inr before) = inl before
    meets low (inl over) =
        absurd (never (elf.phoff - o) (omega (arith, low, over)) (inr (omega (arith, low), omega (arith, low, headers))))

    from_table : (o < elf.phoff) ⊎ (elf.phoff ≤ o) → (o < table_end) ⊎ (table_end ≤ o) →
        (o + cell.1 ≤ elf.phoff) ⊎ (table_end ≤ o)
    from_table (inl low) other = meets low (cases_lt elf.phoff (o + cell.1))
    from_table (inr from) (inl under) = absurd (never 0 some (inr (omega (arith, from), omega (arith, under))))
    from_table (inr from) (inr behind) = inr behind

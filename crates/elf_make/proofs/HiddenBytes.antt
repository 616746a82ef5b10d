-- Bytes of a file's headers that its rewriting may change.
use Rattle.std.proofs.Common.{◌≡◌, ◌∙◌, sym, ap, subst, refl, ℕ, ◌+◌, ◌-◌, ◌*◌, ◌≤◌, ◌<◌, ◌⊎◌, inl, inr, List, [], ◌∷◌, ◌++◌}
use Rattle.std.proofs.Common.{Option, Some, None, Bool, true, false, IsTrue, length, get_or, arith, min}
use Rattle.std.specs.Prelude.{Contains, find, flat_map, is_none, ◌||◌, ◌&&◌, nat_le, nat_lt, option_map, option_and_then}
use Rattle.std.specs.List.{list_any, enumerate_from}
use Rattle.std.specs.Option.{option_map_or}
use Rattle.std.proofs.lemmas.Bool.{lt-ltb, le-leb, leb-true, and_from, eq-eqb, or_left, or_right}
use Rattle.std.proofs.lemmas.List.{get_or_default}
use Rattle.std.proofs.lemmas.List.Folds.{list_any-append, list_any_at}
use Rattle.std.proofs.lemmas.List.FromFn.{length-enumerate_from, get_or-enumerate_from}
use Rattle.elf_image.specs.declared.elf.Elf.{Elf}
use Rattle.elf_image.specs.declared.segment.Segment.{Segment}
use Rattle.elf_image.specs.declared.segment.TheConstants.{PHDR_SIZE, PT_GNU_EH_FRAME}
use Rattle.elf_image.specs.faults.SegmentLayout.{IsFileByte}
use Rattle.elf_image.specs.memory.CodeSegment.{executable_end}
use Rattle.elf_image.specs.memory.Image.{is_load, loads_address, segment_of, LoadOnce}
use Rattle.elf_image.specs.memory.LoadedBytes.{Range, is_in_range, address_of, address_in, loads_range, file_offset, offset_in}
use Rattle.elf_image.proofs.LoadLemmas.{loads-from_parts}
use Rattle.rb_bytes.proofs.Searches.{find-found}
use Rattle.rb_bytes.proofs.Members.{Contains-cons_cases}
use Rattle.rb_bytes.proofs.Tests.{second_of}
use Rattle.elf_image.specs.memory.HiddenFields.{e_entry_field, e_phoff_field, e_phnum_field, section_fields, p_offset_field}
use Rattle.elf_image.specs.memory.HiddenFields.{size_fields, place_fields, only, is_executable_segment, hidden_in_segment}
use Rattle.elf_image.specs.memory.HiddenFields.{hidden_fields, is_hidden_field, is_in_entry_field}
use Rattle.elf_make.specs.Source.{Source, is_changed, cell_range}
use Rattle.elf_make.proofs.Images.{segment_of-once}

-- Tests.

and-left : (a b : Bool) → (a && b) ≡ true → a ≡ true
and-left true b e = refl
and-left false b e = e

any-left : {X : Type 0} (p : X → Bool) (xs ys : List X) → list_any p xs ≡ true → list_any p (xs ++ ys) ≡ true
any-left p xs ys e = list_any-append p xs ys ∙ or_left (list_any p xs) (list_any p ys) e

any-right : {X : Type 0} (p : X → Bool) (xs ys : List X) → list_any p ys ≡ true → list_any p (xs ++ ys) ≡ true
any-right p xs ys e = list_any-append p xs ys ∙ or_right (list_any p xs) (list_any p ys) e

any-flat_map : {X Y : Type 0} (p : Y → Bool) (f : X → List Y) (xs : List X) (x : X) → Contains xs x → list_any p (f x) ≡ true →
    list_any p (flat_map f xs) ≡ true
any-flat_map p f [] x (i, below, is) e = absurd (omega arith)
any-flat_map {X} p f (y ∷ ys) x there e = cases (Contains-cons_cases y ys x there) (λ later. any-flat_map p f ys x later e)
  where
    cases : (y ≡ x) ⊎ Contains ys x → (Contains ys x → list_any p (flat_map f ys) ≡ true) →
        list_any p (flat_map f (y ∷ ys)) ≡ true
    cases (inl here) rest = any-left p (f y) (flat_map f ys) (ap (λ (z : X). list_any p (f z)) here ∙ e)
    cases (inr later) rest = any-right p (f y) (flat_map f ys) (rest later)

in-range : (k start size : ℕ) → start ≤ k → k < start + size → is_in_range k (record { start = start; size = size }) ≡ true
in-range k start size from below =
    and_from (nat_le start k) (nat_lt k (start + size)) (le-leb start k from) (lt-ltb k (start + size) below)

any-only : (k : ℕ) (test : Bool) (r : Range) → test ≡ true → is_in_range k r ≡ true →
    list_any (is_in_range k) (only test r) ≡ true
any-only k test r e inside = rw e (or_left (is_in_range k r) false inside)

-- Fields of the file's header.

module _ (elf : Elf) (tight : Bool) where
  abbrev phoff_fields : List Range
  phoff_fields = only (tight || nat_le (executable_end elf.segments.items) elf.phoff) e_phoff_field

  abbrev phnum_fields : List Range
  phnum_fields = only tight e_phnum_field

  abbrev entry_fields : List Range
  entry_fields = only (is_none (address_of elf e_entry_field)) e_entry_field

  abbrev segment_fields : List Range
  segment_fields = flat_map (hidden_in_segment elf) (enumerate_from 0 elf.segments.items)

  in-sections : (k : ℕ) → list_any (is_in_range k) section_fields ≡ true →
      list_any (is_in_range k) (hidden_fields elf tight) ≡ true
  in-sections k e =
      any-left (is_in_range k) (section_fields ++ phoff_fields ++ phnum_fields ++ entry_fields) segment_fields
      (any-left (is_in_range k) (section_fields ++ phoff_fields ++ phnum_fields) entry_fields
      (any-left (is_in_range k) (section_fields ++ phoff_fields) phnum_fields
      (any-left (is_in_range k) section_fields phoff_fields e)))

  pub hides-e_shoff : (k : ℕ) → 0x28 ≤ k → k < 0x30 → list_any (is_in_range k) (hidden_fields elf tight) ≡ true
  hides-e_shoff k from below =
      in-sections k (or_left (is_in_range k (record { start = 0x28; size = 8 })) _ (in-range k 0x28 8 from below))

  pub hides-e_shnum : (k : ℕ) → 0x3c ≤ k → k < 0x3e → list_any (is_in_range k) (hidden_fields elf tight) ≡ true
  hides-e_shnum k from below =
      in-sections k
      (or_right (is_in_range k (record { start = 0x28; size = 8 })) _
      (or_left (is_in_range k (record { start = 0x3c; size = 2 })) _ (in-range k 0x3c 2 from below)))

  pub hides-e_phoff : (k : ℕ) → 0x20 ≤ k → k < 0x28 → (tight || nat_le (executable_end elf.segments.items) elf.phoff) ≡ true →
      list_any (is_in_range k) (hidden_fields elf tight) ≡ true
  hides-e_phoff k from below moves =
      any-left (is_in_range k) (section_fields ++ phoff_fields ++ phnum_fields ++ entry_fields) segment_fields
      (any-left (is_in_range k) (section_fields ++ phoff_fields ++ phnum_fields) entry_fields
      (any-left (is_in_range k) (section_fields ++ phoff_fields) phnum_fields
      (any-right (is_in_range k) section_fields phoff_fields (any-only k _ e_phoff_field moves (in-range k 0x20 8 from below)))))

  pub hides-e_phnum : (k : ℕ) → 0x38 ≤ k → k < 0x3a → tight ≡ true → list_any (is_in_range k) (hidden_fields elf tight) ≡ true
  hides-e_phnum k from below moves =
      any-left (is_in_range k) (section_fields ++ phoff_fields ++ phnum_fields ++ entry_fields) segment_fields
      (any-left (is_in_range k) (section_fields ++ phoff_fields ++ phnum_fields) entry_fields
      (any-right (is_in_range k) (section_fields ++ phoff_fields) phnum_fields
      (any-only k _ e_phnum_field moves (in-range k 0x38 2 from below))))

  pub hides-e_entry : (k : ℕ) → 0x18 ≤ k → k < 0x20 → address_of elf e_entry_field ≡ None →
      list_any (is_in_range k) (hidden_fields elf tight) ≡ true
  hides-e_entry k from below none =
      any-left (is_in_range k) (section_fields ++ phoff_fields ++ phnum_fields ++ entry_fields) segment_fields
      (any-right (is_in_range k) (section_fields ++ phoff_fields ++ phnum_fields) entry_fields
      (any-only k _ e_entry_field (ap (λ (o : Option ℕ). is_none o) none) (in-range k 0x18 8 from below)))

  -- those of a program header
  hides-segment : (k i : ℕ) → i < length elf.segments.items →
      ((d : Segment) → list_any (is_in_range k) (hidden_in_segment elf (i, get_or elf.segments.items i d)) ≡ true) →
      list_any (is_in_range k) (hidden_fields elf tight) ≡ true
  hides-segment k i below inside =
      any-right (is_in_range k) (section_fields ++ phoff_fields ++ phnum_fields ++ entry_fields) segment_fields
      (any-flat_map (is_in_range k) (hidden_in_segment elf) (enumerate_from 0 elf.segments.items) x there
      (subst (λ (y : ℕ × Segment). list_any (is_in_range k) (hidden_in_segment elf y) ≡ true) item (inside none)))
    where
      none : Segment
      none = record { kind = 0; flags = 0; offset = 0; vaddr = 0; paddr = 0; filesz = 0; memsz = 0; align = 0 }

      x : ℕ × Segment
      x = get_or (enumerate_from 0 elf.segments.items) i (0, none)

      zero_more : 0 + i ≡ i
      zero_more = omega arith

      item : (i, get_or elf.segments.items i none) ≡ x
      item = sym (get_or-enumerate_from 0 elf.segments.items i (0, none) below
          ∙ ap (λ (n : ℕ). (n, get_or elf.segments.items i none)) zero_more)

      there : Contains (enumerate_from 0 elf.segments.items) x
      there =
          let long = length-enumerate_from 0 elf.segments.items in
          (i, omega arith, get_or_default (enumerate_from 0 elf.segments.items) i x (0, none) (omega arith))

  module _ (i k : ℕ) (below : i < length elf.segments.items) where
    abbrev at : ℕ
    at = elf.phoff + PHDR_SIZE * i

    abbrev sizes_hidden : Segment → List Range
    sizes_hidden p = only (is_executable_segment elf i) (size_fields at)

    abbrev offset_hidden : Segment → List Range
    offset_hidden p = only (nat_le (executable_end elf.segments.items) p.offset) (p_offset_field at)

    pub hides-sizes : at + 32 ≤ k → k < at + 48 → is_executable_segment elf i ≡ true →
        list_any (is_in_range k) (hidden_fields elf tight) ≡ true
    hides-sizes from under is =
        hides-segment k i below
        (λ d. any-left (is_in_range k)
        (sizes_hidden (get_or elf.segments.items i d) ++ offset_hidden (get_or elf.segments.items i d)) _
        (any-left (is_in_range k) (sizes_hidden (get_or elf.segments.items i d)) _
        (any-only k _ (size_fields at) is (in-range k (at + 32) 16 from (omega arith)))))

    pub hides-offset : at + 8 ≤ k → k < at + 16 →
        ((d : Segment) → executable_end elf.segments.items ≤ (get_or elf.segments.items i d).offset) →
        list_any (is_in_range k) (hidden_fields elf tight) ≡ true
    hides-offset from under is =
        hides-segment k i below
        (λ d. any-left (is_in_range k)
        (sizes_hidden (get_or elf.segments.items i d) ++ offset_hidden (get_or elf.segments.items i d)) _
        (any-right (is_in_range k) (sizes_hidden (get_or elf.segments.items i d)) (offset_hidden (get_or elf.segments.items i d))
        (any-only k _ (p_offset_field at) (le-leb _ _ (is d)) (in-range k (at + 8) 8 from (omega arith)))))

    pub hides-place : at + 8 ≤ k → k < at + 48 → ((d : Segment) → (get_or elf.segments.items i d).kind ≡ PT_GNU_EH_FRAME) →
        list_any (is_in_range k) (hidden_fields elf tight) ≡ true
    hides-place from under is =
        hides-segment k i below
        (λ d. any-right (is_in_range k)
        (sizes_hidden (get_or elf.segments.items i d) ++ offset_hidden (get_or elf.segments.items i d)) _
        (any-only k _ (place_fields at) (eq-eqb _ _ (is d)) (in-range k (at + 8) 40 from (omega arith))))

-- What is hidden in the file is hidden in memory, and may change.
pub is_hidden-at : (elf : Elf) (tight : Bool) (p : Segment) (k : ℕ) → LoadOnce elf.segments.items →
    Contains elf.segments.items p → IsFileByte k p → k - p.offset < p.memsz →
    list_any (is_in_range k) (hidden_fields elf tight) ≡ true → is_hidden_field elf tight (p.vaddr + (k - p.offset)) ≡ true
is_hidden-at elf tight p k once there in_file in_memory hides =
    let a : ℕ = p.vaddr + (k - p.offset) in
    let loads : IsTrue (loads_address a p) = loads-from_parts a p in_file.0 (omega arith) (omega arith) in
    let found : segment_of elf.segments.items a ≡ Some p = segment_of-once elf.segments.items a p once there loads in
    let inside : a - p.vaddr < p.filesz = let high = in_file.2 in let low = in_file.1 in omega arith in
    let back : p.offset + (a - p.vaddr) ≡ k = let low = in_file.1 in omega arith in
    let placed : file_offset elf.segments.items a ≡ Some k =
    ap (λ (o : Option Segment). option_and_then (offset_in a) o) found
    ∙ rw (lt-ltb (a - p.vaddr) p.filesz inside) (ap (λ (n : ℕ). Some n) back) in
    ap
    (λ (o : Option ℕ). option_map_or (λ offset. list_any (is_in_range offset) (hidden_fields elf tight)) o false) placed ∙ hides

pub changed-hidden : (s : Source) (tight : Bool) (a : ℕ) → is_hidden_field s.elf tight a ≡ true → is_changed s tight a ≡ true
changed-hidden s tight a e = or_right (list_any (λ cell. is_in_range a (cell_range cell)) s.cells || is_in_entry_field s.elf a)
    (is_hidden_field s.elf tight a) e

pub changed-entry : (s : Source) (tight : Bool) (a : ℕ) → is_in_entry_field s.elf a ≡ true → is_changed s tight a ≡ true
changed-entry s tight a e =
    or_left (list_any (λ cell. is_in_range a (cell_range cell)) s.cells || is_in_entry_field s.elf a)
    (is_hidden_field s.elf tight a)
    (or_right (list_any (λ cell. is_in_range a (cell_range cell)) s.cells) (is_in_entry_field s.elf a) e)

pub changed-cell : (s : Source) (tight : Bool) (a : ℕ) (cell : ℕ × ℕ × ℕ) → Contains s.cells cell → cell.0 ≤ a →
    a < cell.0 + cell.1 → is_changed s tight a ≡ true
changed-cell s tight a cell (i, below, is) from under =
    or_left (list_any (λ c. is_in_range a (cell_range c)) s.cells || is_in_entry_field s.elf a) (is_hidden_field s.elf tight a)
    (or_left (list_any (λ c. is_in_range a (cell_range c)) s.cells) (is_in_entry_field s.elf a)
    (list_any_at (λ c. is_in_range a (cell_range c)) s.cells i cell below
    (ap (λ (c : ℕ × ℕ × ℕ). is_in_range a (cell_range c)) is ∙ in-range a cell.0 cell.1 from under)))

-- a byte of the entry point's field, of which some is loaded
pub changed-e_entry : (s : Source) (tight : Bool) (p : Segment) (k : ℕ) → LoadOnce s.elf.segments.items →
    ((q : Segment) → Contains s.elf.segments.items q → IsFileByte k q → p ≡ q) → Contains s.elf.segments.items p →
    IsFileByte k p → k - p.offset < p.memsz → 0x18 ≤ k → k < 0x20 → is_changed s tight (p.vaddr + (k - p.offset)) ≡ true
changed-e_entry s tight p k once alone there in_file in_memory from below =
    cases (find (loads_range e_entry_field) s.elf.segments.items) refl
  where
    a : ℕ
    a = p.vaddr + (k - p.offset)

    whole : (q : Segment) → loads_range e_entry_field q ≡ true →
        (IsTrue (is_load q) × (q.offset ≤ 0x18)) × (0x20 ≤ q.offset + min q.filesz q.memsz)
    whole q e = (
      (
        and-left (is_load q) _ (and-left (is_load q && nat_le q.offset 0x18) _ e),
        leb-true q.offset 0x18 (second_of (is_load q) (nat_le q.offset 0x18) (and-left (is_load q && nat_le q.offset 0x18) _ e)),
      ),
      leb-true 0x20 (q.offset + min q.filesz q.memsz)
          (second_of (is_load q && nat_le q.offset 0x18) (nat_le 0x20 (q.offset + min q.filesz q.memsz)) e),
    )

    cases : (o : Option Segment) → find (loads_range e_entry_field) s.elf.segments.items ≡ o → is_changed s tight a ≡ true
    cases None e =
        changed-hidden s tight a
        (is_hidden-at s.elf tight p k once there in_file in_memory
        (hides-e_entry s.elf tight k from below (ap (λ (o : Option Segment). option_map (address_in e_entry_field) o) e)))
    cases (Some q) e =
        let found = find-found (loads_range e_entry_field) s.elf.segments.items q e in
        let bounds = whole q found.0 in
        let low : q.offset ≤ 0x18 = bounds.0.1 in
        let high : 0x20 ≤ q.offset + min q.filesz q.memsz = bounds.1 in
        let same : p ≡ q = alone q found.1 (bounds.0.0, omega arith, omega arith) in
        let address : address_of s.elf e_entry_field ≡ Some (p.vaddr + (0x18 - p.offset)) =
        ap (λ (o : Option Segment). option_map (address_in e_entry_field) o) e
        ∙ ap (λ (x : Segment). Some (x.vaddr + (0x18 - x.offset))) (sym same) in
        let under : p.offset ≤ 0x18 = subst (λ (x : Segment). x.offset ≤ 0x18) (sym same) low in
        changed-entry s tight a
        (ap (λ (o : Option ℕ). option_map_or (λ start. is_in_range a (record { start = start; size = 8 })) o false) address
        ∙ in-range a (p.vaddr + (0x18 - p.offset)) 8 (omega arith) (omega arith))

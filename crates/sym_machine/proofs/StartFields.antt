-- Hidden fields: the addresses at which they are loaded, and their lists.
use Rattle.std.proofs.Common.{◌≡◌, ◌∙◌, ap, refl, sym, subst, ℕ, ◌+◌, ◌-◌, ◌*◌, ◌^◌, ◌<◌, ◌≤◌, ◌⊎◌, inl, inr, ⊎_elim, Bool, rules}
use Rattle.std.proofs.Common.{true, false, List, [], ◌∷◌, ◌++◌, Option, Some, None, arith, map, length, take, get_or}
use Rattle.std.specs.Prelude.{◌&&◌, ◌||◌, ◌==◌, nat_le, nat_lt, min, Contains, find, if◌then◌else◌, is_none, flat_map}
use Rattle.std.specs.List.{list_any, enumerate_from}
use Rattle.std.specs.Option.{option_and_then, option_map_or}
use Rattle.std.proofs.lemmas.List.{take_more}
use Rattle.std.proofs.lemmas.Bool.{and_parts, and_from, leb-true, ltb-true, lt-ltb, le-leb, or_cases, or_left, or_right}
use Rattle.elf_image.specs.declared.elf.Elf.{Elf}
use Rattle.elf_image.specs.declared.segment.Segment.{Segment}
use Rattle.elf_image.specs.memory.Image.{is_load, has_memory, end_of, loads_address, segment_of}
use Rattle.elf_image.specs.file.Header.{header_size}
use Rattle.elf_image.specs.declared.segment.TheConstants.{PHDR_SIZE, PT_GNU_EH_FRAME}
use Rattle.elf_image.specs.memory.CodeSegment.{executable_end}
use Rattle.elf_image.specs.memory.LoadedBytes.{Range, address_of, loads_range, file_offset, offset_in, is_in_range}
use Rattle.rb_bytes.proofs.Searches.{find-found}
use Rattle.rb_bytes.proofs.Tests.{bool_same}
use Rattle.elf_image.specs.memory.HiddenFields.{only, section_fields, e_entry_field, e_phoff_field, e_phnum_field}
use Rattle.elf_image.specs.memory.HiddenFields.{p_offset_field, size_fields, place_fields, is_executable_segment}
use Rattle.elf_image.specs.memory.HiddenFields.{hidden_in_segment, is_hidden_field, hidden_fields}
use Rattle.sym_machine.specs.internal.Fields.{AreLow}
use Rattle.sym_machine.specs.internal.SpecialBytes.{covers, covers_between, covers_header}

pub list_any-map : {X Y : Type 0} (p : Y → Bool) (f : X → Y) (xs : List X) → list_any p (map f xs) ≡ list_any (λ x. p (f x)) xs
list_any-map p f [] = refl
list_any-map p f (x ∷ xs) = ap (λ rest. p (f x) || rest) (list_any-map p f xs)

-- a segment with a byte in memory
some_memory : (p : Segment) → is_load p ≡ true → 0 < p.memsz → has_memory p ≡ true
some_memory p load some = and_from (is_load p) (nat_lt 0 p.memsz) load (lt-ltb 0 p.memsz some)

pub record EntryLies (p : Segment) : Type 0 where
  pub before : p.offset ≤ 24
  pub low : p.vaddr + (24 - p.offset) + 8 ≤ 2 ^ 63

pub entry_lies : (segments : List Segment) (p : Segment) → AreLow segments →
    find (loads_range e_entry_field) segments ≡ Some p → EntryLies p
entry_lies segments p low is = search (rules, find-found, and_parts, leb-true, some_memory)

pub segment_low : (segments : List Segment) (p : Segment) (i : ℕ) → AreLow segments → Contains segments p → is_load p ≡ true →
    i < min p.filesz p.memsz → p.vaddr + i < 2 ^ 63
segment_low segments p i low one load within = search (rules, some_memory)

-- Hidden fields are in the headers.

-- an offset is in the file's header, or in the table of n program headers
data IsInTables (elf : Elf) (n o : ℕ) : Type 0 where
  header : o < header_size → IsInTables elf n o
  table : elf.phoff ≤ o → o < elf.phoff + PHDR_SIZE * n → IsInTables elf n o

pub in_range : (o : ℕ) (range : Range) → is_in_range o range ≡ true → (range.start ≤ o) × (o < range.start + range.size)
in_range o range is = search (rules, and_parts, leb-true, ltb-true)

any-append : (o : ℕ) (xs ys : List Range) → list_any (is_in_range o) (xs ++ ys) ≡ true →
    (list_any (is_in_range o) xs ≡ true) ⊎ (list_any (is_in_range o) ys ≡ true)
any-append o [] ys is = inr is
any-append o (x ∷ xs) ys is =
    ⊎_elim (λ (here : is_in_range o x ≡ true). inl (rw here refl))
    (λ (rest : list_any (is_in_range o) (xs ++ ys) ≡ true).
    ⊎_elim (λ (first : list_any (is_in_range o) xs ≡ true). inl (or_right (is_in_range o x) _ first))
    (λ (second : list_any (is_in_range o) ys ≡ true). inr second) (any-append o xs ys rest))
    (or_cases (is_in_range o x) (list_any (is_in_range o) (xs ++ ys)) is)

any-only : (o : ℕ) (test : Bool) (range : Range) → list_any (is_in_range o) (only test range) ≡ true →
    (range.start ≤ o) × (o < range.start + range.size)
any-only o false range is = absurd (cc)
any-only o true range is = search (rules, in_range, or_cases)

-- the hidden fields of one program header, by the reason for which they are hidden
abbrev header_at : Elf → ℕ → ℕ
header_at elf i = elf.phoff + PHDR_SIZE * i

abbrev hidden_sizes : Elf → ℕ → List Range
hidden_sizes elf i = only (is_executable_segment elf i) (size_fields (header_at elf i))

abbrev hidden_offset : Elf → ℕ → Segment → List Range
hidden_offset elf i p = only (nat_le (executable_end elf.segments.items) p.offset) (p_offset_field (header_at elf i))

abbrev hidden_places : Elf → ℕ → Segment → List Range
hidden_places elf i p = only (p.kind == PT_GNU_EH_FRAME) (place_fields (header_at elf i))

any-segments : (elf : Elf) (o i n : ℕ) (segments : List Segment) → i + length segments ≤ n →
    list_any (is_in_range o) (flat_map (hidden_in_segment elf) (enumerate_from i segments)) ≡ true → IsInTables elf n o
any-segments elf o i n [] few is = absurd (cc)
any-segments elf o i n (p ∷ ps) few is =
    ⊎_elim
    (λ (here : list_any (is_in_range o) (hidden_in_segment elf (i, p)) ≡ true).
    ⊎_elim
    (λ (first : list_any (is_in_range o) (hidden_sizes elf i ++ hidden_offset elf i p) ≡ true).
    ⊎_elim (λ (size : list_any (is_in_range o) (hidden_sizes elf i) ≡ true).
    let at = any-only o (is_executable_segment elf i) (size_fields (header_at elf i)) size in
    table (omega (arith, at)) (omega (arith, at, few)))
    (λ (place : list_any (is_in_range o) (hidden_offset elf i p) ≡ true). let at = any-only o (nat_le
    (executable_end elf.segments.items) p.offset) (p_offset_field (header_at elf i)) place in
    table (omega (arith, at)) (omega (arith, at, few)))
    (any-append o (hidden_sizes elf i) (hidden_offset elf i p) first))
    (λ (places : list_any (is_in_range o) (hidden_places elf i p) ≡ true). let at = any-only o (p.kind == PT_GNU_EH_FRAME)
    (place_fields (header_at elf i)) places in
    table (omega (arith, at)) (omega (arith, at, few)))
    (any-append o (hidden_sizes elf i ++ hidden_offset elf i p) (hidden_places elf i p) here))
    (λ (rest : list_any (is_in_range o) (flat_map (hidden_in_segment elf) (enumerate_from (i + 1) ps)) ≡ true).
    any-segments elf o (i + 1) n ps (omega (arith, few)) rest)
    (any-append o (hidden_in_segment elf (i, p)) (flat_map (hidden_in_segment elf) (enumerate_from (i + 1) ps)) is)

-- the fields of the file's header that are hidden in some files only
abbrev hidden_phoff : Elf → Bool → List Range
hidden_phoff elf tight = only (tight || nat_le (executable_end elf.segments.items) elf.phoff) e_phoff_field

abbrev hidden_phnum : Bool → List Range
hidden_phnum tight = only tight e_phnum_field

abbrev hidden_entry : Elf → List Range
hidden_entry elf = only (is_none (address_of elf e_entry_field)) e_entry_field

hidden-in_tables : (elf : Elf) (tight : Bool) (o : ℕ) → list_any (is_in_range o) (hidden_fields elf tight) ≡ true →
    IsInTables elf (length elf.segments.items) o
hidden-in_tables elf tight o is =
    ⊎_elim
    (λ (a : list_any (is_in_range o) (((section_fields ++ (hidden_phoff elf tight)) ++ (hidden_phnum tight)) ++
    (hidden_entry elf)) ≡ true).
    ⊎_elim
    (λ (b : list_any (is_in_range o) ((section_fields ++ (hidden_phoff elf tight)) ++ (hidden_phnum tight)) ≡ true).
    ⊎_elim
    (λ (d : list_any (is_in_range o) (section_fields ++ (hidden_phoff elf tight)) ≡ true).
    ⊎_elim (λ (e : list_any (is_in_range o) section_fields ≡ true). sections e)
    (λ (e : list_any (is_in_range o) (hidden_phoff elf tight) ≡ true).
    let at = any-only o (tight || nat_le (executable_end elf.segments.items) elf.phoff) e_phoff_field e in header (omega
    (arith, at)))
    (any-append o section_fields (hidden_phoff elf tight) d))
    (λ (d : list_any (is_in_range o) (hidden_phnum tight) ≡ true). let at = any-only o tight e_phnum_field d in
    header (omega (arith, at)))
    (any-append o (section_fields ++ (hidden_phoff elf tight)) (hidden_phnum tight) b))
    (λ (b : list_any (is_in_range o) (hidden_entry elf) ≡ true).
    let at = any-only o (is_none (address_of elf e_entry_field)) e_entry_field b in header (omega (arith, at)))
    (any-append o ((section_fields ++ (hidden_phoff elf tight)) ++ (hidden_phnum tight)) (hidden_entry elf) a))
    (λ (a : list_any (is_in_range o) (flat_map (hidden_in_segment elf) (enumerate_from 0 elf.segments.items)) ≡ true).
    any-segments elf o 0 (length elf.segments.items) elf.segments.items (omega arith) a)
    (any-append o (((section_fields ++ (hidden_phoff elf tight)) ++ (hidden_phnum tight)) ++ (hidden_entry elf)) _ is)
  where
    sections : list_any (is_in_range o) section_fields ≡ true → IsInTables elf (length elf.segments.items) o
    sections e =
        ⊎_elim (λ (f : is_in_range o (record { start = 0x28; size = 8 }) ≡ true). let at = in_range o
        (record { start = 0x28; size = 8 }) f in
        header (omega (arith, at)))
        (λ (rest : list_any (is_in_range o) (record { start = 0x3c; size = 2 } ∷ record { start = 0x3e; size = 2 } ∷ []) ≡ true).
        ⊎_elim (λ (f : is_in_range o (record { start = 0x3c; size = 2 }) ≡ true). let at = in_range o
        (record { start = 0x3c; size = 2 }) f in
        header (omega (arith, at)))
        (λ (f : list_any (is_in_range o) (record { start = 0x3e; size = 2 } ∷ []) ≡ true).
        let at = any-only o true (record { start = 0x3e; size = 2 }) f in header (omega (arith, at)))
        (or_cases _ _ rest))
        (or_cases _ _ e)

-- Each byte of a hidden field is loaded from the headers.

found_in : (test : Segment → Bool) (segments : List Segment) (q : ℕ) (p : Segment) →
    find (loads_address q) segments ≡ Some p → test p ≡ true → list_any test segments ≡ true
found_in test [] q p is passes = absurd (cc)
found_in test (s ∷ ss) q p is passes = by (loads_address q s) is (λ later. found_in test ss q p later passes)
  where
    by : (t : Bool) → (if t then Some s else find (loads_address q) ss) ≡ Some p →
        (find (loads_address q) ss ≡ Some p → list_any test ss ≡ true) → (test s || list_any test ss) ≡ true
    by true first rest = let same : s ≡ p = cc in rw (ap test same ∙ passes) refl
    by false later rest = or_right (test s) (list_any test ss) (rest later)

abbrev offset_of : ℕ → Segment → ℕ
offset_of q p = p.offset + (q - p.vaddr)

abbrev table_end : Elf → ℕ
table_end elf = elf.phoff + PHDR_SIZE * length elf.segments.items

-- a segment that loads an address from the headers passes the test for it
header_covered : (elf : Elf) (q : ℕ) (p : Segment) → covers q p ≡ true →
    IsInTables elf (length elf.segments.items) (offset_of q p) → covers_header elf q p ≡ true
unfolding covers_header
header_covered elf q p here (header low) =
    let inside = and_from (nat_le 0 (offset_of q p)) (nat_lt (offset_of q p) header_size)
    (le-leb 0 (offset_of q p) (omega arith)) (lt-ltb (offset_of q p) header_size low) in
    or_left _ _ (and_from (covers q p) (nat_le 0 (offset_of q p) && nat_lt (offset_of q p) header_size) here inside)
header_covered elf q p here (table from to) =
    or_right _ _ (and_from (covers q p) (nat_le elf.phoff (offset_of q p) && nat_lt (offset_of q p) (table_end elf)) here
    (and_from (nat_le elf.phoff (offset_of q p)) (nat_lt (offset_of q p) (table_end elf)) (le-leb elf.phoff (offset_of q p) from)
    (lt-ltb (offset_of q p) (table_end elf) to)))

covered_all : (elf : Elf) (q o : ℕ) → file_offset elf.segments.items q ≡ Some o →
    IsInTables elf (length elf.segments.items) o → list_any (covers_header elf q) elf.segments.items ≡ true
covered_all elf q o is inside = by (segment_of elf.segments.items q) refl is
  where
    by : (r : Option Segment) → segment_of elf.segments.items q ≡ r → option_and_then (offset_in q) r ≡ Some o →
        list_any (covers_header elf q) elf.segments.items ≡ true
    by None found is = absurd (cc)
    by (Some p) found is = within (nat_lt (q - p.vaddr) p.filesz) refl
      where
        none : nat_lt (q - p.vaddr) p.filesz ≡ false → offset_in q p ≡ None
        none fails = rw fails refl

        some : nat_lt (q - p.vaddr) p.filesz ≡ true → offset_in q p ≡ Some (p.offset + (q - p.vaddr))
        some holds = rw holds refl

        same : (a b : ℕ) → Some a ≡ Some b → a ≡ b
        same a b e = cc

        within : (t : Bool) → nat_lt (q - p.vaddr) p.filesz ≡ t → list_any (covers_header elf q) elf.segments.items ≡ true
        within false test = absurd (let no_offset = none test in let some : offset_in q p ≡ Some o = is in cc)
        within true test =
            let loads = find-found (loads_address q) elf.segments.items p found in
            let parts = and_parts (is_load p && nat_le p.vaddr q) (nat_lt q (end_of p)) loads.0 in
            let first = and_parts (is_load p) (nat_le p.vaddr q) parts.0 in
            let from = leb-true p.vaddr q first.1 in
            let to = ltb-true q (end_of p) parts.1 in
            let holds = ltb-true (q - p.vaddr) p.filesz test in
            let here : covers q p ≡ true =
            and_from (is_load p) (nat_le p.vaddr q && nat_lt q (p.vaddr + min p.filesz p.memsz)) first.0
            (and_from (nat_le p.vaddr q) (nat_lt q (p.vaddr + min p.filesz p.memsz)) first.1
            (lt-ltb q (p.vaddr + min p.filesz p.memsz) (omega arith))) in
            let offset = same (p.offset + (q - p.vaddr)) o (sym (some test) ∙ is) in
            found_in (covers_header elf q) elf.segments.items q p found
            (header_covered elf q p here (subst (IsInTables elf (length elf.segments.items)) (sym offset) inside))

-- each byte of a hidden field is covered by a segment
pub hidden_everywhere : {A : Type 0} (elf : Elf) (tight : Bool) (q : ℕ) (x old : A) →
    (if list_any (covers_header elf q) elf.segments.items && is_hidden_field elf tight q then x else old)
    ≡ (if is_hidden_field elf tight q then x else old)
hidden_everywhere {A} elf tight q x old = by (is_hidden_field elf tight q) refl
  where
    by : (hidden : Bool) → is_hidden_field elf tight q ≡ hidden →
        (if list_any (covers_header elf q) elf.segments.items && hidden then x else old) ≡ (if hidden then x else old)
    by false is = rw (and_false (list_any (covers_header elf q) elf.segments.items)) refl
      where
        and_false : (a : Bool) → (a && false) ≡ false
        and_false true = refl
        and_false false = refl
    by true is = at (file_offset elf.segments.items q) refl is
      where
        at : (r : Option ℕ) → file_offset elf.segments.items q ≡ r →
            option_map_or (λ offset. list_any (is_in_range offset) (hidden_fields elf tight)) r false ≡ true →
            (if list_any (covers_header elf q) elf.segments.items && true then x else old) ≡ x
        at None none is = absurd (cc)
        at (Some o) some is = rw (covered_all elf q o some (hidden-in_tables elf tight o is)) refl

-- The bytes that were hidden between two offsets, by their addresses.
pub covers_between-run : (from to q : ℕ) (p : Segment) → is_load p ≡ true → (end : ℕ) →
    end ≡ min (to - p.offset) (min p.filesz p.memsz) →
    (nat_le (p.vaddr + (from - p.offset)) q && nat_lt q (p.vaddr + end)) ≡ covers_between from to q p
covers_between-run from to q p load end is = bool_same _ _ forth back
  where
    forth : (nat_le (p.vaddr + (from - p.offset)) q && nat_lt q (p.vaddr + end)) ≡ true → covers_between from to q p ≡ true
    forth run = search (rules, and_parts, leb-true, ltb-true, and_from, le-leb, lt-ltb)

    back : covers_between from to q p ≡ true → (nat_le (p.vaddr + (from - p.offset)) q && nat_lt q (p.vaddr + end)) ≡ true
    back covered =
        let parts = and_parts (covers q p) (nat_le from (offset_of q p) && nat_lt (offset_of q p) to) covered in
        let here = and_parts (is_load p) (nat_le p.vaddr q && nat_lt q (p.vaddr + min p.filesz p.memsz)) parts.0 in
        let within = and_parts (nat_le p.vaddr q) (nat_lt q (p.vaddr + min p.filesz p.memsz)) here.1 in
        let range = and_parts (nat_le from (offset_of q p)) (nat_lt (offset_of q p) to) parts.1 in
        let a = leb-true p.vaddr q within.0 in
        let b = ltb-true q (p.vaddr + min p.filesz p.memsz) within.1 in
        let f = leb-true from (offset_of q p) range.0 in
        let t = ltb-true (offset_of q p) to range.1 in
        and_from (nat_le (p.vaddr + (from - p.offset)) q) (nat_lt q (p.vaddr + end))
        (le-leb (p.vaddr + (from - p.offset)) q (omega (arith, a, f))) (lt-ltb q (p.vaddr + end) (omega (arith, a, b, t, is)))

-- Bytes hidden by one test or by another.
pub hidden_joined : {A : Type 0} (z t h : Bool) (x o : A) →
    (if t && h then x else (if z && h then x else o)) ≡ (if (z || t) && h then x else o)
hidden_joined true true true x o = refl
hidden_joined true true false x o = refl
hidden_joined true false true x o = refl
hidden_joined true false false x o = refl
hidden_joined false true true x o = refl
hidden_joined false true false x o = refl
hidden_joined false false true x o = refl
hidden_joined false false false x o = refl

-- One more segment.
pub hidden_more : {A : Type 0} (test : Segment → Bool) (segments : List Segment) (i : ℕ) (d : Segment) → i < length segments →
    (h : Bool) (x new mid old : A) → new ≡ (if test (get_or segments i d) && h then x else mid) →
    mid ≡ (if list_any test (take i segments) && h then x else old) →
    new ≡ (if list_any test (take (i + 1) segments) && h then x else old)
hidden_more {A} test segments i d within h x new mid old is was =
    is ∙ ap (λ (o : A). if test (get_or segments i d) && h then x else o) was
    ∙ hidden_joined (list_any test (take i segments)) (test (get_or segments i d)) h x old
    ∙ ap (λ (b : Bool). if b && h then x else old)
    (sym (ap (list_any test) (take_more segments i d within) ∙ any-push (take i segments) (get_or segments i d)))
  where
    any-push : (xs : List Segment) (y : Segment) → list_any test (xs ++ y ∷ []) ≡ (list_any test xs || test y)
    any-push [] y = or_false (test y)
      where
        or_false : (b : Bool) → (b || false) ≡ b
        or_false true = refl
        or_false false = refl
    any-push (z ∷ xs) y = ap (λ (b : Bool). test z || b) (any-push xs y) ∙ or_assoc (test z) (list_any test xs) (test y)
      where
        or_assoc : (a b d : Bool) → (a || (b || d)) ≡ ((a || b) || d)
        or_assoc true b d = refl
        or_assoc false b d = refl

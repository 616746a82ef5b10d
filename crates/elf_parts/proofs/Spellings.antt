-- Headers that are in a file as bytes are read back.
use Rattle.std.proofs.Common.{◌≡◌, ◌∙◌, sym, ap, subst, refl, ℕ, zero, suc, ◌+◌, ◌*◌, ◌-◌, ◌≤◌, ◌<◌, ◌^◌, List, [], ◌∷◌, ◌++◌}
use Rattle.std.proofs.Common.{length, take, drop, get_or, arith, length-append, ◌%◌}
use Rattle.std.specs.Prelude.{All, slice_index_or}
use Rattle.std.proofs.Math.Seq.{drop-append-add}
use Rattle.std.proofs.lemmas.List.{append-nil, append_assoc, get_or_append_left, get_or-append_right}
use Rattle.byteorder.specs.Endian.{little_number, little_bytes}
use Rattle.byteorder.specs.Numbers.{length-bytes_low_first, little_number-reads_back}
use Rattle.elf_image.specs.declared.segment.Segment.{Segment}
use Rattle.elf_image.specs.declared.segment.TheConstants.{PHDR_SIZE}
use Rattle.elf_image.specs.declared.section.SectionHeader.{SectionHeader}
use Rattle.elf_image.specs.file.Header.{number_at, segment_at, segments_from}
use Rattle.elf_parts.specs.declared.spell.SymbolEntry.{SymbolEntry}
use Rattle.elf_parts.specs.Patches.{Stands}
use Rattle.elf_parts.specs.Spellings.{Number, number, spelled, segment_bytes, section_header_bytes, symbol_entry_bytes, SegmentFits}
use Rattle.elf_parts.specs.Spellings.{link_numbers}
use Rattle.elf_parts.specs.Spellings.{segment_table, section_table}
use Rattle.elf_parts.proofs.Patches.{number_at-stands}

-- Bytes that are in a file, in parts.

pub stands-first : (file : List ℕ) (o : ℕ) (xs ys : List ℕ) → Stands file o (xs ++ ys) → Stands file o xs
stands-first file o xs ys stands =
    let both : o + length (xs ++ ys) ≤ length file = stands.within in
    let size : length (xs ++ ys) ≡ length xs + length ys = length-append xs ys in
    record {
      within = omega arith;
      same = λ j below. stands.same j (omega arith) ∙ get_or_append_left xs ys 0 j below;
    }

pub stands-rest : (file : List ℕ) (o : ℕ) (xs ys : List ℕ) → Stands file o (xs ++ ys) → Stands file (o + length xs) ys
stands-rest file o xs ys stands =
    let both : o + length (xs ++ ys) ≤ length file = stands.within in
    let size : length (xs ++ ys) ≡ length xs + length ys = length-append xs ys in
    record {
      within = omega arith;
      same = λ j below.
          ap (λ (k : ℕ). get_or file k 0) (place j)
          ∙ stands.same (length xs + j) (omega arith)
          ∙ get_or-append_right xs ys (length xs) (length xs + j) 0 refl (omega arith)
          ∙ ap (λ (k : ℕ). get_or ys k 0) (back j);
    }
  where
    place : (j : ℕ) → (o + length xs) + j ≡ o + (length xs + j)
    place j = omega arith

    back : (j : ℕ) → (length xs + j) - length xs ≡ j
    back j = omega arith

-- Spelled numbers.

pub number_at-here : (n v : ℕ) (ns : List Number) → v < 256 ^ n → number_at (spelled (number n v ∷ ns)) 0 n ≡ v
unfolding spelled
number_at-here n v ns fits = little_number-reads_back n v (spelled ns) fits

pub number_at-next : (n v : ℕ) (ns : List Number) (o m : ℕ) →
    number_at (spelled (number n v ∷ ns)) (n + o) m ≡ number_at (spelled ns) o m
unfolding spelled
number_at-next n v ns o m =
    let size : length (little_bytes n v) ≡ n = length-bytes_low_first 0 n v in
    let rest : drop (n + o) (little_bytes n v ++ spelled ns) ≡ drop o (spelled ns) =
    ap (λ (k : ℕ). drop (k + o) (little_bytes n v ++ spelled ns)) (sym size)
    ∙ drop-append-add (little_bytes n v) (spelled ns) o in
    ap (λ (xs : List ℕ). little_number m xs) rest

pub length-spelled_more : (n v : ℕ) (ns : List Number) → length (spelled (number n v ∷ ns)) ≡ n + length (spelled ns)
unfolding spelled
length-spelled_more n v ns =
    let size : length (little_bytes n v) ≡ n = length-bytes_low_first 0 n v in
    length-append (little_bytes n v) (spelled ns) ∙ ap (λ (k : ℕ). k + length (spelled ns)) size

pub length-spelled_none : length (spelled []) ≡ 0
unfolding spelled
length-spelled_none = refl

pub length-segment_bytes : (p : Segment) → length (segment_bytes p) ≡ 56
length-segment_bytes p = simp (length-spelled_more, length-spelled_none)

-- a number that is in a file, by its place among the spelled ones
field : (file : List ℕ) (o : ℕ) (bytes : List ℕ) (size q i n v : ℕ) → Stands file o bytes → length bytes ≡ size → i + n ≤ size →
    q ≡ o + i → number_at bytes i n ≡ v → number_at file q n ≡ v
field file o bytes size q i n v stands long inside place is =
    ap (λ (k : ℕ). number_at file k n) place ∙ number_at-stands file o bytes i n stands (omega arith) ∙ is

pub segment_at-stands : (file : List ℕ) (o : ℕ) (p : Segment) → SegmentFits p →
    Stands file o (segment_bytes p) → segment_at file o ≡ p
segment_at-stands file o p fits stands = λ i. record {
  kind = at o 0 4 p.kind (omega arith) (omega arith) (number_at-here 4 p.kind _ fits.kind) i;
  flags = at (o + 4) 4 4 p.flags (omega arith) refl (number_at-next 4 p.kind _ 0 4 ∙ number_at-here 4 p.flags _ fits.flags) i;
  offset = at (o + 8) 8 8 p.offset (omega arith) refl
      (number_at-next 4 p.kind _ 4 8 ∙ number_at-next 4 p.flags _ 0 8 ∙ number_at-here 8 p.offset _ fits.offset) i;
  vaddr = at (o + 16) 16 8 p.vaddr (omega arith) refl (number_at-next 4 p.kind _ 12 8 ∙ number_at-next 4 p.flags _ 8 8
      ∙ number_at-next 8 p.offset _ 0 8 ∙ number_at-here 8 p.vaddr _ fits.vaddr) i;
  paddr = at (o + 24) 24 8 p.paddr (omega arith) refl (number_at-next 4 p.kind _ 20 8 ∙ number_at-next 4 p.flags _ 16 8
      ∙ number_at-next 8 p.offset _ 8 8 ∙ number_at-next 8 p.vaddr _ 0 8 ∙ number_at-here 8 p.paddr _ fits.paddr) i;
  filesz = at (o + 32) 32 8 p.filesz (omega arith) refl
      (number_at-next 4 p.kind _ 28 8 ∙ number_at-next 4 p.flags _ 24 8 ∙ number_at-next 8 p.offset _ 16 8
      ∙ number_at-next 8 p.vaddr _ 8 8 ∙ number_at-next 8 p.paddr _ 0 8 ∙ number_at-here 8 p.filesz _ fits.filesz) i;
  memsz = at (o + 40) 40 8 p.memsz (omega arith) refl (number_at-next 4 p.kind _ 36 8 ∙ number_at-next 4 p.flags _ 32 8
      ∙ number_at-next 8 p.offset _ 24 8 ∙ number_at-next 8 p.vaddr _ 16 8 ∙ number_at-next 8 p.paddr _ 8 8
      ∙ number_at-next 8 p.filesz _ 0 8 ∙ number_at-here 8 p.memsz _ fits.memsz) i;
  align = at (o + 48) 48 8 p.align (omega arith) refl (number_at-next 4 p.kind _ 44 8 ∙ number_at-next 4 p.flags _ 40 8
      ∙ number_at-next 8 p.offset _ 32 8 ∙ number_at-next 8 p.vaddr _ 24 8 ∙ number_at-next 8 p.paddr _ 16 8
      ∙ number_at-next 8 p.filesz _ 8 8 ∙ number_at-next 8 p.memsz _ 0 8 ∙ number_at-here 8 p.align _ fits.align) i;
}
  where
    at : (q i n v : ℕ) → i + n ≤ 56 → q ≡ o + i → number_at (segment_bytes p) i n ≡ v → number_at file q n ≡ v
    at q i n v inside place is = field file o (segment_bytes p) 56 q i n v stands (length-segment_bytes p) inside place is

-- a table of program headers that is in a file
pub segments_from-stands : (ps : List Segment) (file : List ℕ) (o : ℕ) → All SegmentFits ps → Stands file o (segment_table ps) →
    segments_from file o (length ps) ≡ ps
unfolding segment_table segments_from
segments_from-stands [] file o fits stands = refl
segments_from-stands (p ∷ ps) file o fits stands =
    let here : segment_at file o ≡ p =
    segment_at-stands file o p (fits 0 p (omega arith)) (stands-first file o (segment_bytes p) (segment_table ps) stands) in
    let next : Stands file (o + PHDR_SIZE) (segment_table ps) = subst (λ (n : ℕ). Stands file (o + n) (segment_table ps))
    (length-segment_bytes p) (stands-rest file o (segment_bytes p) (segment_table ps) stands) in
    let rest : segments_from file (o + PHDR_SIZE) (length ps) ≡ ps =
    segments_from-stands ps file (o + PHDR_SIZE) (λ k d below. fits (suc k) d (omega arith)) next in
    ap (λ (x : Segment). x ∷ segments_from file (o + PHDR_SIZE) (length ps)) here ∙ ap (λ (xs : List Segment). p ∷ xs) rest

-- one more header of a table
table_take : {A : Type 0} (spell : A → List ℕ) (table : List A → List ℕ) → table [] ≡ [] →
    ((x : A) (xs : List A) → table (x ∷ xs) ≡ spell x ++ table xs) → (xs : List A) (i : ℕ) (d : A) → i < length xs →
    table (take (i + 1) xs) ≡ table (take i xs) ++ spell (get_or xs i d)
table_take spell table none more [] i d below = absurd (omega arith)
table_take spell table none more (x ∷ xs) zero d below =
    more x [] ∙ ap (λ (ys : List ℕ). spell x ++ ys) none ∙ append-nil (spell x)
    ∙ sym (ap (λ (ys : List ℕ). ys ++ spell x) none)
table_take spell table none more (x ∷ xs) (suc i) d below =
    let count : suc i + 1 ≡ suc (i + 1) = omega arith in
    ap (λ (n : ℕ). table (take n (x ∷ xs))) count
    ∙ more x (take (i + 1) xs)
    ∙ ap (λ (ys : List ℕ). spell x ++ ys) (table_take spell table none more xs i d (omega arith))
    ∙ sym (append_assoc (spell x) (table (take i xs)) (spell (get_or xs i d)))
    ∙ sym (ap (λ (ys : List ℕ). ys ++ spell (get_or xs i d)) (more x (take i xs)))

pub segment_table-take : (ps : List Segment) (i : ℕ) (d : Segment) → i < length ps →
    segment_table (take (i + 1) ps) ≡ segment_table (take i ps) ++ segment_bytes (get_or ps i d)
unfolding segment_table
segment_table-take = table_take segment_bytes segment_table refl (λ p ps. refl)

pub segment_table-none : segment_table [] ≡ []
unfolding segment_table
segment_table-none = refl

-- the numbers of a header, appended one after the other
pub segment_bytes-appended : (xs : List ℕ) (p : Segment) →
    (((((((xs ++ little_bytes 4 p.kind) ++ little_bytes 4 p.flags) ++ little_bytes 8 p.offset) ++ little_bytes 8 p.vaddr)
    ++ little_bytes 8 p.paddr) ++ little_bytes 8 p.filesz) ++ little_bytes 8 p.memsz)
    ++ little_bytes 8 p.align ≡ xs ++ segment_bytes p
unfolding spelled
segment_bytes-appended xs p = simp (append_assoc, append-nil)

pub ruleset tables = (segment_table-take, segment_table-none, append_assoc, append-nil)

-- Section headers.

pub section_table-take : (ss : List SectionHeader) (i : ℕ) (d : SectionHeader) → i < length ss →
    section_table (take (i + 1) ss) ≡ section_table (take i ss) ++ section_header_bytes (get_or ss i d)
unfolding section_table
section_table-take = table_take section_header_bytes section_table refl (λ s ss. refl)

pub section_table-none : section_table [] ≡ []
unfolding section_table
section_table-none = refl

pub link_bytes-appended : (xs : List ℕ) (s : SectionHeader) →
    (((xs ++ little_bytes 4 s.link) ++ little_bytes 4 s.info) ++ little_bytes 8 s.align) ++ little_bytes 8 s.entsize
    ≡ xs ++ spelled (link_numbers s)
unfolding spelled
link_bytes-appended xs s = simp (append_assoc, append-nil)

pub section_bytes-appended : (xs : List ℕ) (s : SectionHeader) →
    ((((((xs ++ little_bytes 4 s.name) ++ little_bytes 4 s.kind) ++ little_bytes 8 s.flags) ++ little_bytes 8 s.addr)
    ++ little_bytes 8 s.offset) ++ little_bytes 8 s.size) ++ spelled (link_numbers s) ≡ xs ++ section_header_bytes s
unfolding spelled
section_bytes-appended xs s = simp (append_assoc, append-nil)

pub ruleset section_tables = (section_table-take, section_table-none, append_assoc, append-nil)

pub length-segment_table : (ps : List Segment) → length (segment_table ps) ≡ PHDR_SIZE * length ps
unfolding segment_table
length-segment_table [] = refl
length-segment_table (p ∷ ps) =
    let rest : length (segment_table ps) ≡ PHDR_SIZE * length ps = length-segment_table ps in
    let more : 56 + PHDR_SIZE * length ps ≡ PHDR_SIZE * suc (length ps) = omega arith in
    length-append (segment_bytes p) (segment_table ps) ∙ ap (λ (n : ℕ). n + length (segment_table ps)) (length-segment_bytes p)
    ∙ ap (λ (n : ℕ). 56 + n) rest ∙ more

-- Symbols.

abbrev at : List ℕ → ℕ → ℕ
at xs k = slice_index_or xs k 0

-- the bytes of an entry, by the bytes of its fields
pub symbol_bytes-joined : (s : SymbolEntry) (n e v z : List ℕ) (info other : ℕ) → n ≡ little_bytes 4 s.name →
    info ≡ s.info % 256 → other ≡ s.other % 256 → e ≡ little_bytes 2 s.section → v ≡ little_bytes 8 s.value →
    z ≡ little_bytes 8 s.size →
    at n 0 ∷ at n 1 ∷ at n 2 ∷ at n 3 ∷ info ∷ other ∷ at e 0 ∷ at e 1
    ∷ at v 0 ∷ at v 1 ∷ at v 2 ∷ at v 3 ∷ at v 4 ∷ at v 5 ∷ at v 6 ∷ at v 7
    ∷ at z 0 ∷ at z 1 ∷ at z 2 ∷ at z 3 ∷ at z 4 ∷ at z 5 ∷ at z 6 ∷ at z 7 ∷ [] ≡ symbol_entry_bytes s
unfolding spelled
symbol_bytes-joined s n e v z info other name is_info is_other section value size =
    rw (name, is_info, is_other, section, value, size) refl

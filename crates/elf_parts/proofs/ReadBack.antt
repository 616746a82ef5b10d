-- What is read back of a file after numbers were put over its header's fields.
use Rattle.std.proofs.Common.{◌≡◌, ◌∙◌, sym, ap, ℕ, ◌+◌, ◌<◌, ◌^◌, List, [], length, arith}
use Rattle.std.specs.Prelude.{All, AllPairs}
use Rattle.std.proofs.lemmas.List.{append-nil}
use Rattle.std.proofs.lemmas.List.Elements.{All-contains}
use Rattle.byteorder.specs.Endian.{little_bytes, little_number}
use Rattle.byteorder.specs.Numbers.{length-bytes_low_first, little_number-reads_back}
use Rattle.elf_image.specs.declared.segment.Segment.{Segment}
use Rattle.elf_image.specs.file.Header.{number_at, e_phoff, e_phnum, segments_of, segments_from}
use Rattle.elf_parts.specs.Patches.{Patch, put_all, IsWithin, AreApart, Stands}
use Rattle.elf_parts.specs.Spellings.{segment_table}
use Rattle.elf_parts.specs.Assembly.{PutsNumber, PutsTable}
use Rattle.elf_parts.proofs.Patches.{stands-each, number_at-stands}
use Rattle.elf_parts.proofs.Spellings.{segments_from-stands}

-- a number that a patch puts
pub number_at-put_all : (ps : List Patch) (xs : List ℕ) (o n v : ℕ) → All (IsWithin (length xs)) ps → AllPairs AreApart ps →
    PutsNumber ps o n v → v < 256 ^ n → number_at (put_all xs ps) o n ≡ v
number_at-put_all ps xs o n v within apart puts fits =
    let stands : Stands (put_all xs ps) o (little_bytes n v) =
    All-contains (λ p. Stands (put_all xs ps) p.offset p.bytes) ps _ (stands-each ps xs within apart) puts in
    let size : length (little_bytes n v) ≡ n = length-bytes_low_first 0 n v in
    let place : o ≡ o + 0 = omega arith in
    ap (λ (k : ℕ). number_at (put_all xs ps) k n) place
    ∙ number_at-stands (put_all xs ps) o (little_bytes n v) 0 n stands (omega arith)
    ∙ ap (λ (bs : List ℕ). little_number n bs) (sym (append-nil (little_bytes n v)))
    ∙ little_number-reads_back n v [] fits

-- the table of program headers, where the patches put it, its place and its length
pub segments_of-put_all : (ps : List Patch) (xs : List ℕ) (o : ℕ) (qs : List Segment) → All (IsWithin (length xs)) ps →
    AllPairs AreApart ps → PutsTable ps o qs → segments_of (put_all xs ps) ≡ qs
segments_of-put_all ps xs o qs within apart puts =
    let at : e_phoff (put_all xs ps) ≡ o = number_at-put_all ps xs 0x20 8 o within apart puts.place puts.place_fits in
    let count : e_phnum (put_all xs ps) ≡ length qs =
    number_at-put_all ps xs 0x38 2 (length qs) within apart puts.count puts.count_fits in
    let there : Stands (put_all xs ps) o (segment_table qs) =
    All-contains (λ p. Stands (put_all xs ps) p.offset p.bytes) ps _ (stands-each ps xs within apart) puts.table in
    ap (λ (k : ℕ). segments_from (put_all xs ps) k (e_phnum (put_all xs ps))) at
    ∙ ap (λ (n : ℕ). segments_from (put_all xs ps) o n) count
    ∙ segments_from-stands qs (put_all xs ps) o puts.fits there

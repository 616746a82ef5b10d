-- A file that is written of code cells in pieces is written of these cells.
use Rattle.std.proofs.Common.{◌≡◌, ◌∙◌, sym, ap, subst, refl, ℕ, ◌+◌, ◌-◌, ◌^◌, ◌<◌, ◌≤◌, ◌⊎◌, inl, inr, List, Option, Some, None}
use Rattle.std.proofs.Common.{Bool, true, false, IsTrue, arith, get_or}
use Rattle.std.specs.Prelude.{All, Contains, IsSome, ◌||◌, nat_le, nat_lt, option_and_then}
use Rattle.std.specs.List.{list_any}
use Rattle.std.proofs.lemmas.Bool.{and_from, and_parts, cases_lt, leb-true, ltb-true, le-leb, lt-ltb}
use Rattle.std.proofs.lemmas.List.Folds.{Any-from_list_any, list_any_at}
use Rattle.rb_bytes.specs.declared.fault.FaultKind.TheVariants.{HighAddress}
use Rattle.rb_bytes.proofs.Searches.{find-found}
use Rattle.elf_image.specs.declared.elf.Elf.{Elf}
use Rattle.elf_image.specs.declared.segment.Segment.{Segment}
use Rattle.elf_image.specs.declared.segment.TheConstants.{ADDRESS_END}
use Rattle.elf_image.specs.faults.FileFaults.{IsSound}
use Rattle.elf_image.specs.file.Header.{segments_of}
use Rattle.elf_image.specs.file.ParsedFile.{IsElfOf}
use Rattle.elf_image.specs.memory.Executables.{executable_of, memory_of}
use Rattle.elf_image.specs.memory.Image.{loads_address, segment_of}
use Rattle.elf_image.specs.memory.LoadedBytes.{file_offset, is_in_range, offset_in}
use Rattle.elf_image.specs.memory.HiddenFields.{is_hidden_field, is_in_entry_field}
use Rattle.elf_make.specs.CellNumbers.{in_pieces, pieces}
use Rattle.elf_make.specs.Source.{HasPlace, Source, cell_range, is_changed}
use Rattle.elf_make.specs.WrittenFile.{CanHold, IsWritten}
use Rattle.elf_make.proofs.CellPieces.{piece_part, pieces_hold, wide}
use Rattle.elf_make.proofs.SoundFiles.{header-is}

-- An address in a piece is in its cell.
in_cells : (s : Source) (a : ℕ) → list_any (λ c. is_in_range a (cell_range c)) (pieces s.elf.segments.items s.cells) ≡ true →
    list_any (λ c. is_in_range a (cell_range c)) s.cells ≡ true
in_cells s a any =
    let (k, p, within, is, holds) = Any-from_list_any (λ c. is_in_range a (cell_range c)) (pieces s.elf.segments.items s.cells) any in
    let (c, c_in, part) = piece_part s.elf.segments.items s.cells p (k, within, is) in
    let both = and_parts (nat_le p.0 a) (nat_lt a (p.0 + p.1)) holds in
    let from = leb-true p.0 a both.0 in
    let under = ltb-true a (p.0 + p.1) both.1 in
    let low = part.low in
    let high = part.high in
    list_any_at (λ c. is_in_range a (cell_range c)) s.cells c_in.0 c c_in.1
    (ap (λ c. is_in_range a (cell_range c)) c_in.2
    ∙ and_from (nat_le c.0 a) (nat_lt a (c.0 + c.1)) (le-leb c.0 a (omega arith)) (lt-ltb a (c.0 + c.1) (omega arith)))

still_false : (p q e h : Bool) → (p ≡ true → q ≡ true) → q || e || h ≡ false → p || e || h ≡ false
still_false false false e h up is = is
still_false false true e h up is = absurd (cc)
still_false true false e h up is = absurd (let no : false ≡ true = up refl in cc)
still_false true true e h up is = is

kept_in_pieces : (s : Source) (tight : Bool) (a : ℕ) → is_changed s tight a ≡ false → is_changed (in_pieces s) tight a ≡ false
kept_in_pieces s tight a =
    still_false (list_any (λ c. is_in_range a (cell_range c)) (pieces s.elf.segments.items s.cells))
    (list_any (λ c. is_in_range a (cell_range c)) s.cells) (is_in_entry_field s.elf a) (is_hidden_field s.elf tight a)
    (in_cells s a)

pub placed_in_pieces : (s : Source) (tight : Bool) → HasPlace s tight → HasPlace (in_pieces s) tight
placed_in_pieces s tight placed = record { some = placed.some; stretch = placed.stretch; fits = placed.fits }

pub written_in_pieces : (s : Source) (tight : Bool) (w : List ℕ) → All (CanHold s.elf) s.cells →
    IsWritten (in_pieces s) tight w → IsWritten s tight w
written_in_pieces s tight w can is = record {
  image = λ a byte at.
      let carried = is.image a byte at in
      record {
        is_loaded = carried.is_loaded;
        rights = carried.rights;
        same = λ kept. carried.same (kept_in_pieces s tight a kept);
      };
  front = is.front;
  behind = is.behind;
  code = is.code;
  executable = is.executable;
  cells = pieces_hold s.elf.segments.items (memory_of (executable_of w)) s.cells (λ i c within. (can i c within).fits) is.cells;
  entry = is.entry;
  entry_field = is.entry_field;
  places = is.places;
  headers = is.headers;
  sound = is.sound;
}

-- A cell that is loaded has low addresses.

low_address : (file : List ℕ) → IsSound file → (p : Segment) → Contains (segments_of file) p → (a : ℕ) →
    IsTrue (loads_address a p) → a < ADDRESS_END
low_address file sound p (i, within, is) a loads = elim (cases_lt a ADDRESS_END) [
  | inl low ↦ low
  | inr high ↦
      let header = header-is file sound i p within is in
      absurd (sound HighAddress a (i, header.0, (subst (λ (q : Segment). IsTrue (loads_address a q)) (sym header.1) loads, high)))
]

low_byte : (elf : Elf) → IsElfOf elf.file.now elf → IsSound elf.file.now → (a : ℕ) →
    IsSome (file_offset elf.segments.items a) → a < ADDRESS_END
low_byte elf read sound a = cases (segment_of elf.segments.items a) refl
  where
    cases : (o : Option Segment) → segment_of elf.segments.items a ≡ o → IsSome (option_and_then (offset_in a) o) → a < ADDRESS_END
    cases None e some = absurd (cc)
    cases (Some p) e some =
        let found = find-found (loads_address a) elf.segments.items p e in
        low_address elf.file.now sound p (subst (λ (ps : List Segment). Contains ps p) read.segments found.1) a found.0

pub low_cells : (elf : Elf) → IsElfOf elf.file.now elf → IsSound elf.file.now → (cells : List (ℕ × ℕ × ℕ)) →
    All (CanHold elf) cells → All (λ c. c.0 + c.1 < 2 ^ 64) cells
low_cells elf read sound cells can i d within =
    let c : ℕ × ℕ × ℕ = get_or cells i d in
    let some : 0 < c.1 = wide c.1 (can i d within).width in
    let last = low_byte elf read sound (c.0 + (c.1 - 1)) ((can i d within).from_file (c.1 - 1) (omega (arith, some))) in
    omega (arith, some, last, ends c.1 (can i d within).width)
  where
    ends : (n : ℕ) → (n ≡ 4) ⊎ (n ≡ 8) → n ≤ 8
    ends n (inl e) = omega arith
    ends n (inr e) = omega arith

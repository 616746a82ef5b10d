-- A file that was made has the bytes in front that no segment loads, and those of a table that another one replaces.
use Rattle.std.proofs.Common.{◌≡◌, ◌∙◌, sym, ap, subst, refl, ℕ, zero, suc, ◌+◌, ◌-◌, ◌*◌, ◌≤◌, ◌<◌, ◌⊎◌, inl, inr, List}
use Rattle.std.proofs.Common.{Bool, true, false, ◌&&◌, length, map, get_or, arith}
use Rattle.std.specs.Prelude.{All, IfSome, IsFalse, IsTrue, Option, Some, nat_le, nat_lt}
use Rattle.std.specs.List.{list_any}
use Rattle.std.proofs.lemmas.Bool.{and_parts, le-leb, leb-true, lt-ltb, ltb-true}
use Rattle.std.proofs.lemmas.List.Folds.{list_any_at}
use Rattle.elf_image.specs.declared.segment.TheConstants.{PHDR_SIZE}
use Rattle.elf_image.specs.faults.FileFaults.{IsSound}
use Rattle.elf_image.specs.file.ParsedFile.{IsElfOf}
use Rattle.elf_image.specs.memory.LoadedBytes.{IsInHeaders, Range, file_offset, is_in_range}
use Rattle.elf_parts.specs.Numbers.{patch_of}
use Rattle.elf_parts.specs.Parts.{size_of}
use Rattle.elf_parts.specs.Patches.{IsBeside}
use Rattle.elf_parts.proofs.JoinedParts.{front-byte}
use Rattle.elf_plan.specs.declared.area.Shift.{Shift}
use Rattle.elf_plan.specs.Area.{loads_end, moved_by}
use Rattle.elf_plan.specs.FileLayout.{is_kept_table, table_of}
use Rattle.elf_make.specs.FrontBytes.{IsLeft, KeepsFront, front_end, written_ranges}
use Rattle.elf_make.specs.FileParts.{IsMade, header_numbers, number}
use Rattle.file_room.specs.Room.{greatest_align}
use Rattle.elf_make.specs.Source.{Source}
use Rattle.elf_make.proofs.BesideWritten.{InNoCell, apart-of, beside-is, cells-beside, field-beside, table-beside, table_patch}
use Rattle.elf_make.proofs.CellPieces.{CanHoldPiece}
use Rattle.elf_make.proofs.CellPlaces.{cell-offset, stands_at}
use Rattle.elf_make.proofs.Loads.{moved-before}
use Rattle.elf_make.proofs.MadeInput.{by-tight, input-once, keep-behind, moved-none, offset-tight, tight-is}
use Rattle.elf_make.proofs.SameBreak.{align-above, rounded_up-above}

-- what is in no range is before or after it
outside : (k : ℕ) (r : Range) → is_in_range k r ≡ false → (k < r.start) ⊎ (r.start + r.size ≤ k)
outside k r not_in = apart-of k r.start r.size in_range
  where
    in_range : r.start ≤ k → k < r.start + r.size → ⊥
    in_range start under =
        let low : nat_le r.start k ≡ true = le-leb r.start k start in
        let high : nat_lt k (r.start + r.size) ≡ true = lt-ltb k (r.start + r.size) under in
        let within : is_in_range k r ≡ true = ap (λ (b : Bool). b && nat_lt k (r.start + r.size)) low ∙ high in
        absurd (cc)

-- what is in none of some ranges
in_none : (k : ℕ) (ranges : List Range) (i : ℕ) (d : Range) → i < length ranges → list_any (is_in_range k) ranges ≡ false →
    is_in_range k (get_or ranges i d) ≡ false
in_none k ranges i d below beside = cases (is_in_range k (get_or ranges i d)) refl
  where
    cases : (b : Bool) → is_in_range k (get_or ranges i d) ≡ b → is_in_range k (get_or ranges i d) ≡ false
    cases true e = let any = list_any_at (is_in_range k) ranges i d below e in absurd (cc)
    cases false e = e

module _ (s : Source) (tight : Bool) (w : List ℕ) (read : IsElfOf s.elf.file.now s.elf) (sound : IsSound s.elf.file.now)
    (bytes : All (λ b. b < 256) s.elf.file.now) (can : All (CanHoldPiece s.elf) s.cells) (made : IsMade s tight w) where
  module _ (k : ℕ) (front : k < front_end s.elf.segments.items tight) (left : IsLeft s.elf tight k)
      (beside : IsFalse (list_any (is_in_range k) (written_ranges s.elf tight))) where
    -- it is kept, and doesn't move
    low : k < made.layout.parts.keep
    low = cases tight refl front
      where
        cases : (b : Bool) → tight ≡ b → k < front_end s.elf.segments.items b → k < made.layout.parts.keep
        cases true e below =
            let above = (made.laid_out.above (tight-is s tight w read sound made ∙ e)).keeps in omega (arith, above, below)
        cases false e below =
            let keep = keep-behind s tight w read sound made e in
            let shift : made.layout.shift.from ≡ front_end s.elf.segments.items false =
            ap (λ (x : Shift). x.from) made.laid_out.shift in
            omega (arith, keep, shift, below)

    stays : moved_by made.layout.shift.from made.layout.shift.by k ≡ k
    stays = cases tight refl
      where
        cases : (b : Bool) → tight ≡ b → moved_by made.layout.shift.from made.layout.shift.by k ≡ k
        cases true e = moved-none made.layout.shift.from made.layout.shift.by k (by-tight s tight w read sound made e)
        cases false e =
            let keep = keep-behind s tight w read sound made e in
            let below = low in
            moved-before made.layout.shift.from made.layout.shift.by k (omega (arith, keep, below))

    in_table : IsTrue (is_in_range k (table_of s.elf)) →
        (s.elf.phoff ≤ k) × (k < s.elf.phoff + PHDR_SIZE * length s.elf.segments.items)
    in_table is =
        let both = and_parts (nat_le s.elf.phoff k) (nat_lt k (s.elf.phoff + PHDR_SIZE * length s.elf.segments.items)) is in
        (leb-true s.elf.phoff k both.0, ltb-true k (s.elf.phoff + PHDR_SIZE * length s.elf.segments.items) both.1)

    -- no byte of a cell is left
    in_no_cell : InNoCell s tight w read sound bytes made k k (sym stays)
    in_no_cell i below n place from under = by left
      where
        cell : ℕ × ℕ × ℕ
        cell = get_or s.cells i (0, 0, 0)

        by : IsLeft s.elf tight k → ⊥
        by (inl unloaded) =
            let inside = place.in_file in
            let loaded = place.in_memory in
            unloaded place.segment place.there (place.load, omega (arith, from), omega (arith, under, inside, loaded))
        by (inr (is, table)) =
            let none_cell : ℕ × ℕ × ℕ = (0, 0, 0) in
            let offset : file_offset s.elf.segments.items (cell.0 + (k - stands_at place)) ≡ Some k =
            cell-offset s.elf.segments.items made.layout.shift cell n place (k - stands_at place)
            (input-once s tight w read sound made) (omega (arith, from, under))
            ∙ ap (λ (j : ℕ). Some j) (omega (arith, from)) in
            subst (λ (o : Option ℕ). IfSome o (λ j. IsInHeaders s.elf j → ⊥)) offset
            ((can i none_cell below).no_header (k - stands_at place) (omega (arith, from, under)))
            (inr (in_table table))

    field-is_beside : (o n v : ℕ) → is_in_range k (record { start = o; size = n }) ≡ false →
        IsBeside k (patch_of (number o n v))
    field-is_beside o n v apart =
        field-beside s tight w read sound bytes made k k (sym stays) o n v (outside k (record { start = o; size = n }) apart)

    none : Range
    none = record { start = 0; size = 0 }

    out : (i : ℕ) → i < length (written_ranges s.elf tight) → is_in_range k (get_or (written_ranges s.elf tight) i none) ≡ false
    out i below = in_none k (written_ranges s.elf tight) i none below beside

    fields-beside : All (IsBeside k) (map patch_of (header_numbers made.fields))
    fields-beside zero e below = field-is_beside 0x18 8 made.fields.entry (out 0 (omega arith))
    fields-beside (suc zero) e below = field-is_beside 0x20 8 made.fields.program_headers_at (out 1 (omega arith))
    fields-beside (suc (suc zero)) e below = field-is_beside 0x28 8 made.fields.section_headers_at (out 3 (omega arith))
    fields-beside (suc (suc (suc zero))) e below = field-is_beside 0x38 2 made.fields.segments (out 2 (omega arith))
    fields-beside (suc (suc (suc (suc zero)))) e below = field-is_beside 0x3c 2 made.fields.sections (out 4 (omega arith))
    fields-beside (suc (suc (suc (suc (suc zero))))) e below = field-is_beside 0x3e 2 made.fields.names (out 5 (omega arith))
    fields-beside (suc (suc (suc (suc (suc (suc i)))))) e below = absurd (omega arith)

    -- The table of program headers.
    behind_front : made.layout.parts.keep ≤ size_of made.layout.parts
    behind_front = let a = made.laid_out.can.apart in let b = made.laid_out.can.behind in omega (arith, a, b)

    table-is_beside : IsBeside k (table_patch s tight w read sound bytes made)
    table-is_beside = cases tight refl front beside
      where
        above : tight ≡ true → k < loads_end s.elf.segments.items → k < made.program_headers_at
        above e below =
            let at = made.table_place.above (tight-is s tight w read sound made ∙ e) in
            let offset = offset-tight s tight w read sound made e in
            let unit = align-above s.elf.segments.items in
            let up =
            rounded_up-above (greatest_align s.elf.segments.items) (loads_end s.elf.segments.items) (omega (arith, unit)) in
            omega (arith, at, offset, up, below)

        behind : tight ≡ false → (b : Bool) → is_kept_table s.elf made.layout.shift ≡ b →
            is_in_range k (table_of s.elf) ≡ false →
            IsBeside k (table_patch s tight w read sound bytes made)
        behind e false added out =
            let high = made.table_place.added (tight-is s tight w read sound made ∙ e) added in
            let kept = low in
            let order = behind_front in
            inl (omega (arith, high, kept, order))
        behind e true stands out =
            table-beside s tight w read sound bytes made k k (sym stays) (tight-is s tight w read sound made ∙ e)
            (made.table_place.kept (tight-is s tight w read sound made ∙ e) stands) (outside k (table_of s.elf) out)

        cases : (b : Bool) → tight ≡ b → k < front_end s.elf.segments.items b →
            IsFalse (list_any (is_in_range k) (written_ranges s.elf b)) →
            IsBeside k (table_patch s tight w read sound bytes made)
        cases true e below apart = inl (above e below)
        cases false e below apart =
            behind e (is_kept_table s.elf made.layout.shift) refl
            (in_none k (written_ranges s.elf false) 6 none (omega arith) apart)

    front-is : get_or w k 0 ≡ get_or s.elf.file.now k 0
    front-is =
        let kept = low in
        let order = behind_front in
        beside-is s tight w read sound bytes made k k (sym stays)
        (cells-beside s tight w read sound bytes made k k (sym stays) in_no_cell) table-is_beside fields-beside
        (omega (arith, kept, order))
        ∙ front-byte made.layout.parts s.elf.file.now made.layout.bytes.items made.put.assembled.base k
        made.put.assembled.joined made.laid_out.can.front kept

  pub front-written : KeepsFront s.elf tight w
  front-written k front left beside = front-is k front left beside

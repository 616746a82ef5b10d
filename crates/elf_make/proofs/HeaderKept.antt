-- A file that was made keeps the fields of its header that aren't rewritten.
use Rattle.std.proofs.Common.{◌≡◌, ◌∙◌, sym, ap, subst, ℕ, zero, suc, ◌+◌, ◌-◌, ◌≤◌, ◌⊎◌, inl, inr, List, Bool, length}
use Rattle.std.proofs.Common.{map, take, drop, get_or, arith}
use Rattle.std.specs.Prelude.{All, slice_range}
use Rattle.std.proofs.lemmas.Grind.{common_steps}
use Rattle.std.proofs.lemmas.List.{get_or-drop, get_or-take}
use Rattle.byteorder.specs.Numbers.{length-bytes_low_first}
use Rattle.elf_image.specs.faults.FileFaults.{IsSound}
use Rattle.elf_image.specs.file.ParsedFile.{IsElfOf}
use Rattle.elf_parts.specs.Numbers.{patch_of}
use Rattle.elf_parts.specs.Patches.{Patch, Stands}
use Rattle.elf_parts.proofs.JoinedParts.{front-byte}
use Rattle.elf_parts.proofs.Patches.{stands-front, stands-put_all, take-stands}
use Rattle.elf_plan.specs.FileLayout.{KeepsHeaderFields}
use Rattle.elf_make.specs.FileParts.{IsMade, header_numbers}
use Rattle.elf_make.specs.Source.{Source}
use Rattle.elf_make.proofs.CellPieces.{CanHoldPiece}
use Rattle.elf_make.proofs.CellsWritten.{cells-between}
use Rattle.elf_make.proofs.MadeHeaders.{cells-within, headers, headers-within, joined, with_cells, written-is}

module _ (s : Source) (tight : Bool) (w : List ℕ) (read : IsElfOf s.elf.file.now s.elf) (sound : IsSound s.elf.file.now)
    (made : IsMade s tight w) (can : All (CanHoldPiece s.elf) s.cells) where
  -- Bytes of the header from `o` on, beside all fields that are written.
  module _ (o n : ℕ) (within : o + n ≤ 64)
      (beside : All (λ (p : Patch). (p.offset + length p.bytes ≤ o) ⊎ (o + n ≤ p.offset)) (map patch_of (header_numbers made.fields)))
    where
      abbrev old : List ℕ
      old = take n (drop o s.elf.file.now)

      in_file : o + n ≤ length s.elf.file.now
      in_file = let header = made.laid_out.header in let front = made.laid_out.can.front in omega (arith, within, header, front)

      long : length old ≡ n
      long = let inside = in_file in grind (arith, common_steps)

      abbrev Apart : Patch → Type 0
      Apart p = (p.offset + length p.bytes ≤ o) ⊎ (o + length old ≤ p.offset)

      base-stands : Stands made.put.assembled.base o old
      base-stands =
          let size = long in
          let header = made.laid_out.header in
          let apart = made.laid_out.can.apart in
          let behind = made.laid_out.can.behind in
          let whole = made.put.assembled.joined.size in
          record {
            within = omega (arith, size, header, apart, behind, whole, within);
            same = λ j below.
                front-byte made.layout.parts s.elf.file.now made.layout.bytes.items made.put.assembled.base (o + j)
                made.put.assembled.joined made.laid_out.can.front (omega (arith, below, size, within, header))
                ∙ sym (get_or-take n (drop o s.elf.file.now) j 0 (omega (arith, below, size)) ∙ get_or-drop o s.elf.file.now j 0);
          }

      cells-apart : All Apart (map patch_of made.cells)
      cells-apart k e below =
          let between = cells-between s tight w read sound made can k e below in
          let size = long in
          inr (omega (arith, between, size, within))

      headers-apart : All Apart (headers s tight w made)
      headers-apart zero e below =
          let high = made.table_place.header in let size = long in inr (omega (arith, high, size, within))
      headers-apart (suc k) e below =
          subst (λ (m : ℕ). ((get_or (map patch_of (header_numbers made.fields)) k e).offset
          + length (get_or (map patch_of (header_numbers made.fields)) k e).bytes ≤ o)
          ⊎ (o + m ≤ (get_or (map patch_of (header_numbers made.fields)) k e).offset)) (sym long) (beside k e (omega arith))

      kept : slice_range w o (o + n) ≡ slice_range s.elf.file.now o (o + n)
      kept =
          let size : (o + n) - o ≡ n = omega arith in
          ap (λ (m : ℕ). take m (drop o w)) (size ∙ sym long)
          ∙ take-stands w o old stands
          ∙ ap (λ (m : ℕ). take m (drop o s.elf.file.now)) (sym size)
        where
          stands : Stands w o old
          stands =
              subst (λ (f : List ℕ). Stands f o old) (sym (written-is s tight w made))
              (stands-put_all (headers s tight w made) (with_cells s tight w made) o old (headers-within s tight w made) headers-apart
              (stands-put_all (map patch_of made.cells) (joined s tight w made) o old (cells-within s tight w made) cells-apart
              (stands-front made.put.assembled.base made.tail o old base-stands)))

  size-of : (n v : ℕ) → length (patch_of (record { offset = 0; width = n; value = v })).bytes ≡ n
  size-of n v = length-bytes_low_first 0 n v

  abbrev Beside : ℕ → ℕ → Type 0
  Beside o n = All (λ (p : Patch). (p.offset + length p.bytes ≤ o) ⊎ (o + n ≤ p.offset)) (map patch_of (header_numbers made.fields))

  kind-beside : Beside 0 0x18
  kind-beside zero e below = inr (omega arith)
  kind-beside (suc zero) e below = inr (omega arith)
  kind-beside (suc (suc zero)) e below = inr (omega arith)
  kind-beside (suc (suc (suc zero))) e below = inr (omega arith)
  kind-beside (suc (suc (suc (suc zero)))) e below = inr (omega arith)
  kind-beside (suc (suc (suc (suc (suc zero))))) e below = inr (omega arith)
  kind-beside (suc (suc (suc (suc (suc (suc i)))))) e below = absurd (omega arith)

  flags-beside : Beside 0x30 8
  flags-beside zero e below = let size = size-of 8 made.fields.entry in inl (omega (arith, size))
  flags-beside (suc zero) e below = let size = size-of 8 made.fields.program_headers_at in inl (omega (arith, size))
  flags-beside (suc (suc zero)) e below = let size = size-of 8 made.fields.section_headers_at in inl (omega (arith, size))
  flags-beside (suc (suc (suc zero))) e below = inr (omega arith)
  flags-beside (suc (suc (suc (suc zero)))) e below = inr (omega arith)
  flags-beside (suc (suc (suc (suc (suc zero))))) e below = inr (omega arith)
  flags-beside (suc (suc (suc (suc (suc (suc i)))))) e below = absurd (omega arith)

  entries-beside : Beside 0x3a 2
  entries-beside zero e below = let size = size-of 8 made.fields.entry in inl (omega (arith, size))
  entries-beside (suc zero) e below = let size = size-of 8 made.fields.program_headers_at in inl (omega (arith, size))
  entries-beside (suc (suc zero)) e below = let size = size-of 8 made.fields.section_headers_at in inl (omega (arith, size))
  entries-beside (suc (suc (suc zero))) e below = let size = size-of 2 made.fields.segments in inl (omega (arith, size))
  entries-beside (suc (suc (suc (suc zero)))) e below = inr (omega arith)
  entries-beside (suc (suc (suc (suc (suc zero))))) e below = inr (omega arith)
  entries-beside (suc (suc (suc (suc (suc (suc i)))))) e below = absurd (omega arith)

  pub fields-kept : KeepsHeaderFields s.elf.file.now w
  fields-kept = record {
    kind = kept 0 0x18 (omega arith) kind-beside;
    flags = kept 0x30 8 (omega arith) flags-beside;
    entries = kept 0x3a 2 (omega arith) entries-beside;
  }

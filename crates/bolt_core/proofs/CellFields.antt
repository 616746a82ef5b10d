-- The code cells of an accepted file have room for their new contents, and share no byte.
use Rattle.std.proofs.Common.{◌≡◌, sym, subst, ℕ, ◌+◌, ◌%◌, ◌^◌, ◌<◌, ◌≤◌, ◌⊎◌, inl, inr, true, List, arith, map}
use Rattle.std.specs.Prelude.{All, AllPairs}
use Rattle.std.proofs.lemmas.List.Elements.{All-map}
use Rattle.std.proofs.lemmas.Bool.{cases_lt}
use Rattle.rv_code.specs.declared.cell.CodeCell.{CodeCell}
use Rattle.rv_code.specs.layout.ProgramCode.{ProgramCode}
use Rattle.elf_code.specs.Cells.{CanBeCell, Content, Counts, Field, IsCell, counts}
use Rattle.elf_code.proofs.Counts.{can_of, no_both}
use Rattle.elf_image.specs.declared.elf.Elf.{Elf}
use Rattle.move_law.specs.Laws.{IsAcceptedCode}
use Rattle.rb_bytes.proofs.ListLemmas.{all_of, pairs_in, pairs_map}
use Rattle.move_law.proofs.code.CellWidths.{field_width}
use Rattle.code_emit.specs.Output.{new_cell}
use Rattle.elf_write.specs.WrittenFile.{CanHold}

below : (w n : ℕ) → (w ≡ 4) ⊎ (w ≡ 8) → n % 256 ^ w < 256 ^ w
below w n (inl four) = subst (λ (k : ℕ). n % 256 ^ k < 256 ^ k) (sym four) (omega arith)
below w n (inr eight) = subst (λ (k : ℕ). n % 256 ^ k < 256 ^ k) (sym eight) (omega arith)

abbrev field_of : CodeCell → Content → Field
field_of c content = record { place = c.addr; width = c.width; content = content }

module _ (elf : Elf) (tabled : List (ℕ × ℕ)) where
  can_hold : (new : ℕ → ℕ) (c : CodeCell) → IsCell elf tabled c → CanHold elf (new_cell new c)
  can_hold new c is =
      let can : CanBeCell elf tabled (field_of c is.content) = can_of is.counted in
      let width = field_width elf tabled (field_of c is.content) can.is_field in
      record {
        width = width;
        fits = below c.width _ width;
        from_file = can.from_file;
        no_header = can.no_header;
      }

  apart : (c d : CodeCell) → IsCell elf tabled c → IsCell elf tabled d → c.addr < d.addr → c.addr + c.width ≤ d.addr
  apart c d is_c is_d before = by is_d.counted
    where
      shares : d.addr < c.addr + c.width → Counts elf tabled (field_of d is_d.content) true → ⊥
      shares over (counts f can later) =
          let width = field_width elf tabled (field_of d is_d.content) (can_of is_d.counted).is_field in
          no_both (field_of c is_c.content) true is_c.counted
          (later (field_of c is_c.content) (can_of is_c.counted) (inl before) (omega (arith, before), over))

      by : Counts elf tabled (field_of d is_d.content) true → c.addr + c.width ≤ d.addr
      by counted = elim (cases_lt d.addr (c.addr + c.width)) [
        | inl over ↦ absurd (shares over counted)
        | inr past ↦ past
      ]

module _ (elf : Elf) (code : ProgramCode) (accepted : IsAcceptedCode elf code) (new : ℕ → ℕ) where
  pub all_hold : All (CanHold elf) (map (new_cell new) code.cells)
  all_hold =
      All-map (CanHold elf) (new_cell new) code.cells
      (all_of (λ c. CanHold elf (new_cell new c)) code.cells
      (λ c is_in. can_hold elf accepted.tabled new c (accepted.code_is.cells.only c is_in)))

  pub all_apart : AllPairs (λ c d. (c.0 + c.1 ≤ d.0) ⊎ (d.0 + d.1 ≤ c.0)) (map (new_cell new) code.cells)
  all_apart =
      pairs_map (λ c d. (c.0 + c.1 ≤ d.0) ⊎ (d.0 + d.1 ≤ c.0)) (new_cell new) code.cells
      (pairs_in (λ c d. c.addr < d.addr) (λ c d. (c.addr + c.width ≤ d.addr) ⊎ (d.addr + d.width ≤ c.addr)) code.cells
      (λ c d c_in d_in before. inl (apart elf accepted.tabled c d (accepted.code_is.cells.only c c_in)
      (accepted.code_is.cells.only d d_in) before)) accepted.code_is.cells.ordered)

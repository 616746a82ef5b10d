-- Facts of files that were read: they are loaded at low addresses, and their code cells share no byte.
use Rattle.std.proofs.Common.{◌≡◌, sym, subst, ap, ℕ, ◌+◌, ◌<◌, ◌≤◌, ⊎_elim, true, List, All, arith, get_or, inl, inr}
use Rattle.std.proofs.lemmas.Bool.{cases_lt}
use Rattle.rb_bytes.proofs.ListLemmas.{all_of, pairs_in}
use Rattle.rv_code.specs.declared.cell.CodeCell.{CodeCell}
use Rattle.rv_code.specs.layout.ProgramCode.{ProgramCode}
use Rattle.elf_image.specs.declared.elf.Elf.{Elf}
use Rattle.elf_image.specs.file.ParsedFile.{IsElfOf}
use Rattle.elf_code.specs.Cells.{Content, Counts, Field, IsCell, counts}
use Rattle.elf_code.specs.FileCode.{AreCells}
use Rattle.elf_code.proofs.Counts.{can_of, no_both}
use Rattle.rv_reloc.specs.Refs.{IsRead}
use Rattle.rv_reloc.proofs.LowFiles.{IsLow-read}
use Rattle.map_check.specs.FirstFalse.{HasCode}
use Rattle.move_law.proofs.code.CellWidths.{field_width}
use Rattle.map_check.specs.internal.Cells.{AreApart, HasWidth}
use Rattle.map_check.specs.internal.Verdicts.{AreReady}

-- Code cells.

abbrev field_of : CodeCell → Content → Field
field_of c content = record { place = c.addr; width = c.width; content = content }

module _ (elf : Elf) (tabled : List (ℕ × ℕ)) where
  apart : (c d : CodeCell) → IsCell elf tabled c → IsCell elf tabled d → c.addr < d.addr → c.addr + c.width ≤ d.addr
  apart c d is_c is_d before = by is_d.counted
    where
      shares : d.addr < c.addr + c.width → Counts elf tabled (field_of d is_d.content) true → ⊥
      shares over (counts f can later) =
          let width = field_width elf tabled (field_of d is_d.content) (can_of is_d.counted).is_field in
          no_both (field_of c is_c.content) true is_c.counted
          (later (field_of c is_c.content) (can_of is_c.counted) (inl before) (omega (arith, before), over))

      by : Counts elf tabled (field_of d is_d.content) true → c.addr + c.width ≤ d.addr
      by counted = elim (cases_lt d.addr (c.addr + c.width)) [
        | inl over ↦ absurd (shares over counted)
        | inr past ↦ past
      ]

  width_of : (c : CodeCell) → IsCell elf tabled c → HasWidth c
  width_of c is = field_width elf tabled (field_of c is.content) (can_of is.counted).is_field

  cells_apart : (cells : List CodeCell) → AreCells elf tabled cells → AreApart cells
  cells_apart cells are = record {
    rising = λ i j d upto within. ⊎_elim
        (λ (less : i < j). let before = are.ordered i j d less within in omega arith)
        (λ (more : j ≤ i). let same : i ≡ j = omega arith in
        let is = ap (λ (k : ℕ). (get_or cells k d).addr) same in omega arith)
        (cases_lt i j);
    apart = pairs_in (λ c d. c.addr < d.addr) (λ c d. c.addr + c.width ≤ d.addr) cells
        (λ c d c_in d_in before. apart c d (are.only c c_in) (are.only d d_in) before) are.ordered;
  }

  cells_wide : (cells : List CodeCell) → AreCells elf tabled cells → All HasWidth cells
  cells_wide cells are = all_of HasWidth cells (λ c c_in. width_of c (are.only c c_in))

read_itself : (elf : Elf) → IsRead elf → IsElfOf elf.file.now elf
read_itself elf read = subst (λ (f : List ℕ). IsElfOf f elf) (sym read.fields.file_is) read.fields

pub ready : (input : Elf) (code : ProgramCode) (output : Elf) → IsRead input → HasCode input code → IsRead output →
    AreReady input code.cells output
ready input code output given (tabled, code_is) read = record {
  input_low = IsLow-read input given;
  input_read = read_itself input given;
  output_low = IsLow-read output read;
  output_read = read_itself output read;
  apart = cells_apart input tabled code.cells code_is.cells;
  widths = cells_wide input tabled code.cells code_is.cells;
}

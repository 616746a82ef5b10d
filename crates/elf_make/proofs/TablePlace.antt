-- Where the contents of sections begin in a file that was made.
use Rattle.std.proofs.Common.{◌≡◌, ◌∙◌, sym, ap, ℕ, ◌+◌, true, false, Bool}
use Rattle.std.specs.Prelude.{◌||◌, if◌then◌else◌}
use Rattle.elf_image.specs.declared.elf.Elf.{Elf}
use Rattle.elf_image.specs.memory.Break.{rounded_up}
use Rattle.elf_plan.specs.declared.area.Area.{Area}
use Rattle.elf_plan.specs.declared.area.Shift.{Shift}
use Rattle.elf_plan.specs.FileLayout.{is_kept_table, table_of}
use Rattle.elf_make.specs.FileParts.{IsTablePlace, start_after}

module _ (elf : Elf) (area : Area) (shift : Shift) (base at : ℕ) (place : IsTablePlace elf area shift base at) where
  abbrev start : Bool → Bool → ℕ
  start tight kept = if tight || kept then base else rounded_up 8 base + (table_of elf).size

  pub start-tight : area.tight ≡ true → start_after elf area shift base ≡ base
  start-tight e = ap (λ (b : Bool). start b (is_kept_table elf shift)) e

  pub start-kept : area.tight ≡ false → is_kept_table elf shift ≡ true → start_after elf area shift base ≡ base
  start-kept loose kept =
      ap (λ (b : Bool). start b (is_kept_table elf shift)) loose ∙ ap (start false) kept

  pub start-added : area.tight ≡ false → is_kept_table elf shift ≡ false →
      start_after elf area shift base ≡ at + (table_of elf).size
  start-added loose added =
      ap (λ (b : Bool). start b (is_kept_table elf shift)) loose ∙ ap (start false) added
      ∙ ap (λ (n : ℕ). n + (table_of elf).size) (sym (place.rounded loose added))

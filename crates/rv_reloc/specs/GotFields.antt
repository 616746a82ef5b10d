-- Entries of the global offset table, as the code finds them, lower part by lower part.
use Rattle.std.specs.Prelude.{◌≡◌, ℕ, pos, Contains}
use Rattle.elf_image.specs.declared.elf.Elf.{Elf}
use Rattle.elf_image.specs.declared.relocation.TheConstants.{R_RISCV_GOT_HI20}
use Rattle.elf_code.specs.Cells.{Field}
use Rattle.elf_code.specs.Relocations.{Relocation, relocations, label}
use Rattle.rv_reloc.specs.Candidates.{IsCodeField}
use Rattle.rv_reloc.specs.declared.lows.Low.{Low}
use Rattle.rv_reloc.specs.Pairs.{IsTargetOf}

-- A relocation on the AUIPC at `a` says that its GOT entry has the label `to`.
pub record NamesEntry (elf : Elf) (a to : ℕ) : Type 0 where
  pub relocation : Relocation
  pub counts : Contains (relocations elf) relocation
  pub kind_is : relocation.kind ≡ R_RISCV_GOT_HI20
  pub place_is : relocation.place ≡ a
  pub label_is : label elf relocation ≡ pos to

-- A field contains a code address, and a relocation on the AUIPC at `hi` says so.
pub record IsNamedField (elf : Elf) (hi slot : ℕ) (f : Field) : Type 0 where
  pub field : IsCodeField elf slot 8 f
  pub named : NamesEntry elf hi field.to

-- A lower part and its AUIPC give the address of a GOT entry that can be a cell.
pub record IsSlotOf (elf : Elf) (l : Low) (f : Field) : Type 0 where
  pub slot : ℕ
  pub names : IsTargetOf elf l (pos slot)
  pub entry : IsNamedField elf l.hi slot f

-- Entries of the global offset table (GOT) that don't have the label that a relocation gives them.
use Rattle.std.specs.Prelude.{◌≡◌, ℕ, pos, IsSomeAnd}
use Rattle.elf_image.specs.declared.elf.Elf.{Elf}
use Rattle.elf_image.specs.declared.relocation.TheConstants.{R_RISCV_GOT_HI20}
use Rattle.elf_code.specs.Relocations.{Relocation, label}
use Rattle.elf_code.specs.Roles.{PcrelHiTo}
use Rattle.elf_code.specs.ReferenceFaults.{IsAddress}
use Rattle.elf_code.specs.LoadedNumbers.{loaded_number}
use Rattle.rv_reloc.specs.declared.lows.Low.{Low}
use Rattle.rv_reloc.specs.declared.slots.SlotLabel.{SlotLabel}
use Rattle.rv_reloc.specs.Pairs.{IsTargetOf}
use Rattle.rv_reloc.specs.Slots.{IsSlotLabel}

-- A relocation on the AUIPC at `hi` gives its GOT entry a label, but `entry` doesn't have it.
pub record MissesLabel (elf : Elf) (hi entry : ℕ) : Type 0 where
  pub wanted : SlotLabel
  pub is : IsSlotLabel elf wanted
  pub place_is : wanted.place ≡ hi
  pub unfit : IsSomeAnd (loaded_number elf entry 8) (λ v. wanted.label ≡ pos v) → ⊥

-- A lower part and its AUIPC give the address of a GOT entry that doesn't have a label that a relocation gives it.
pub record NamesBadEntry (elf : Elf) (l : Low) : Type 0 where
  pub entry : ℕ
  pub makes : IsTargetOf elf l (pos entry)
  pub address : IsAddress (pos entry)
  pub misses : MissesLabel elf l.hi entry

-- A relocation for an upper part on an AUIPC that gives, with a lower part, the address of a GOT entry that doesn't
-- have the relocation's label.
pub record HasBadEntry (elf : Elf) (r : Relocation) : Type 0 where
  pub is_slot : r.kind ≡ R_RISCV_GOT_HI20
  pub entry : ℕ
  pub makes : PcrelHiTo elf r (pos entry)
  pub address : IsAddress (pos entry)
  pub unfit : IsSomeAnd (loaded_number elf entry 8) (λ v. label elf r ≡ pos v) → ⊥

-- The labels that entries of the global offset table should have, by the AUIPCs that refer to the entries.
use Rattle.std.specs.Prelude.{◌≡◌, ◌≢◌, ◌⊎◌, ◌↔◌, ◌<◌, ℕ, ℤ, pos, ◌<ℤ◌, ◌≤ℤ◌, List, Contains, AllPairs}
use Rattle.elf_image.specs.declared.elf.Elf.{Elf}
use Rattle.elf_image.specs.declared.relocation.TheConstants.{R_RISCV_GOT_HI20}
use Rattle.elf_code.specs.Relocations.{Relocation, relocations, label}
use Rattle.rv_reloc.specs.declared.slots.SlotLabel.{SlotLabel}

-- A relocation gives a GOT entry its label.
pub record IsSlotLabelOf (elf : Elf) (r : Relocation) (s : SlotLabel) : Type 0 where
  pub is_slot : r.kind ≡ R_RISCV_GOT_HI20
  pub place_is : r.place ≡ s.place
  pub label_is : label elf r ≡ s.label

pub record IsSlotLabel (elf : Elf) (s : SlotLabel) : Type 0 where
  pub source : Relocation
  pub counts : Contains (relocations elf) source
  pub is : IsSlotLabelOf elf source s

-- The order by place, and then by label.

abbrev pub IsLabelBelow : ℕ → ℤ → SlotLabel → Type 0
IsLabelBelow place label s = (s.place < place) ⊎ ((s.place ≡ place) × (s.label <ℤ label))

abbrev pub IsLabelFrom : ℕ → ℤ → SlotLabel → Type 0
IsLabelFrom place label s = (place < s.place) ⊎ ((place ≡ s.place) × (label ≤ℤ s.label))

-- All labels that GOT entries should have, sorted.
pub record AreSlotLabels (elf : Elf) (labels : List SlotLabel) : Type 0 where
  pub all : (s : SlotLabel) → Contains labels s ↔ IsSlotLabel elf s
  pub ordered : AllPairs (λ s t. IsLabelFrom s.place s.label t) labels

-- Labels with a given place: any label; one below a number; one at or above a number; one that differs from a number.

pub record HasLabelAt (labels : List SlotLabel) (place : ℕ) : Type 0 where
  pub found : SlotLabel
  pub listed : Contains labels found
  pub place_is : found.place ≡ place

pub record HasLabelBelow (labels : List SlotLabel) (place : ℕ) (number : ℤ) : Type 0 where
  pub found : SlotLabel
  pub listed : Contains labels found
  pub place_is : found.place ≡ place
  pub below : found.label <ℤ number

pub record HasLabelFrom (labels : List SlotLabel) (place : ℕ) (number : ℤ) : Type 0 where
  pub found : SlotLabel
  pub listed : Contains labels found
  pub place_is : found.place ≡ place
  pub above : number ≤ℤ found.label

pub record HasOtherLabel (labels : List SlotLabel) (place number : ℕ) : Type 0 where
  pub found : SlotLabel
  pub listed : Contains labels found
  pub place_is : found.place ≡ place
  pub differs : found.label ≢ pos number

-- Code cells: data fields that contain a code address, or a difference of labels of which one is a code address. psABI,
-- "Relocations".
use Rattle.std.specs.Prelude.{◌≡◌, ◌⊎◌, ℕ, ◌+◌, ◌/◌, ◌<◌, ◌==◌, ◌&&◌, ◌||◌, ℤ, pos, ◌≤ℤ◌, ◌<ℤ◌, if◌then◌else◌, Bool}
use Rattle.std.specs.Prelude.{true, false, IsTrue, IsSome, IfSome, List, Option, Some, Contains}
use Rattle.std.specs.List.{count_by}
use Rattle.rv_code.specs.declared.cell.CodeCell.{CodeCell}
use Rattle.rv_code.specs.declared.cell.CellKind.{CellKind}
use Rattle.rv_code.specs.declared.cell.CellKind.TheVariants.{Abs, Diff}
use Rattle.elf_image.specs.declared.elf.Elf.{Elf}
use Rattle.elf_image.specs.declared.relocation.TheConstants.{R_RISCV_32, R_RISCV_GOT_HI20}
use Rattle.elf_image.specs.memory.LoadedBytes.{file_offset, IsInHeaders}
use Rattle.elf_code.specs.LoadedNumbers.{loaded_number}
use Rattle.elf_code.specs.Parts.{IsStart, IsWholePart}
use Rattle.elf_code.specs.Relocations.{Relocation, relocations, label, is_address, is_pc_difference, is_add, Width}
use Rattle.elf_code.specs.Relocations.{Bits, Uleb128, plus_width, minus_width}
use Rattle.elf_code.specs.Roles.{PcrelHiTo}

-- Differences.

-- `x` is the only item of the list that passes the test.
pub record IsOnly {A : Type 0} (test : A → Bool) (items : List A) (x : A) : Type 0 where
  pub listed : Contains items x
  pub passes : IsTrue (test x)
  pub alone : count_by test items ≡ 1

abbrev pub same_width : Width → Option Width → Bool
same_width (Bits n) (Some (Bits m)) = n == m
same_width Uleb128 (Some Uleb128) = true
same_width _ _ = false

-- A relocation at an address and with a width adds or sets a label, or subtracts one.
abbrev pub is_plus : ℕ → Width → Relocation → Bool
is_plus place width r = r.place == place && same_width width (plus_width r.kind)

abbrev pub is_minus : ℕ → Width → Relocation → Bool
is_minus place width r = r.place == place && same_width width (minus_width r.kind)

-- The field of a relocation contains the difference of two labels, modulo its width.
pub data IsDifference (elf : Elf) (r : Relocation) (width : Width) (to from : ℤ) : Type 0 where
  -- Exactly one label is added or set there, by this relocation, and exactly one label is subtracted.
  of_labels : IsOnly (is_plus r.place width) (relocations elf) r → (minus : Relocation) →
      IsOnly (is_minus r.place width) (relocations elf) minus → to ≡ label elf r → from ≡ label elf minus →
      IsDifference elf r width to from
  -- The field's own address is subtracted.
  of_place : Contains (relocations elf) r → IsTrue (is_pc_difference r.kind) → width ≡ Bits 32 →
      to ≡ label elf r → from ≡ pos r.place → IsDifference elf r width to from

-- The field of a difference can be a cell if it has 32 or 64 bits, unless SET32 sets it.
abbrev pub can_be_cell : Relocation → Bool
can_be_cell r = is_add r.kind || is_pc_difference r.kind

-- The label is a code address.
abbrev pub IsCodeLabel : Elf → ℤ → Type 0
IsCodeLabel elf z = (a : ℕ) × (z ≡ pos a) × IsStart elf a

-- One of the two labels is a code address.
abbrev pub HasCodeLabel : Elf → ℤ → ℤ → Type 0
HasCodeLabel elf to from = IsCodeLabel elf to ⊎ IsCodeLabel elf from

-- Both labels are in one whole part or at its end, so their difference doesn't change.
pub record IsInOneWhole (elf : Elf) (tabled : List (ℕ × ℕ)) (to from : ℤ) : Type 0 where
  pub start : ℕ
  pub end : ℕ
  pub whole : IsWholePart elf tabled start end
  pub to_in : (pos start ≤ℤ to) × (to ≤ℤ pos end)
  pub from_in : (pos start ≤ℤ from) × (from ≤ℤ pos end)

-- Fields that can be cells.

-- The content of a field. A file is refused if a label isn't an address.
pub data Content : Type 0 where
  Address : ℕ → Content
  Difference : ℤ → ℤ → Content

pub record Field : Type 0 where
  pub place : ℕ
  pub width : ℕ
  pub content : Content

abbrev pub address_width : ℕ → ℕ
address_width kind = if kind == R_RISCV_32 then 4 else 8

pub data IsField (elf : Elf) (tabled : List (ℕ × ℕ)) (f : Field) : Type 0 where
  -- A field for an address that contains a code address.
  pointer : (r : Relocation) → Contains (relocations elf) r → IsTrue (is_address r.kind) →
      f.place ≡ r.place → f.width ≡ address_width r.kind →
      (to : ℕ) → loaded_number elf f.place f.width ≡ Some to → IsStart elf to → f.content ≡ Address to →
      IsField elf tabled f
  -- The entry of the global offset table that a pair of instructions refers to.
  slot : (r : Relocation) → r.kind ≡ R_RISCV_GOT_HI20 → PcrelHiTo elf r (pos f.place) → f.width ≡ 8 →
      (to : ℕ) → loaded_number elf f.place 8 ≡ Some to → label elf r ≡ pos to → IsStart elf to →
      f.content ≡ Address to → IsField elf tabled f
  -- A difference of 32 or 64 bits.
  difference : (r : Relocation) (bits : ℕ) (to from : ℤ) → IsDifference elf r (Bits bits) to from →
      IsTrue (can_be_cell r) →
      HasCodeLabel elf to from → (IsInOneWhole elf tabled to from → ⊥) →
      f.place ≡ r.place → f.width ≡ bits / 8 → f.content ≡ Difference to from → IsField elf tabled f

-- Its bytes come from the file, and none is in the file's headers, which the rewrite changes.
pub record CanBeCell (elf : Elf) (tabled : List (ℕ × ℕ)) (f : Field) : Type 0 where
  pub is_field : IsField elf tabled f
  pub from_file : (i : ℕ) → i < f.width → IsSome (file_offset elf.segments.items (f.place + i))
  pub no_header : (i : ℕ) → i < f.width →
      IfSome (file_offset elf.segments.items (f.place + i)) (λ offset. IsInHeaders elf offset → ⊥)

-- Fields that share bytes.

abbrev pub ShareByte : Field → Field → Type 0
ShareByte f g = (f.place < g.place + g.width) × (g.place < f.place + f.width)

-- An address comes before a difference, and of two differences the one with the lower labels comes first.
abbrev pub IsContentBefore : Content → Content → Type 0
IsContentBefore (Address to) (Difference to' from') = Unit {0}
IsContentBefore (Difference to from) (Difference to' from') = (to <ℤ to') ⊎ ((to ≡ to') × (from <ℤ from'))
IsContentBefore _ _ = ⊥

-- The field at the lower address comes first. At the same address, the wider field comes first.
abbrev pub IsFieldBefore : Field → Field → Type 0
IsFieldBefore f g =
    (f.place < g.place)
    ⊎ ((f.place ≡ g.place) × ((g.width < f.width) ⊎ ((f.width ≡ g.width) × IsContentBefore f.content g.content)))

-- A field counts if each earlier field that shares a byte with it doesn't count. It doesn't count if an earlier field
-- that counts shares a byte with it.
pub data Counts (elf : Elf) (tabled : List (ℕ × ℕ)) : Field → Bool → Type 0 where
  counts : (f : Field) → CanBeCell elf tabled f →
      ((g : Field) → CanBeCell elf tabled g → IsFieldBefore g f → ShareByte g f → Counts elf tabled g false) →
      Counts elf tabled f true
  gives_way : (f g : Field) → CanBeCell elf tabled f → IsFieldBefore g f → ShareByte g f → Counts elf tabled g true →
      Counts elf tabled f false

-- Cells.

abbrev pub SameContent : Content → CellKind → Type 0
SameContent (Address to) (Abs to') = to ≡ to'
SameContent (Difference to from) (Diff to' from') = (to ≡ pos to') × (from ≡ pos from')
SameContent _ _ = ⊥

pub record IsCell (elf : Elf) (tabled : List (ℕ × ℕ)) (cell : CodeCell) : Type 0 where
  pub content : Content
  pub counted : Counts elf tabled (record { place = cell.addr; width = cell.width; content = content }) true
  pub same : SameContent content cell.kind

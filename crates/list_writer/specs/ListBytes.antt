-- Lists as they are written: each entry has full addresses, so no base address is needed. DWARF 5, sections 7.7.3,
-- 7.25, 7.28 and 7.29.
use Rattle.std.specs.Prelude.{◌+◌, ◌≡◌, ◌<◌, ◌^◌, ℕ, List, [], ◌∷◌, ◌++◌, length, Some}
use Rattle.byteorder.specs.Endian.{little_bytes}
use Rattle.rb_bytes.specs.Leb.{uleb}
use Rattle.dw_lists.specs.declared.list_kind.ListKind.{ListKind}
use Rattle.dw_lists.specs.declared.list_kind.ListKind.TheVariants.{Ranges, Locations}
use Rattle.dw_lists.specs.declared.list_entry.TheConstants.{DW_RLE_end_of_list, DW_RLE_start_length}
use Rattle.dw_lists.specs.declared.list_entry.TheConstants.{DW_LLE_start_length}
use Rattle.cover_lists.specs.Located.{Located}

-- An expression that is in force over `len` addresses from `start` on. For ranges it is empty.
pub record Bounded : Type 0 where
  pub start : ℕ
  pub len : ℕ
  pub expression : List ℕ

abbrev pub stretch_bytes : ℕ → ℕ → List ℕ
stretch_bytes start len = little_bytes 8 start ++ uleb len

-- The bytes of an entry: its kind, first address, length, and for a location list the expression.
abbrev pub entry_bytes : ListKind → Bounded → List ℕ
entry_bytes Ranges b = DW_RLE_start_length ∷ stretch_bytes b.start b.len
entry_bytes Locations b =
    DW_LLE_start_length ∷ (stretch_bytes b.start b.len ++ (uleb (length b.expression) ++ b.expression))

-- Lists of both kinds end with the same byte.
unfoldable pub list_bytes : ListKind → List Bounded → List ℕ
list_bytes kind [] = DW_RLE_end_of_list ∷ []
list_bytes kind (b ∷ bs) = entry_bytes kind b ++ list_bytes kind bs

-- The contents of such an entry.
abbrev pub located_at : Bounded → Located
located_at b = record { range = Some (record { low = b.start; high = b.start + b.len }); expression = b.expression }

-- Numbers have 64 bits, and ranges no expression.
abbrev pub HasExpression : ListKind → List ℕ → Type 0
HasExpression Ranges x = x ≡ []
HasExpression Locations x = length x < 2 ^ 64

-- The entry can be written.
pub record IsWritable (kind : ListKind) (b : Bounded) : Type 0 where
  pub start : b.start < 2 ^ 64
  pub len : b.len < 2 ^ 64
  pub expression : HasExpression kind b.expression

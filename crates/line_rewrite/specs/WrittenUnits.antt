-- Line units that are written: their headers, with the unchanged tables, and their programs. DWARF 5, sections 6.2.4
-- and 7.22.
use Rattle.std.specs.Prelude.{◌++◌, ℕ, Bool, true, false, List, [], ◌∷◌, length, flat_map}
use Rattle.byteorder.specs.Endian.{little_bytes}
use Rattle.line_rewrite.specs.declared.header.Header.{Header}
use Rattle.line_rewrite.specs.declared.unit.Unit as kept
use Rattle.line_rewrite.specs.WrittenPrograms.{Begun, closed}

abbrev pub flag_byte : Bool → ℕ
flag_byte true = 1
flag_byte false = 0

-- The numbers of operands of the standard opcodes.
abbrev pub operand_counts : List ℕ
operand_counts = 0 ∷ 1 ∷ 1 ∷ 1 ∷ 1 ∷ 0 ∷ 0 ∷ 0 ∷ 1 ∷ 0 ∷ 0 ∷ 1 ∷ []

-- The fields after the header's length: the numbers of `written_coding`, the numbers of operands, and the rest of the
-- old header.
abbrev pub header_fields : Header → List ℕ
header_fields h = (1 ∷ 1 ∷ flag_byte h.coding.default_is_stmt ∷ 251 ∷ 14 ∷ 13 ∷ operand_counts) ++ h.rest.items

-- The bytes after a unit's length: version 5, an address size of 8, no segment selectors, the header and the program.
unfoldable pub unit_bytes : Header → List ℕ → List ℕ
unit_bytes h program =
    (5 ∷ 0 ∷ 8 ∷ 0 ∷ []) ++ (little_bytes 4 (length (header_fields h)) ++ (header_fields h ++ program))

-- The bytes of all units, each with its program.
unfoldable pub written_units : List kept.Unit → List Begun → List (List ℕ)
written_units [] programs = []
written_units (u ∷ units) [] = []
written_units (u ∷ units) (p ∷ programs) = unit_bytes u.header (closed p) ∷ written_units units programs

-- A unit with its length.
abbrev pub spelled_unit : List ℕ → List ℕ
spelled_unit bytes = little_bytes 4 (length bytes) ++ bytes

abbrev pub spelled_units : List (List ℕ) → List ℕ
spelled_units units = flat_map spelled_unit units

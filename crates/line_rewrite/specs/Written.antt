-- How rows are written as operations, and operations as bytes. DWARF 5, sections 6.2.5 and 7.22.
use Rattle.std.specs.Prelude.{◌+◌, ◌-◌, ◌*◌, ◌%◌, ◌^◌, ◌==◌, ◌&&◌, ◌<◌, ℕ, ℤ, negsuc, Bool, true, false, not, List, []}
use Rattle.std.specs.Bool.{beq}
use Rattle.std.specs.Prelude.{◌∷◌, ◌++◌, nat_le, nat_lt, if◌then◌else◌, length, map}
use Rattle.std.specs.Int.{w64, cast_signed}
use Rattle.byteorder.specs.Endian.{little_bytes}
use Rattle.rb_bytes.specs.Leb.{uleb, sleb}
use Rattle.line_rewrite.specs.declared.coding.Coding.{Coding}
use Rattle.line_rewrite.specs.declared.registers.Registers.{Registers}
use Rattle.line_rewrite.specs.declared.operation.LineOp.{LineOp}
use Rattle.line_rewrite.specs.declared.operation.LineOp.TheVariants.{Special, Copy, AdvancePc, AdvanceLine, SetFile}
use Rattle.line_rewrite.specs.declared.operation.LineOp.TheVariants.{SetColumn, NegateStmt, SetBasicBlock, ConstAddPc}
use Rattle.line_rewrite.specs.declared.operation.LineOp.TheVariants.{FixedAdvancePc, SetPrologueEnd, SetEpilogueBegin}
use Rattle.line_rewrite.specs.declared.operation.LineOp.TheVariants.{SetIsa, EndSequence, SetAddress, SetDiscriminator}
use Rattle.line_rewrite.specs.declared.operation.LineOp.TheVariants.{Unknown}
use Rattle.line_rewrite.specs.LineMachine.{after_row}

-- An operation, unless it isn't needed.
abbrev pub unless : Bool → LineOp → List LineOp
unless true op = []
unless false op = op ∷ []

-- The difference of two lines, modulo 2^64.
abbrev pub line_step : ℕ → ℕ → ℕ
line_step from to = (to + (2 ^ 64 - from)) % 2 ^ 64

-- The difference as a signed number.
abbrev pub line_distance : ℕ → ℕ → ℤ
line_distance from to = cast_signed w64 (line_step from to)

-- The numbers of a written header: a special opcode advances the line by -5 to 8, and the address by at most 16.
abbrev pub written_coding : (default_is_stmt : Bool) → Coding
written_coding default_is_stmt = record {
  minimum_instruction_length = 1;
  default_is_stmt = default_is_stmt;
  line_base = negsuc 4;
  line_range = 14;
  opcode_base = 13;
}

-- The difference of two lines less the line base.
abbrev pub above_base : ℕ → ℕ → ℕ
above_base from to = (line_step from to + 5) % 2 ^ 64

-- One special opcode can advance to the row.
abbrev pub is_special : Registers → Registers → Bool
is_special r row = nat_lt (above_base r.line row.line) 14 && nat_le (row.address - r.address) 16

-- The operations that advance the line and the address, and append the row: one special opcode, if there is one for it.
abbrev pub step_ops : Registers → Registers → List LineOp
step_ops r row =
    if is_special r row then Special (above_base r.line row.line + 14 * (row.address - r.address)) ∷ []
    else (unless (r.line == row.line) (AdvanceLine (line_distance r.line row.line))
    ++ unless (r.address == row.address) (AdvancePc (row.address - r.address))
    ++ Copy ∷ [])

-- The operations that set the registers to a row, and append it.
abbrev pub row_ops : Registers → Registers → List LineOp
row_ops r row =
    unless (r.file == row.file) (SetFile row.file)
    ++ unless (r.column == row.column) (SetColumn row.column)
    ++ unless (beq r.is_stmt row.is_stmt) NegateStmt
    ++ unless (not row.basic_block) SetBasicBlock
    ++ unless (not row.prologue_end) SetPrologueEnd
    ++ unless (not row.epilogue_begin) SetEpilogueBegin
    ++ unless (r.isa == row.isa) (SetIsa row.isa)
    ++ unless (row.discriminator == 0) (SetDiscriminator row.discriminator)
    ++ step_ops r row

-- The operations for rows, one after another.
abbrev pub rows_ops : Registers → List Registers → List LineOp
rows_ops r [] = []
rows_ops r (row ∷ rows) = row_ops r row ++ rows_ops (after_row row) rows

-- The rows, with their addresses set to `a`.
abbrev pub moved : ℕ → List Registers → List Registers
moved a rows = map (λ (r : Registers). record r { address = a }) rows

-- Each register has 64 bits.
pub record IsRow (row : Registers) : Type 0 where
  pub address : row.address < 2 ^ 64
  pub file : row.file < 2 ^ 64
  pub line : row.line < 2 ^ 64
  pub column : row.column < 2 ^ 64
  pub isa : row.isa < 2 ^ 64
  pub discriminator : row.discriminator < 2 ^ 64

-- The bytes of a written operation, with the opcode base 13.
abbrev pub spelled : LineOp → List ℕ
spelled Copy = 1 ∷ []
spelled (AdvancePc n) = 2 ∷ uleb n
spelled (AdvanceLine z) = 3 ∷ sleb z
spelled (SetFile n) = 4 ∷ uleb n
spelled (SetColumn n) = 5 ∷ uleb n
spelled NegateStmt = 6 ∷ []
spelled SetBasicBlock = 7 ∷ []
spelled ConstAddPc = 8 ∷ []
spelled (FixedAdvancePc n) = 9 ∷ little_bytes 2 n
spelled SetPrologueEnd = 10 ∷ []
spelled SetEpilogueBegin = 11 ∷ []
spelled (SetIsa n) = 12 ∷ uleb n
spelled EndSequence = 0 ∷ 1 ∷ 1 ∷ []
spelled (SetAddress a) = 0 ∷ 9 ∷ 2 ∷ little_bytes 8 a
spelled (SetDiscriminator n) = 0 ∷ (length (uleb n) + 1) ∷ 4 ∷ uleb n
spelled (Special v) = (v + 13) ∷ []
spelled Unknown = 0 ∷ 1 ∷ 3 ∷ []

-- The bytes of operations.
abbrev pub all_spelled : List LineOp → List ℕ
all_spelled [] = []
all_spelled (op ∷ ops) = spelled op ++ all_spelled ops

-- A special opcode fits in a byte.
abbrev pub IsSpelled : LineOp → Type 0
IsSpelled (Special v) = v < 243
IsSpelled _ = Unit {0}

-- Bytes of a memory that has numbers in pages, and other bytes.
use Rattle.std.specs.Prelude.{◌≡◌, ℕ, ◌<◌, ◌&&◌, ◌==◌, nat_lt, nat_le, not, if◌then◌else◌, Bool, true, false, List, []}
use Rattle.std.specs.Prelude.{◌∷◌, Option, Some, None, is_none, zero, suc}
use Rattle.std.specs.Option.{option_map_or}
use Rattle.sym_machine.specs.declared.value.CodeSymbol.{CodeSymbol}
use Rattle.sym_machine.specs.declared.other_bytes.OtherByte.{OtherByte}
use Rattle.sym_machine.specs.declared.other_bytes.OtherByte.TheVariants as other
use Rattle.rv_code.specs.machine.Machine.{plus}
use Rattle.rv_memory.specs.Memory.{memory_of, may_stand}
use Rattle.sym_machine.specs.declared.value.MemoryByte.{MemoryByte}
use Rattle.sym_machine.specs.declared.value.MemoryByte.TheVariants.{Byte, SymbolByte, Hidden}
use Rattle.sym_machine.specs.declared.memory.SymMemory.{SymMemory}
use Rattle.sym_machine.specs.declared.memory.SymbolBytes.{SymbolBytes}
use Rattle.sym_machine.specs.declared.other_bytes.OtherBytes.{OtherBytes}
use Rattle.sym_machine.specs.internal.OtherBytes.{other_byte, has_group}
use Rattle.sym_machine.specs.Values.{is_hidden, are_symbol_bytes, same_symbol}

abbrev pub as_byte : OtherByte → MemoryByte
as_byte (other.Symbol y w i) = SymbolByte y w i
as_byte other.Hidden = Hidden

-- the byte of memory: the other byte, or the number if there is none
abbrev pub byte_over : Option OtherByte → ℕ → MemoryByte
byte_over o b = option_map_or as_byte o (Byte b)

abbrev pub memory_at : SymMemory → ℕ → MemoryByte
memory_at m a = byte_over (other_byte m.others a) (memory_of m.bytes a)

-- n bytes of symbol y from byte i on, as the other bytes have them
unfoldable pub other_bytes : CodeSymbol → ℕ → ℕ → ℕ → List (Option OtherByte)
other_bytes y w i zero = []
other_bytes y w i (suc n) = Some (other.Symbol y w i) ∷ other_bytes y w (suc i) n

abbrev pub is_number_at : SymMemory → ℕ → Bool
is_number_at m a = is_none (other_byte m.others a)

abbrev pub is_open_at : SymMemory → ℕ → Bool
is_open_at m a = not (is_hidden (memory_at m a))

-- the symbol of which these bytes are successive bytes, all stored in one width
abbrev pub symbol_in : List MemoryByte → Option SymbolBytes
symbol_in (SymbolByte y w i ∷ cs) =
    if are_symbol_bytes y w (suc i) cs then Some (record { symbol = y; width = w; first = i }) else None
symbol_in _ = None

abbrev pub symbol_byte : MemoryByte → Option SymbolBytes
symbol_byte (SymbolByte y w i) = Some (record { symbol = y; width = w; first = i })
symbol_byte _ = None

abbrev pub is_byte_of : MemoryByte → CodeSymbol → ℕ → ℕ → Bool
is_byte_of (SymbolByte z v j) y w i = same_symbol y z && w == v && i == j
is_byte_of _ y w i = false

-- each of the n addresses from a on has its group
abbrev pub HasGroups : OtherBytes → ℕ → ℕ → Type 0
HasGroups others a n = (k : ℕ) → k < n → has_group others (plus a k) ≡ true

-- the byte at address a after the break was asked to move to `to`
abbrev pub memory_after : SymMemory → ℕ → ℕ → MemoryByte
memory_after m to a =
    if may_stand m.bytes to
    then (if nat_le m.bytes.program_break a && nat_lt a to then Byte 0 else memory_at m a)
    else memory_at m a

-- Values and bytes of memory of the symbol machine: equality, and the bytes in which a value is stored.
use Rattle.std.specs.Prelude.{◌≡◌, ◌≢◌, ◌⊎◌, ◌<◌, ◌≤◌, ◌+◌, ℕ, zero, suc, ◌==◌, ◌&&◌, not, nat_le, if◌then◌else◌, Bool}
use Rattle.std.specs.Prelude.{true, false, List, [], ◌∷◌, Option, Some, None, map, option_map}
use Rattle.rv_code.specs.declared.placed.Func.{Func}
use Rattle.rv_code.specs.declared.op.Op.{Op}
use Rattle.rv_code.specs.declared.op.Op.TheVariants as op
use Rattle.rv_code.specs.machine.Machine.{low_bytes}
use Rattle.rv_code.specs.layout.ProgramCode.{is_code_address}
use Rattle.sym_machine.specs.declared.value.Pointer.{Pointer}
use Rattle.sym_machine.specs.declared.value.Pointer.TheVariants.{Code, Ret}
use Rattle.sym_machine.specs.declared.value.Comparing.{Comparing}
use Rattle.sym_machine.specs.declared.value.Comparing.TheVariants.{Sub, Xor}
use Rattle.sym_machine.specs.declared.value.CodeSymbol.{CodeSymbol}
use Rattle.sym_machine.specs.declared.value.CodeSymbol.TheVariants.{Points, Hi, Abs, Diff, Apart}
use Rattle.sym_machine.specs.declared.value.Value.{Value}
use Rattle.sym_machine.specs.declared.value.Value.TheVariants.{Num, Sym, Piece}
use Rattle.sym_machine.specs.declared.value.MemoryByte.{MemoryByte}
use Rattle.sym_machine.specs.declared.value.MemoryByte.TheVariants.{Byte, SymbolByte, Hidden}

-- Equality.

abbrev pub same_pointer : Pointer → Pointer → Bool
same_pointer (Code a) (Code b) = a == b
same_pointer (Ret a) (Ret b) = a == b
same_pointer _ _ = false

-- the operation that compares two pointers
abbrev pub op_of : Comparing → Op
op_of Sub = op.Sub
op_of Xor = op.Xor

abbrev pub same_comparing : Comparing → Comparing → Bool
same_comparing Sub Sub = true
same_comparing Xor Xor = true
same_comparing _ _ = false

abbrev pub same_symbol : CodeSymbol → CodeSymbol → Bool
same_symbol (Points p) (Points q) = same_pointer p q
same_symbol (Hi a) (Hi b) = a == b
same_symbol (Abs s) (Abs t) = s == t
same_symbol (Diff to from) (Diff to' from') = to == to' && from == from'
same_symbol (Apart by p q) (Apart by' p' q') = same_comparing by by' && same_pointer p p' && same_pointer q q'
same_symbol _ _ = false

-- The value of an address: a pointer if it is a code address, otherwise a number.
abbrev pub value_of : List Func → ℕ → Value
value_of funcs a = if is_code_address funcs a then Sym (Points (Code a)) else Num a

-- whether a value is the value of an address
abbrev pub is_value_of : List Func → ℕ → Value → Bool
is_value_of funcs a (Num n) = not (is_code_address funcs a) && n == a
is_value_of funcs a (Sym (Points (Code b))) = is_code_address funcs a && b == a
is_value_of funcs a _ = false

-- Numbers.

abbrev pub number : Value → Option ℕ
number (Num n) = Some n
number _ = None

abbrev pub and_byte : MemoryByte → Option (List ℕ) → Option (List ℕ)
and_byte (Byte b) rest = option_map (λ bs. b ∷ bs) rest
and_byte _ rest = None

-- the numbers of these bytes of memory, if they are all numbers
abbrev pub numbers : List MemoryByte → Option (List ℕ)
numbers [] = Some []
numbers (c ∷ cs) = and_byte c (numbers cs)

-- Symbols in memory.

-- n bytes of symbol y from byte i on, stored in w bytes
unfoldable pub symbol_bytes : CodeSymbol → ℕ → ℕ → ℕ → List MemoryByte
symbol_bytes y w i zero = []
symbol_bytes y w i (suc n) = SymbolByte y w i ∷ symbol_bytes y w (suc i) n

-- these bytes are bytes of symbol y from byte i on, stored in w bytes
abbrev pub are_symbol_bytes : CodeSymbol → ℕ → ℕ → List MemoryByte → Bool
are_symbol_bytes y w i [] = true
are_symbol_bytes y w i (SymbolByte z v j ∷ cs) = same_symbol y z && w == v && i == j && are_symbol_bytes y w (suc i) cs
are_symbol_bytes y w i (c ∷ cs) = false

abbrev pub is_hidden : MemoryByte → Bool
is_hidden Hidden = true
is_hidden _ = false

-- The n low bytes of a value as a store writes them. A store of 4 writes a symbol in a width of 4 bytes, any other in a
-- width of 8, and a store of fewer than 8 writes the first of these. Of a piece it writes the first bytes, if the piece
-- has n of them.
abbrev pub stored : ℕ → Value → Option (List MemoryByte)
stored n (Num x) = Some (map Byte (low_bytes n x))
stored n (Sym y) = Some (symbol_bytes y (if n == 4 then 4 else 8) 0 n)
stored n (Piece y w i k e) = if nat_le n k then Some (symbol_bytes y w i n) else None

-- The values and bytes of memory that the machine makes.

-- pointers that were compared are of one kind and have different addresses
abbrev pub AreSymbolsApart : Pointer → Pointer → Type 0
AreSymbolsApart (Code a) (Code b) = a ≢ b
AreSymbolsApart (Ret a) (Ret b) = a ≢ b
AreSymbolsApart _ _ = ⊥

abbrev pub IsSymbol : CodeSymbol → Type 0
IsSymbol (Apart by p q) = AreSymbolsApart p q
IsSymbol _ = Unit {0}

-- a symbol is stored in 4 or in 8 bytes
abbrev pub IsWidth : ℕ → Type 0
IsWidth w = (w ≡ 4) ⊎ (w ≡ 8)

-- a piece has 1, 2 or 4 bytes of its symbol
abbrev pub IsPiece : ℕ → ℕ → ℕ → Type 0
IsPiece w i n = IsWidth w × ((n ≡ 1) ⊎ ((n ≡ 2) ⊎ (n ≡ 4))) × (i + n ≤ w)

abbrev pub IsValue : Value → Type 0
IsValue (Num n) = Unit {0}
IsValue (Sym y) = IsSymbol y
IsValue (Piece y w i n e) = IsSymbol y × IsPiece w i n

abbrev pub IsMemoryByte : MemoryByte → Type 0
IsMemoryByte (Byte b) = Unit {0}
IsMemoryByte (SymbolByte y w i) = IsSymbol y × IsWidth w × (i < w)
IsMemoryByte Hidden = Unit {0}

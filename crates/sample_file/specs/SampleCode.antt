-- The code of a sample: n functions, each of which calls the next one, and the code at the entry point, which calls the
-- first; the data fields with code addresses; and the symbols that name functions.
use Rattle.std.specs.Prelude.{◌+◌, ◌*◌, ◌==◌, ◌++◌, ℕ, pos, negsuc, ◌-ℤ◌, Bool, List, [], ◌∷◌, map, if◌then◌else◌}
use Rattle.std.specs.Prelude.{codes, decimal}
use Rattle.std.specs.List.{range_with_len}
use Rattle.rv_code.specs.isa.HiLo.{hi20, lo12}
use Rattle.rv_code.specs.declared.inst.Inst.{Inst}
use Rattle.rv_code.specs.declared.inst.Inst.TheVariants.{Addi, Sd, Andi, Beq, Jal, Auipc, Jalr, Ld, Ecall}
use Rattle.rv_code.specs.declared.placed.Placed.{Placed}
use Rattle.rv_code.specs.declared.placed.Role.{Role}
use Rattle.rv_code.specs.declared.placed.Role.TheVariants.{Plain, CallHi, CallLo}
use Rattle.rv_code.specs.declared.cell.CodeCell.{CodeCell}
use Rattle.rv_code.specs.declared.cell.CellKind.TheVariants.{Abs}

-- the start of function k; function_at n is the entry point, after n functions
abbrev pub function_at : ℕ → ℕ
function_at k = 0x11000 + 48 * k

abbrev pub placed : ℕ → Inst → Role → Placed
placed a inst role = record { addr = a; len = 4; inst = inst; role = role }

abbrev pub plain : ℕ → Inst → Placed
plain a inst = placed a inst Plain

-- the two instructions of a call, which saves its return address in x1
abbrev pub call_high : ℕ → ℕ → Placed
call_high at to = placed at (Auipc 1 (hi20 (pos to -ℤ pos at))) (CallHi to)

abbrev pub call_low : ℕ → ℕ → Placed
call_low at to = placed (at + 4) (Jalr 1 1 (lo12 (pos to -ℤ pos at))) (CallLo at to)

-- The first instruction of the call of the next function. The last function has two nops instead of the call.
abbrev pub next_high : (is_last : Bool) → ℕ → ℕ → Placed
next_high is_last at to = if is_last then plain at (Addi 0 0 (pos 0)) else call_high at to

abbrev pub next_low : (is_last : Bool) → ℕ → ℕ → Placed
next_low is_last at to = if is_last then plain (at + 4) (Addi 0 0 (pos 0)) else call_low at to

-- the function at address a; the next function is at `next`
abbrev pub function_insts : (is_last : Bool) → (a next : ℕ) → List Placed
function_insts is_last a next =
    plain a (Addi 2 2 (negsuc 15))
    ∷ plain (a + 4) (Sd 2 1 (pos 8))
    ∷ plain (a + 8) (Andi 5 10 (pos 1))
    ∷ plain (a + 0xc) (Beq 5 0 (pos 12))
    ∷ plain (a + 0x10) (Addi 10 10 (pos 3))
    ∷ plain (a + 0x14) (Jal 0 (pos 8))
    ∷ plain (a + 0x18) (Addi 10 10 (pos 5))
    ∷ next_high is_last (a + 0x1c) next
    ∷ next_low is_last (a + 0x1c) next
    ∷ plain (a + 0x24) (Ld 1 2 (pos 8))
    ∷ plain (a + 0x28) (Addi 2 2 (pos 16))
    ∷ plain (a + 0x2c) (Jalr 0 1 (pos 0))
    ∷ []

-- the code at the entry point
abbrev pub start_insts : ℕ → List Placed
start_insts a =
    plain a (Addi 10 0 (pos 0))
    ∷ call_high (a + 4) (function_at 0)
    ∷ call_low (a + 4) (function_at 0)
    ∷ plain (a + 0xc) (Addi 17 0 (pos 93))
    ∷ plain (a + 0x10) Ecall
    ∷ []

-- a function of a file: its range, and its instructions
pub record FuncShape : Type 0 where
  pub start : ℕ
  pub end : ℕ
  pub insts : List Placed

abbrev pub function_shape : ℕ → ℕ → FuncShape
function_shape n k = record {
  start = function_at k;
  end = function_at k + 48;
  insts = function_insts (k + 1 == n) (function_at k) (function_at (k + 1));
}

abbrev pub start_shape : ℕ → FuncShape
start_shape n = record { start = function_at n; end = function_at n + 20; insts = start_insts (function_at n) }

-- function k; for k = n it is the code at the entry point, which comes after all functions
abbrev pub sample_function : ℕ → ℕ → FuncShape
sample_function n k = if k == n then start_shape n else function_shape n k

abbrev pub sample_functions : ℕ → List FuncShape
sample_functions n = map (sample_function n) (range_with_len 0 (n + 1))

-- a pointer to each function
abbrev pub sample_cell : ℕ → CodeCell
sample_cell k = record { addr = 0x800000 + 8 * k; width = 8; kind = Abs (function_at k) }

abbrev pub sample_cells : ℕ → List CodeCell
sample_cells n = map sample_cell (range_with_len 0 n)

-- a function's symbol: name, value and size
pub record SymbolShape : Type 0 where
  pub name : List ℕ
  pub value : ℕ
  pub size : ℕ

abbrev pub function_name : ℕ → List ℕ
function_name k = codes "f" ++ decimal k

abbrev pub start_name : List ℕ
start_name = codes "_start"

abbrev pub shape : List ℕ → ℕ → ℕ → SymbolShape
shape name value size = record { name = name; value = value; size = size }

-- the symbol of function k; for k = n it is the entry point's
abbrev pub sample_symbol : ℕ → ℕ → SymbolShape
sample_symbol n k = if k == n then shape start_name (function_at k) 20 else shape (function_name k) (function_at k) 48

abbrev pub sample_symbols : ℕ → List SymbolShape
sample_symbols n = map (sample_symbol n) (range_with_len 0 (n + 1))

-- Edges of the control-flow graph, between blocks of one function, and the pairs of an indirect jump and an address to
-- which a jump table leads it.
use Rattle.std.specs.Prelude.{◌≡◌, ◌≢◌, ℕ, ◌+◌, List, Some, IsTrue, IsSomeAnd, Contains, Any, slice_get}
use Rattle.rv_code.specs.declared.action.Action.{Action}
use Rattle.rv_code.specs.declared.action.Action.TheVariants.{JumpTo}
use Rattle.rv_code.specs.declared.placed.Placed.{Placed}
use Rattle.rv_code.specs.declared.placed.Func.{Func}
use Rattle.rv_code.specs.declared.placed.Block.{Block}
use Rattle.rv_code.specs.declared.placed.Role.TheVariants.{Plain}
use Rattle.rv_code.specs.declared.cell.CodeCell.{CodeCell}
use Rattle.rv_code.specs.layout.Blocks.{inst_at, func_of, EndsBlock}
use Rattle.rv_code.specs.layout.ProgramCode.{CellNames}
use Rattle.rv_code.specs.layout.Flow.{action_at, target_of, falls_at}
use Rattle.rv_code.specs.layout.Lists.{ListsPairs}

-- Indirect jumps.

-- An indirect jump through a table: a JALR that saves no return address, has no role and isn't a return. A return reads
-- x1 (psABI, "Integer Register Convention").
abbrev pub IsTableJump : Placed → Type 0
IsTableJump p = (p.role ≡ Plain) × Jumps (action_at p)
  where
    Jumps : Action → Type 0
    Jumps (JumpTo rd rs1 imm) = (rd ≡ 0) × (rs1 ≢ 1)
    Jumps _ = ⊥

-- A table jump and an address are a pair if one function contains both, and a cell names the address.
pub record IsTablePair (funcs : List Func) (cells : List CodeCell) (jump target : ℕ) : Type 0 where
  pub func : Func
  pub is_func : Contains funcs func
  pub jumps : Any (λ p. (p.addr ≡ jump) × IsTableJump p) func.insts.items
  pub goes_to : Any (λ p. p.addr ≡ target) func.insts.items
  pub named : Any (λ c. CellNames c target) cells

abbrev pub IsPairOf : List Func → List CodeCell → ℕ × ℕ → Type 0
IsPairOf funcs cells p = IsTablePair funcs cells p.0 p.1

-- All these pairs, in order.
abbrev pub AreTablePairs : List Func → List CodeCell → List (ℕ × ℕ) → Type 0
AreTablePairs funcs cells pairs = ListsPairs (IsPairOf funcs cells) pairs

-- Edges.

-- The last instruction of a block leads to an address: it branches or jumps there, falls through to it, or is an
-- indirect jump that a table leads there (`IsPair`). A call doesn't lead to its target.
pub data LeadsTo (IsPair : ℕ × ℕ → Type 0) (func : Func) (i : ℕ) (p : Placed) (a : ℕ) : Type 0 where
  jumps : EndsBlock p → target_of p ≡ Some a → LeadsTo IsPair func i p a
  falls_into : IsTrue (falls_at func i p) → p.addr + p.len ≡ a → LeadsTo IsPair func i p a
  by_table : IsPair (p.addr, a) → LeadsTo IsPair func i p a

-- The first instruction of a block is at address `a`.
abbrev pub BeginsAt : List Func → Block → ℕ → Type 0
BeginsAt funcs b a = IsSomeAnd (func_of funcs b) (λ func. IsSomeAnd (inst_at func b.first) (λ p. p.addr ≡ a))

-- There is an edge from block `s` to block `t` of the same function.
pub record IsEdge (funcs : List Func) (cells : List CodeCell) (s t : Block) : Type 0 where
  pub one_function : s.func ≡ t.func
  pub to : ℕ
  pub begins : BeginsAt funcs t to
  pub leads : IsSomeAnd (func_of funcs s)
      (λ func. IsSomeAnd (inst_at func s.last) (λ p. LeadsTo (IsPairOf funcs cells) func s.last p to))

-- There is an edge between two blocks, given by their indices in `blocks`.
abbrev pub IsEdgeIn : List Func → List CodeCell → List Block → ℕ × ℕ → Type 0
IsEdgeIn funcs cells blocks e =
    IsSomeAnd (slice_get blocks e.0) (λ s. IsSomeAnd (slice_get blocks e.1) (λ t. IsEdge funcs cells s t))

-- All edges between the blocks of a list, in order.
abbrev pub AreEdges : List Func → List CodeCell → List Block → List (ℕ × ℕ) → Type 0
AreEdges funcs cells blocks edges = ListsPairs (IsEdgeIn funcs cells blocks) edges

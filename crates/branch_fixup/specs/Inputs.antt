-- Conditions on code and on a plan for which there are forms that reach.
use Rattle.std.specs.Prelude.{◌≡◌, ◌⊎◌, ℕ, ◌+◌, ◌-◌, ◌≤◌, ◌<◌, false, IsTrue, IsSomeAnd, List, Option, Some, All, Any}
use Rattle.std.specs.Prelude.{sum_by, take, drop, slice_get, option_and_then}
use Rattle.rv_code.specs.declared.placed.Placed.{Placed}
use Rattle.rv_code.specs.declared.placed.Func.{Func}
use Rattle.rv_code.specs.declared.placed.Block.{Block}
use Rattle.rv_code.specs.declared.placed.Role.{Role}
use Rattle.rv_code.specs.declared.cell.CodeCell.{CodeCell}
use Rattle.rv_code.specs.layout.Blocks.{AreBlocks}
use Rattle.rv_code.specs.layout.Flow.{insts_of, action_at, target_of, is_call, is_short}
use Rattle.rv_code.specs.layout.ProgramCode.{program_code, is_code_address}
use Rattle.rv_code.specs.layout.WorstSizes.{worst_at, near_limit}
use Rattle.branch_fixup.specs.Distances.{reaches, reach_of}
use Rattle.branch_fixup.specs.Strips.{strip_of, insts_in}

-- The code.

-- A branch or JAL leads to a code address. If it has two bytes, it saves no return address: RV64 has no such
-- instruction.
pub record LeadsToCode (funcs : List Func) (p : Placed) : Type 0 where
  pub to_code : (t : ℕ) → target_of p ≡ Some t → IsTrue (is_code_address funcs t)
  pub short_call : (t : ℕ) → target_of p ≡ Some t → p.len ≡ 2 → is_call (action_at p) ≡ false

-- In a function that moves as one piece, an instruction that reaches less far than a JAL keeps its width. So its target
-- has to be in the function, and in its reach.
pub record StaysIn (func : Func) (p : Placed) : Type 0 where
  pub above : (t : ℕ) → target_of p ≡ Some t → func.start ≤ t
  pub below : (t : ℕ) → target_of p ≡ Some t → t < func.end
  pub reach : (t : ℕ) → target_of p ≡ Some t → IsTrue (reaches (reach_of p.len p) p.addr t)

abbrev pub KeepsShort : Func → Type 0
KeepsShort func = All (λ p. IsTrue func.whole → IsTrue (is_short p) → StaysIn func p) func.insts.items

pub record AreDirect (funcs : List Func) : Type 0 where
  pub lead : All (LeadsToCode funcs) (insts_of funcs)
  pub stay : All KeepsShort funcs

-- the blocks of functions, for some roles, code cells and entry point
pub record AreBlocksOf (funcs : List Func) (blocks : List Block) : Type 0 where
  pub roles : List (ℕ × Role)
  pub cells : List CodeCell
  pub entry : ℕ
  pub are : AreBlocks (program_code funcs roles cells entry) blocks

-- The plan.

abbrev pub block_in : List Block → List ℕ → ℕ → Option Block
block_in blocks order i = option_and_then (λ k. slice_get blocks k) (slice_get order i)

-- a block falls through to an address, or a branch or JAL of it goes there
abbrev pub BlockLeads : List Func → Block → ℕ → Type 0
BlockLeads funcs b a =
    IsSomeAnd (strip_of funcs b) (λ s. (s.fall ≡ Some a) ⊎ Any (λ p. target_of p ≡ Some a) (insts_in s))

-- a block contains the instruction at an address
abbrev pub BlockHolds : List Func → Block → ℕ → Type 0
BlockHolds funcs b a = IsSomeAnd (strip_of funcs b) (λ s. Any (λ p. p.addr ≡ a) (insts_in s))

-- the sum of the worst sizes of blocks, by their indices in the list of blocks
abbrev pub worst_total : List Func → List Block → List ℕ → ℕ
worst_total funcs blocks places = sum_by (worst_at funcs blocks) places

-- the sum of the worst sizes of the blocks from one index of an order to another, both included
abbrev pub worst_between : List Func → List Block → List ℕ → ℕ → ℕ → ℕ
worst_between funcs blocks order i j = worst_total funcs blocks (take (j + 1 - i) (drop i order))

-- Nearness: from each block to one to which it leads, both included, there are at most `near_limit` bytes.
pub record AreNear (funcs : List Func) (blocks : List Block) (order : List ℕ) : Type 0 where
  pub ahead : (i j a : ℕ) → i ≤ j → IsSomeAnd (block_in blocks order i) (λ b. BlockLeads funcs b a) →
      IsSomeAnd (block_in blocks order j) (λ c. BlockHolds funcs c a) →
      worst_between funcs blocks order i j ≤ near_limit
  pub back : (i j a : ℕ) → j ≤ i → IsSomeAnd (block_in blocks order i) (λ b. BlockLeads funcs b a) →
      IsSomeAnd (block_in blocks order j) (λ c. BlockHolds funcs c a) →
      worst_between funcs blocks order j i ≤ near_limit

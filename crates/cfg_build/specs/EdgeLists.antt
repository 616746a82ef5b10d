-- Edges, as the code lists them: the targets of the end of a block, and the blocks that start there.
use Rattle.std.specs.Prelude.{◌≡◌, ℕ, List, Some, IsSomeAnd, All, Any, AllPairs, Contains, slice_get}
use Rattle.rv_code.specs.declared.placed.Func.{Func}
use Rattle.rv_code.specs.declared.placed.Block.{Block}
use Rattle.rv_code.specs.layout.Blocks.{inst_at, IsBefore}
use Rattle.rv_code.specs.layout.Edges.{LeadsTo}
use Rattle.rv_code.specs.layout.FunctionMembers.{IsOfFunction}

-- Blocks of functions, in order.
pub record AreStretches (funcs : List Func) (blocks : List Block) : Type 0 where
  pub each : All (IsOfFunction funcs) blocks
  pub ordered : AllPairs IsBefore blocks

-- The i-th instruction of a function leads to address `a`. `targets` are the pairs of an indirect jump and one of its
-- targets in a jump table.
abbrev pub LeadsFrom : List (ℕ × ℕ) → Func → ℕ → ℕ → Type 0
LeadsFrom targets func i a = IsSomeAnd (inst_at func i) (λ p. LeadsTo (Contains targets) func i p a)

-- Block `t` of a list starts at address `a` and belongs to function `func`. `starts` are the start addresses of the
-- blocks.
pub record IsBlockAt (blocks : List Block) (starts : List ℕ) (func a t : ℕ) : Type 0 where
  pub begins : slice_get starts t ≡ Some a
  pub one_function : IsSomeAnd (slice_get blocks t) (λ b. func ≡ b.func)

-- An edge leads from block `source`, of function `func`, to a block of this function that starts at one of the
-- addresses `leads`.
pub record IsNextOf (blocks : List Block) (starts : List ℕ) (source func : ℕ) (leads : List ℕ)
    (e : ℕ × ℕ) : Type 0 where
  pub from : e.0 ≡ source
  pub to : Any (λ a. IsBlockAt blocks starts func a e.1) leads

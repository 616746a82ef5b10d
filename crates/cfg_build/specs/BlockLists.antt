-- Blocks, as the code lists them.
use Rattle.std.specs.Prelude.{◌≡◌, ◌⊎◌, ◌+◌, ◌<◌, ℕ, List, length}
use Rattle.rv_code.specs.declared.placed.Func.{Func}
use Rattle.rv_code.specs.declared.placed.Block.{Block}
use Rattle.rv_code.specs.layout.Blocks.{Begins, IsBlock, IsBefore}
use Rattle.rv_code.specs.layout.Lists.{ListsAll}
use Rattle.rv_code.specs.layout.ProgramCode.{ProgramCode}

-- A block ends with the i-th instruction of a function.
abbrev pub EndsAt : ProgramCode → Func → ℕ → Type 0
EndsAt code func i = (i + 1 ≡ length func.insts.items) ⊎ Begins code func (i + 1)

-- A block ends before the i-th instruction of the function with index `place`.
abbrev pub EndsBefore : ℕ → ℕ → Block → Type 0
EndsBefore place i b = (b.func < place) ⊎ ((b.func ≡ place) × (b.last < i))

-- All these blocks, in order.
abbrev pub AreBlocksBefore : ProgramCode → ℕ → ℕ → List Block → Type 0
AreBlocksBefore code place i blocks = ListsAll (λ b. IsBlock code b × EndsBefore place i b) IsBefore blocks

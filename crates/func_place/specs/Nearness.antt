-- Blocks of tied functions are near each other in an order of blocks.
use Rattle.std.specs.Prelude.{ℕ, ◌+◌, ◌-◌, ◌<◌, ◌≤◌, List, length, sum_by, take, drop, slice_index}
use Rattle.rv_code.specs.declared.placed.Func.{Func}
use Rattle.rv_code.specs.declared.placed.Block.{Block}
use Rattle.rv_code.specs.layout.BlockOrders.{func_of_block}
use Rattle.rv_code.specs.layout.WorstSizes.{near_limit, worst_at}
use Rattle.func_place.specs.Units.{AreTied}

-- From one block to another one of a function that is tied to its function, both included, there are at most
-- `near_limit` bytes by worst size, so a JAL reaches.
abbrev pub AreTiedNear : List Func → List Block → List ℕ → Type 0
AreTiedNear funcs blocks order = (i j : ℕ) → i ≤ j → j < length order →
    AreTied funcs (func_of_block blocks (slice_index order i)) (func_of_block blocks (slice_index order j)) →
    sum_by (worst_at funcs blocks) (take (j + 1 - i) (drop i order)) ≤ near_limit

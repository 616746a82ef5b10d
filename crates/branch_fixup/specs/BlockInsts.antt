-- The instructions of a block, in the terms of the code.
use Rattle.std.specs.Prelude.{ℕ, ◌==◌, Bool, false, List, slice_get}
use Rattle.std.specs.Option.{option_map_or}
use Rattle.rv_code.specs.declared.placed.Func.{Func}
use Rattle.branch_fixup.specs.declared.block_insts.BlockInsts.{BlockInsts}
use Rattle.branch_fixup.specs.Strips.{Strip}

abbrev pub seen : BlockInsts → Strip
seen b = record { inner = b.inner.now; last = b.last; whole = b.whole; fall = b.fall }

-- the function at an index starts at an address
abbrev pub func_starts_at : List Func → ℕ → ℕ → Bool
func_starts_at funcs i a = option_map_or (λ f. f.start == a) (slice_get funcs i) false

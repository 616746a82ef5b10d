-- How often control took edges, and the order of edges for linking blocks.
use Rattle.std.specs.Prelude.{◌≡◌, ◌⊎◌, ◌<◌, ℕ, List, slice_get}
use Rattle.std.specs.Option.{option_map_or}
use Rattle.rv_code.specs.declared.placed.Func.{Func}
use Rattle.rv_code.specs.declared.placed.Block.{Block}
use Rattle.rv_code.specs.layout.Blocks.{inst_address, block_start}
use Rattle.rv_code.specs.layout.Lists.{IsPairBefore}

-- the addresses of the first and the last instruction of a block, by its index
abbrev pub first_address : List Func → List Block → ℕ → ℕ
first_address funcs blocks k = option_map_or (block_start funcs) (slice_get blocks k) 0

abbrev pub last_address : List Func → List Block → ℕ → ℕ
last_address funcs blocks k = option_map_or (λ b. inst_address funcs b b.last) (slice_get blocks k) 0

-- the count of an edge: the count of the pair of its source's last instruction and its target's first one
abbrev pub edge_count : (ℕ → ℕ → ℕ) → List Func → List Block → ℕ × ℕ → ℕ
edge_count counts funcs blocks e = counts (last_address funcs blocks e.0) (first_address funcs blocks e.1)

-- an edge is considered before another: by greater count, then by lower source, then by lower target
abbrev pub IsEarlier : (ℕ × ℕ → ℕ) → ℕ × ℕ → ℕ × ℕ → Type 0
IsEarlier count e f = (count f < count e) ⊎ ((count e ≡ count f) × IsPairBefore e f)

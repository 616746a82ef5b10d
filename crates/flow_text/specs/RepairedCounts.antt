-- The counts of a repaired profile: the flow of each edge, and the old counts of all other pairs of instructions.
use Rattle.std.specs.Prelude.{ℕ, List, Option, Some, None, filter_map, find, slice_get}
use Rattle.std.specs.Option.{option_map_or}
use Rattle.rv_code.specs.declared.placed.Func.{Func}
use Rattle.rv_code.specs.declared.placed.Block.{Block}
use Rattle.rv_code.specs.layout.Blocks.{block_start}
use Rattle.edge_profile.specs.PairCounts.{Counted, count_among, is_pair}
use Rattle.flow_infer.specs.declared.flow.Link.{Link}
use Rattle.flow_infer.specs.Links.{block_end}

-- the addresses of the last and of the first instruction of the block with index k
abbrev pub end_at : List Func → List Block → ℕ → ℕ
end_at funcs blocks k = option_map_or (block_end funcs) (slice_get blocks k) 0

abbrev pub start_at : List Func → List Block → ℕ → ℕ
start_at funcs blocks k = option_map_or (block_start funcs) (slice_get blocks k) 0

-- the pair from the end of one block to the start of another, with the flow as its count; None for a way in or out
abbrev pub flow_between : List Func → List Block → Option ℕ → Option ℕ → ℕ → Option Counted
flow_between funcs blocks (Some s) (Some t) flow = Some (end_at funcs blocks s, start_at funcs blocks t, flow)
flow_between funcs blocks _ _ flow = None

-- the pairs of edges, which are links between two blocks, with their flows
abbrev pub edge_flows : List Func → List Block → List Link → List Counted
edge_flows funcs blocks links = filter_map (λ l. flow_between funcs blocks l.from l.to l.flow) links

-- the count of a pair of addresses: its flow if it has one, otherwise its old count
abbrev pub count_with : List Counted → List Counted → ℕ → ℕ → ℕ
count_with flows pairs x y = option_map_or (λ p. p.2) (find (is_pair x y) flows) (count_among x y pairs)

abbrev pub repaired_count : List Func → List Block → List Link → List Counted → ℕ → ℕ → ℕ
repaired_count funcs blocks links pairs = count_with (edge_flows funcs blocks links) pairs

-- The lines that show a flow: for each function with a count, the prices of its blocks and its links; and a line with
-- the number of links and the total change.
use Rattle.std.specs.Prelude.{ℕ, ℤ, pos, ◌==◌, Bool, List, [], ◌++◌, Option, Some, None, codes, decimal, filter}
use Rattle.std.specs.Prelude.{flat_map, if◌then◌else◌, length, nat_lt, slice_index_or}
use Rattle.std.specs.Fmt.{signed_decimal}
use Rattle.std.specs.List.{list_any, range_with_len}
use Rattle.rb_bytes.specs.Text.{hexadecimal}
use Rattle.rv_code.specs.declared.placed.Func.{Func}
use Rattle.rv_code.specs.declared.placed.Block.{Block}
use Rattle.rv_code.specs.layout.BlockOrders.{blocks_of_function}
use Rattle.flow_infer.specs.declared.flow.Flow.{Flow}
use Rattle.flow_infer.specs.declared.flow.Link.{Link}
use Rattle.flow_infer.specs.Flows.{change}
use Rattle.flow_infer.specs.Links.{counted_ends, func_of_ends}
use Rattle.flow_text.specs.RepairedCounts.{start_at}

-- the price of the block with index k
abbrev pub price_line : List Func → List Block → List ℤ → ℕ → List ℕ
price_line funcs blocks prices k =
    codes "price " ++ hexadecimal (start_at funcs blocks k) ++ codes " "
    ++ signed_decimal (slice_index_or prices k (pos 0))
    ++ codes "\n"

-- a block by its start address; `-` for the outside
abbrev pub end_name : List Func → List Block → Option ℕ → List ℕ
end_name funcs blocks (Some k) = hexadecimal (start_at funcs blocks k)
end_name funcs blocks None = codes "-"

-- a link with its count and its flow
abbrev pub link_line : List Func → List Block → Link → List ℕ
link_line funcs blocks l =
    codes "link " ++ end_name funcs blocks l.from ++ codes " " ++ end_name funcs blocks l.to ++ codes " "
    ++ decimal l.count
    ++ codes " " ++ decimal l.flow ++ codes "\n"

-- the links of a function, in their order
abbrev pub links_of : List Block → List Link → ℕ → List Link
links_of blocks links f = filter (λ l. func_of_ends blocks (counted_ends l) == f) links

abbrev pub has_count : List Link → Bool
has_count links = list_any (λ l. nat_lt 0 l.count) links

abbrev pub function_lines : List Func → List Block → Flow → ℕ → List ℕ
function_lines funcs blocks flow f =
    if has_count (links_of blocks flow.links.items f)
    then flat_map (price_line funcs blocks flow.prices.items) (blocks_of_function blocks f)
    ++ flat_map (link_line funcs blocks) (links_of blocks flow.links.items f)
    else []

abbrev pub total_line : List Link → List ℕ
total_line links = decimal (length links) ++ codes " links, total change " ++ decimal (change links) ++ codes "\n"

abbrev pub report : List Func → List Block → Flow → List ℕ
report funcs blocks flow =
    flat_map (function_lines funcs blocks flow) (range_with_len 0 (length funcs)) ++ total_line flow.links.items

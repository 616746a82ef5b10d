-- The profile of a sample: each function's branch is taken if its number is even, and each call is taken once.
use Rattle.std.specs.Prelude.{◌+◌, ◌%◌, ◌==◌, ◌++◌, ℕ, List, [], flat_map, if◌then◌else◌, codes}
use Rattle.std.specs.List.{range_with_len}
use Rattle.sample_file.specs.SampleCode.{function_name, start_name}

-- a line with count 1, from the offset `at` in one function to the offset `there` in another
abbrev pub edge_line : List ℕ → List ℕ → List ℕ → List ℕ → List ℕ
edge_line from at to there =
    codes "1 " ++ from ++ codes " " ++ at ++ codes " 1 " ++ to ++ codes " " ++ there ++ codes " 0 1\n"

-- the edges in function k
abbrev pub own_lines : ℕ → List ℕ
own_lines k =
    let name = function_name k in
    if k % 2 == 0 then edge_line name (codes "c") name (codes "18") ++ edge_line name (codes "18") name (codes "1c")
    else edge_line name (codes "c") name (codes "10") ++ edge_line name (codes "14") name (codes "1c")

-- the edge from function k to the next one, unless k is the last function
abbrev pub call_line : ℕ → ℕ → List ℕ
call_line n k =
    if k + 1 == n then [] else edge_line (function_name k) (codes "20") (function_name (k + 1)) (codes "0")

abbrev pub function_lines : ℕ → ℕ → List ℕ
function_lines n k = own_lines k ++ call_line n k

abbrev pub sample_profile : ℕ → List ℕ
sample_profile n =
    flat_map (function_lines n) (range_with_len 0 n) ++ edge_line start_name (codes "8") (function_name 0) (codes "0")

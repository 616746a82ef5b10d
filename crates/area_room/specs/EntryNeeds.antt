-- How much room the entries need that replace one entry of an unwind table, in the terms of the code.
use Rattle.std.specs.Prelude.{◌+◌, ◌-◌, ◌*◌, ◌&&◌, ℕ, Bool, List, [], ◌∷◌, nat_le, nat_lt, length, filter, flat_map}
use Rattle.std.specs.Prelude.{take, drop, sum_by}
use Rattle.std.specs.Option.{option_map_or}
use Rattle.std.specs.List.{list_any}
use Rattle.rv_code.specs.declared.placed.Block.{Block}
use Rattle.rv_code.specs.declared.placed.Func.{Func}
use Rattle.rv_code.specs.declared.placed.Placed.{Placed}
use Rattle.rv_code.specs.layout.Blocks.{func_of}
use Rattle.cfi_rows.specs.declared.frame_table.Fde.{Fde}

-- a block has an instruction that starts in a range
abbrev pub has_inst_in : List Func → ℕ → ℕ → Block → Bool
has_inst_in funcs low high b =
    option_map_or
    (λ func. list_any (λ (p : Placed). nat_le low p.addr && nat_lt p.addr high)
    (take (b.last + 1 - b.first) (drop b.first func.insts.items)))
    (func_of funcs b) Bool.false

abbrev pub is_strictly_between : ℕ → ℕ → ℕ → Bool
is_strictly_between low high a = nat_lt low a && nat_lt a high

-- the starts and ends of entries
abbrev pub bounds_of : List Fde → List ℕ
bounds_of entries = flat_map (λ f. f.start ∷ f.end ∷ []) entries

-- the greatest number of entries that replace one
abbrev pub pieces_of : List Func → List Block → List ℕ → Fde → ℕ
pieces_of funcs blocks bounds f =
    length (filter (has_inst_in funcs f.start f.end) blocks) + f.rows
    + length (filter (is_strictly_between f.start f.end) bounds)

-- the greatest size in bytes of each of them
abbrev pub size_of : Fde → ℕ
size_of f = 64 + 24 * (f.registers + 1) + f.bytes

-- the need of all entries, with the list of bounds of all entries
abbrev pub entries_need : List Func → List Block → List ℕ → List Fde → ℕ
entries_need funcs blocks bounds entries = sum_by (λ f. pieces_of funcs blocks bounds f * size_of f) entries

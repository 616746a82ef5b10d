-- The moves of a run that a profile counts, and how often each was taken.
use Rattle.std.specs.Prelude.{ℕ, ◌==◌, ◌&&◌, ◌||◌, Bool, false, List, Option, count_by, option_and_then}
use Rattle.std.specs.List.{list_any}
use Rattle.std.specs.Option.{option_map_or}
use Rattle.rv_code.specs.declared.placed.Placed.{Placed}
use Rattle.rv_code.specs.declared.placed.Func.{Func}
use Rattle.rv_code.specs.declared.placed.Block.{Block}
use Rattle.rv_code.specs.layout.Blocks.{inst_at, func_of}
use Rattle.rv_code.specs.layout.Flow.{action_at, is_call}
use Rattle.rv_code.specs.layout.ProgramCode.{is_code_address}
use Rattle.edge_record.specs.Moves.{Move}

-- the last instruction of a block
abbrev pub last_of : List Func → Block → Option Placed
last_of funcs b = option_and_then (λ func. inst_at func b.last) (func_of funcs b)

-- the last instruction of a block starts at an address
abbrev pub ends_at : List Func → ℕ → Block → Bool
ends_at funcs a b = option_map_or (λ p. p.addr == a) (last_of funcs b) false

-- one of these instructions starts at an address and saves a return address
abbrev pub saves_at : List Placed → ℕ → Bool
saves_at insts a = list_any (λ p. p.addr == a && is_call (action_at p)) insts

-- Control may go elsewhere than to the next address: the instruction at this address is the last of a block, or saves a
-- return address.
abbrev pub is_source : List Func → List Block → ℕ → Bool
is_source funcs blocks a = list_any (λ b. ends_at funcs a b) blocks || list_any (λ f. saves_at f.insts.items a) funcs

-- a move from such an instruction to an instruction of a function
abbrev pub is_counted : List Func → List Block → Move → Bool
is_counted funcs blocks m = is_source funcs blocks m.0 && is_code_address funcs m.1

-- the number of moves from one address to another, if such moves are counted
abbrev pub taken_by : (Move → Bool) → List Move → ℕ → ℕ → ℕ
taken_by counts moves from to = count_by (λ m. counts m && (m.0 == from && m.1 == to)) moves

abbrev pub taken : List Func → List Block → List Move → ℕ → ℕ → ℕ
taken funcs blocks moves from to = taken_by (is_counted funcs blocks) moves from to

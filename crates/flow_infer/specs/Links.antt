-- The links of functions: edges, ways in from outside and ways out; and the count of each by a profile.
use Rattle.std.specs.Prelude.{◌≡◌, ◌⊎◌, ◌+◌, ◌<◌, ◌==◌, ◌&&◌, ℕ, Bool, false, not, List, Option, Some, None, IsTrue}
use Rattle.std.specs.Prelude.{IsSomeAnd, Any, Contains, length, map, slice_get, sum_by, if◌then◌else◌}
use Rattle.std.specs.Option.{option_map_or}
use Rattle.rv_code.specs.declared.action.Action.{Action}
use Rattle.rv_code.specs.declared.action.Action.TheVariants.{JumpTo}
use Rattle.rv_code.specs.declared.placed.Placed.{Placed}
use Rattle.rv_code.specs.declared.placed.Func.{Func}
use Rattle.rv_code.specs.declared.placed.Block.{Block}
use Rattle.rv_code.specs.layout.Blocks.{func_of, inst_at, inst_address, block_start, EndsBlock}
use Rattle.rv_code.specs.layout.BlockOrders.{func_of_block}
use Rattle.rv_code.specs.layout.Flow.{action_at, falls_at, is_call, target_of}
use Rattle.rv_code.specs.layout.FunctionMembers.{func_holds}
use Rattle.rv_code.specs.layout.Lists.{ListsAll}
use Rattle.rv_code.specs.layout.ProgramCode.{ProgramCode, IsHeld}
use Rattle.edge_profile.specs.PairCounts.{Counted, count_among}
use Rattle.flow_infer.specs.declared.flow.Link.{Link}

-- the address of a block's last instruction
abbrev pub block_end : List Func → Block → ℕ
block_end funcs b = inst_address funcs b b.last

-- an address is in the function of a block
abbrev pub is_home : List Func → Block → ℕ → Bool
is_home funcs b a = option_map_or (func_holds a) (func_of funcs b) false

-- an indirect jump that saves no return address
abbrev pub is_indirect : Action → Bool
is_indirect (JumpTo rd rs1 imm) = rd == 0
is_indirect _ = false

-- a branch or jump of a function goes to an address outside of it
abbrev pub IsFarTarget : List Func → ℕ → Type 0
IsFarTarget funcs a = Any (λ f. Any (λ p. (target_of p ≡ Some a) × (func_holds a f ≡ false)) f.insts.items) funcs

-- Control can come into a block from outside its function: it is the function's first; or its start is a held address,
-- by a role, a cell or the entry point; or a branch or jump of another function goes there.
pub data IsEntered (code : ProgramCode) (b : Block) : Type 0 where
  at_start : b.first ≡ 0 → IsEntered code b
  by_name : IsHeld code (block_start code.funcs b) → IsEntered code b
  by_jump : IsFarTarget code.funcs (block_start code.funcs b) → IsEntered code b

-- Control can leave a function by its instruction with index i: by an indirect jump, by a branch or jump to another
-- function, by falling through the function's end, or by a call that is the function's last instruction.
pub data LeavesBy (func : Func) (i : ℕ) (p : Placed) : Type 0 where
  by_register : IsTrue (is_indirect (action_at p)) → LeavesBy func i p
  by_jump : EndsBlock p → IsSomeAnd (target_of p) (λ a. func_holds a func ≡ false) → LeavesBy func i p
  falls_out : i + 1 ≡ length func.insts.items → IsTrue (falls_at func i p) → LeavesBy func i p
  calls_out : i + 1 ≡ length func.insts.items → IsTrue (is_call (action_at p)) → LeavesBy func i p

-- control can leave the block's function by the block's last instruction
abbrev pub IsLeft : List Func → Block → Type 0
IsLeft funcs b = IsSomeAnd (func_of funcs b) (λ func. IsSomeAnd (inst_at func b.last) (LeavesBy func b.last))

-- the ends of a link: blocks by their indices, and None for the outside of the function
abbrev pub AreEnds : ProgramCode → List Block → List (ℕ × ℕ) → Option ℕ → Option ℕ → Type 0
AreEnds code blocks edges (Some s) (Some t) = Contains edges (s, t)
AreEnds code blocks edges None (Some b) = IsSomeAnd (slice_get blocks b) (IsEntered code)
AreEnds code blocks edges (Some b) None = IsSomeAnd (slice_get blocks b) (IsLeft code.funcs)
AreEnds code blocks edges None None = ⊥

-- how often a way in or out was taken, from or to any address outside the function
abbrev pub count_into : List Func → List Counted → Block → ℕ
count_into funcs pairs b =
    sum_by (λ p. if p.1 == block_start funcs b && not (is_home funcs b p.0) then p.2 else 0) pairs

abbrev pub count_out_of : List Func → List Counted → Block → ℕ
count_out_of funcs pairs b =
    sum_by (λ p. if p.0 == block_end funcs b && not (is_home funcs b p.1) then p.2 else 0) pairs

abbrev pub count_between : List Func → List Counted → Block → Block → ℕ
count_between funcs pairs s t = count_among (block_end funcs s) (block_start funcs t) pairs

abbrev pub link_count : List Func → List Block → List Counted → Option ℕ → Option ℕ → ℕ
link_count funcs blocks pairs (Some s) (Some t) =
    option_map_or (λ b. option_map_or (count_between funcs pairs b) (slice_get blocks t) 0) (slice_get blocks s) 0
link_count funcs blocks pairs None (Some t) = option_map_or (count_into funcs pairs) (slice_get blocks t) 0
link_count funcs blocks pairs (Some s) None = option_map_or (count_out_of funcs pairs) (slice_get blocks s) 0
link_count funcs blocks pairs None None = 0

-- a link with its count, for any flow
abbrev pub CountedEnds : Type 0
CountedEnds = Option ℕ × Option ℕ × ℕ

abbrev pub counted_ends : Link → CountedEnds
counted_ends l = (l.from, l.to, l.count)

abbrev pub IsLinkOf : ProgramCode → List Block → List (ℕ × ℕ) → List Counted → CountedEnds → Type 0
IsLinkOf code blocks edges pairs e =
    AreEnds code blocks edges e.0 e.1 × (e.2 ≡ link_count code.funcs blocks pairs e.0 e.1)

-- a block at an end of a link
abbrev pub a_block : Option ℕ → Option ℕ → ℕ
a_block (Some k) to = k
a_block None (Some k) = k
a_block None None = 0

abbrev pub func_of_ends : List Block → CountedEnds → ℕ
func_of_ends blocks e = func_of_block blocks (a_block e.0 e.1)

abbrev pub rank : Option ℕ → ℕ
rank None = 0
rank (Some k) = k + 1

-- Links are in order of their functions, then of their starts, then of their ends; the outside comes before blocks.
abbrev pub IsLinkBefore : List Block → CountedEnds → CountedEnds → Type 0
IsLinkBefore blocks d e = (func_of_ends blocks d < func_of_ends blocks e) ⊎
    ((func_of_ends blocks d ≡ func_of_ends blocks e) ×
    ((rank d.0 < rank e.0) ⊎ ((rank d.0 ≡ rank e.0) × (rank d.1 < rank e.1))))

-- all links of functions, in order, each once, with their counts
abbrev pub AreLinks : ProgramCode → List Block → List (ℕ × ℕ) → List Counted → List Link → Type 0
AreLinks code blocks edges pairs links =
    ListsAll (IsLinkOf code blocks edges pairs) (IsLinkBefore blocks) (map counted_ends links)

-- The order of blocks that a profile asks for.
use Rattle.std.specs.Prelude.{ℕ, List, [], ◌∷◌, Option, Some, None, length, count_by, filter_map}
use Rattle.std.specs.List.{range_with_len}
use Rattle.rv_code.specs.declared.cell.CodeCell.{CodeCell}
use Rattle.rv_code.specs.declared.layout.Chains.{Chains}
use Rattle.rv_code.specs.declared.placed.Block.{Block}
use Rattle.rv_code.specs.declared.placed.Func.{Func}
use Rattle.rv_code.specs.layout.Edges.{AreTablePairs, AreEdges}
use Rattle.rv_code.specs.layout.BlockOrders.{list_of}
use Rattle.edge_profile.specs.PairCounts.{Counted, ArePairs, count_in}
use Rattle.edge_profile.specs.Weights.{block_weight, is_hot_block}
use Rattle.block_layout.specs.EdgeCounts.{first_address}
use Rattle.block_layout.specs.Parts.{AreChains}
use Rattle.func_place.specs.Placement.{IsPlacement}
use Rattle.program.specs.Program.{Program}

-- the counts of a profile, from one instruction of the program to another
abbrev pub counts_of : Program → List ℕ → ℕ → ℕ → ℕ
counts_of x profile = count_in profile x.elf x.code.funcs

-- The hot and the cold part of each function: blocks are linked along edges, by counts of pairs of instructions.
pub record ArePartsOf (counts : ℕ → ℕ → ℕ) (pairs : List Counted) (funcs : List Func) (cells : List CodeCell)
    (blocks : List Block) (parts : Chains) : Type 0 where
  pub pairs_are : ArePairs counts pairs
  pub targets : List (ℕ × ℕ)
  pub targets_are : AreTablePairs funcs cells targets
  pub edges : List (ℕ × ℕ)
  pub edges_are : AreEdges funcs cells blocks edges
  pub chains : AreChains counts pairs funcs blocks edges parts

-- the parts that a profile asks for
abbrev pub ArePartsBy : Program → List ℕ → List Counted → Chains → Type 0
ArePartsBy x profile pairs parts = ArePartsOf (counts_of x profile) pairs x.code.funcs x.code.cells x.blocks parts

-- The order of all blocks, each by its index in the list of blocks.
pub record IsProfileOrder (x : Program) (profile : List ℕ) (pairs : List Counted) (parts : Chains)
    (order : List ℕ) : Type 0 where
  pub parts_are : ArePartsBy x profile pairs parts
  pub placed : IsPlacement x.code.funcs x.blocks parts pairs (block_weight pairs x.code.funcs) order

-- the number of hot blocks
abbrev pub hot_count : Program → List Counted → ℕ
hot_count x pairs = count_by (is_hot_block pairs x.code.funcs) x.blocks

-- the address in the input of the first instruction of a function's cold part, if it has a hot and a cold part
abbrev pub cold_start : List Func → List Block → List ℕ → List ℕ → Option ℕ
cold_start funcs blocks [] cold = None
cold_start funcs blocks (h ∷ hs) [] = None
cold_start funcs blocks (h ∷ hs) (c ∷ cs) = Some (first_address funcs blocks c)

-- the starts of the cold parts of all functions
abbrev pub cold_starts : List Func → List Block → Chains → List ℕ
cold_starts funcs blocks parts =
    filter_map (λ f. cold_start funcs blocks (list_of parts.hot.items f) (list_of parts.cold.items f))
    (range_with_len 0 (length funcs))

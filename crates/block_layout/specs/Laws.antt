-- The laws of chains, as statements about all blocks, edges and counts.
use Rattle.std.specs.Prelude.{◌≡◌, ℕ, List, Vec, map}
use Rattle.std.specs.declared.alloc.Global.{Global}
use Rattle.rv_code.specs.declared.placed.Func.{Func}
use Rattle.rv_code.specs.declared.placed.Block.{Block}
use Rattle.rv_code.specs.declared.layout.Chains.{Chains}
use Rattle.edge_profile.specs.PairCounts.{Counted}
use Rattle.block_layout.specs.Links.{Links, AreLinks}
use Rattle.block_layout.specs.Parts.{IsFirstBlock, AreChains}

-- Edges and their counts determine the links: at most one choice of neighbours satisfies AreLinks.
abbrev pub LinksLaw : Type 0
LinksLaw = (blocks : List Block) (edges : List (ℕ × ℕ)) (count : ℕ × ℕ → ℕ) (p q : Links) →
    AreLinks edges count (IsFirstBlock blocks) p → AreLinks edges count (IsFirstBlock blocks) q → p ≡ q

-- the lists of blocks, one for each function
abbrev pub items_of : List (Vec ℕ Global) → List (List ℕ)
items_of lists = map (λ list. list.items) lists

-- A profile determines the parts: at most one choice of hot and cold blocks and of their order satisfies AreChains.
abbrev pub PartsLaw : Type 0
PartsLaw =
    (counts : ℕ → ℕ → ℕ) (pairs : List Counted) (funcs : List Func) (blocks : List Block) (edges : List (ℕ × ℕ))
    (p q : Chains) →
    AreChains counts pairs funcs blocks edges p → AreChains counts pairs funcs blocks edges q →
    (items_of p.hot.items ≡ items_of q.hot.items) × (items_of p.cold.items ≡ items_of q.cold.items)

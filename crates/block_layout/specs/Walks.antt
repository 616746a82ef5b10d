-- Links between blocks of the same function, and their chains.
use Rattle.std.specs.Prelude.{◌≡◌, ◌<◌, ◌≤◌, ◌++◌, ℕ, List, Some, AllPairs, Contains, flat_map, length, map, ◌⊎◌}
use Rattle.rv_code.specs.declared.placed.Block.{Block}
use Rattle.block_layout.specs.FirstLinks.{told}
use Rattle.block_layout.specs.Links.{Links, IsChain}
use Rattle.block_layout.specs.Parts.{Chain, IsOf, greatest}
use Rattle.block_layout.specs.declared.links.ChainLinks.{ChainLinks}
use Rattle.block_layout.specs.declared.hot_chains.HotChain.{HotChain}

abbrev pub links_of : ChainLinks → Links
links_of links = told links.next.items links.prev.items

-- links between the first n blocks, and prev is the inverse of next
pub record AreBetween (n : ℕ) (p : Links) : Type 0 where
  pub inside : (s t : ℕ) → p.next s ≡ Some t → (s < n) × (t < n)
  pub back : (s t : ℕ) → p.next s ≡ Some t → p.prev t ≡ Some s

-- links between blocks, in the lists of the code
pub record AreKept (links : ChainLinks) : Type 0 where
  pub lengths : length links.prev.items ≡ length links.next.items
  pub between : AreBetween (length links.next.items) (links_of links)

-- links lead to blocks of the same function
abbrev pub AreInner : List Block → Links → Type 0
AreInner blocks p = (s t f : ℕ) → p.next s ≡ Some t → IsOf blocks f s → IsOf blocks f t

-- the blocks of the function f are exactly those from `start` to before `end`
pub record AreFrom (blocks : List Block) (f start end : ℕ) : Type 0 where
  pub up_to : end ≤ length blocks
  pub inside : (k : ℕ) → start ≤ k → k < end → IsOf blocks f k
  pub all : (k : ℕ) → IsOf blocks f k → (start ≤ k) × (k < end)

-- the chain that a HotChain represents
abbrev pub chain_of : HotChain → Chain
chain_of c = (c.head, c.blocks.items)

-- a hot chain that begins after `start` and before `end`, with its greatest weight
pub record IsHotBetween (p : Links) (weight : ℕ → ℕ) (start end : ℕ) (c : HotChain) : Type 0 where
  pub after : start < c.head
  pub before : c.head < end
  pub chain : IsChain p c.head c.blocks.items
  pub weight_is : c.weight ≡ greatest weight c.blocks.items
  pub hot : 0 < c.weight

abbrev pub chain_heads : List HotChain → List ℕ
chain_heads chains = map (λ c. c.head) chains

-- all such chains, each once
pub record AreHotBetween (p : Links) (weight : ℕ → ℕ) (start end : ℕ) (chains : List HotChain) : Type 0 where
  pub only : (c : HotChain) → Contains chains c → IsHotBetween p weight start end c
  pub each : (h : ℕ) (xs : List ℕ) → start < h → h < end → IsChain p h xs → 0 < greatest weight xs →
      Contains (chain_heads chains) h
  pub apart : AllPairs (λ c d. (c.head ≡ d.head) → ⊥) chains

-- a chain doesn't come after another
abbrev pub IsUpTo : HotChain → HotChain → Type 0
IsUpTo c d = (d.weight < c.weight) ⊎ ((c.weight ≡ d.weight) × (c.head ≤ d.head))

-- the chain of the first block, and then the hot chains in their order
pub record IsHotList (p : Links) (weight : ℕ → ℕ) (start end : ℕ) (part : List ℕ) : Type 0 where
  pub first : List ℕ
  pub others : List HotChain
  pub part_is : part ≡ first ++ flat_map (λ c. c.blocks.items) others
  pub first_is : IsChain p start first
  pub chains : AreHotBetween p weight start end others
  pub sorted : AllPairs IsUpTo others

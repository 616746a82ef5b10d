-- The data from which the links of functions are found.
use Rattle.std.specs.Prelude.{◌≡◌, ◌≢◌, ◌⊎◌, ◌↔◌, ◌<◌, ◌≤◌, ◌^◌, ℕ, List, All, AllPairs, Contains}
use Rattle.std.specs.Prelude.{IsPermutation, Option, length, map, option_map}
use Rattle.std.specs.List.Sorted.{IsNonDecreasingBy}
use Rattle.rv_code.specs.declared.placed.Block.{Block}
use Rattle.rv_code.specs.layout.BlockOrders.{func_of_block}
use Rattle.rv_code.specs.layout.Lists.{IsPairBefore, ListsAll}
use Rattle.rv_code.specs.layout.ProgramCode.{ProgramCode, IsHeld}
use Rattle.edge_profile.specs.PairCounts.{Counted, total_count}
use Rattle.cfg_build.specs.EdgeLists.{AreStretches}
use Rattle.edge_profile.specs.Profile.{pairs_of}
use Rattle.flow_infer.specs.declared.flow.Link.{Link}
use Rattle.flow_infer.specs.declared.source.Source.{Source}
use Rattle.flow_infer.specs.Links.{CountedEnds, IsFarTarget, IsLinkBefore, IsLinkOf, a_block, counted_ends, rank}

-- edges in order, each between blocks of one function
pub record JoinBlocks (blocks : List Block) (edges : List (ℕ × ℕ)) : Type 0 where
  pub ordered : AllPairs IsPairBefore edges
  pub within : All (λ e. (e.0 < length blocks) × (e.1 < length blocks)) edges
  pub one_function : All (λ e. func_of_block blocks e.0 ≡ func_of_block blocks e.1) edges

-- a pair with its end first
abbrev pub turned : Counted → Counted
turned p = (p.1, p.0, p.2)

-- pairs ascend by their first addresses, and the sum of their counts is below 2 ^ 100
pub record AreLookedUp (pairs : List Counted) : Type 0 where
  pub ordered : IsNonDecreasingBy (λ p. p.0) pairs
  pub few : total_count pairs < 2 ^ 100

-- the addresses at which control comes into functions from outside: they are held, or a branch or jump of another
-- function goes there
abbrev pub AreEntries : ProgramCode → List ℕ → Type 0
AreEntries code entries = (a : ℕ) → Contains entries a ↔ (IsHeld code a ⊎ IsFarTarget code.funcs a)

pub record AreSources (s : Source) : Type 0 where
  pub stretches : AreStretches s.funcs.now s.blocks.now
  pub joined : JoinBlocks s.blocks.now s.edges.now
  pub ascending : IsNonDecreasingBy (λ a. a) s.entries.now
  pub pairs : s.pairs.now ≡ pairs_of s.profile.now
  pub departing : AreLookedUp s.pairs.now
  pub arriving : AreLookedUp s.ends.now
  pub permuted : IsPermutation (map turned s.pairs.now) s.ends.now

-- the data is from this code
pub record IsCodeOf (code : ProgramCode) (s : Source) : Type 0 where
  pub funcs : code.funcs ≡ s.funcs.now
  pub entries : AreEntries code s.entries.now

abbrev pub IsLinkIn : ProgramCode → Source → CountedEnds → Type 0
IsLinkIn code s e = IsLinkOf code s.blocks.now s.edges.now s.pairs.now e

-- the blocks of a function are exactly those from `first` to before `end`
pub record IsFunctionRange (blocks : List Block) (first end : ℕ) : Type 0 where
  pub some : first < end
  pub within : end ≤ length blocks
  pub one : (k : ℕ) → first ≤ k → k < end → func_of_block blocks k ≡ func_of_block blocks first
  pub all : (k : ℕ) → k < length blocks → func_of_block blocks k ≡ func_of_block blocks first → (first ≤ k) × (k < end)

-- the ends of a link come before the ends with the ranks r and q
abbrev pub IsBelow : ℕ → ℕ → CountedEnds → Type 0
IsBelow r q e = (rank e.0 < r) ⊎ ((rank e.0 ≡ r) × (rank e.1 < q))

-- The links of the blocks from `first` to before `end`, and of these the ones that come before the ranks r and q.
pub record IsLinkWithin (code : ProgramCode) (s : Source) (first end : ℕ) (e : CountedEnds) : Type 0 where
  pub link : IsLinkIn code s e
  pub from : first ≤ a_block e.0 e.1
  pub to : a_block e.0 e.1 < end

abbrev pub IsLinkUpto : ProgramCode → Source → ℕ → ℕ → ℕ → ℕ → CountedEnds → Type 0
IsLinkUpto code s first end r q e = IsLinkWithin code s first end e × IsBelow r q e

-- the list has exactly these links, in order
abbrev pub AreLinksUpto : Source → ℕ → ℕ → ℕ → ℕ → List Link → Type 0
AreLinksUpto s first end r q links = (code : ProgramCode) → IsCodeOf code s →
    ListsAll (IsLinkUpto code s first end r q) (IsLinkBefore s.blocks.now) (map counted_ends links)

abbrev pub AreLinksWithin : Source → ℕ → ℕ → List Link → Type 0
AreLinksWithin s first end links = (code : ProgramCode) → IsCodeOf code s →
    ListsAll (IsLinkWithin code s first end) (IsLinkBefore s.blocks.now) (map counted_ends links)

-- a link with its count as flow, if there is a count
abbrev pub link_if : Option ℕ → Option ℕ → Option ℕ → Option Link
link_if from to count = option_map (λ c. record { from = from; to = to; count = c; flow = c }) count

-- The blocks from `first` to before `end` are in one function, and the block at `end`, if there is one, is in another.
pub record IsFunctionFrom (blocks : List Block) (first end : ℕ) : Type 0 where
  pub some : first < end
  pub within : end ≤ length blocks
  pub same : (k : ℕ) → first ≤ k → k < end → func_of_block blocks k ≡ func_of_block blocks first
  pub next : end < length blocks → func_of_block blocks end ≢ func_of_block blocks first

-- no function has blocks on both sides of an index
abbrev pub PartsFunctions : List Block → ℕ → Type 0
PartsFunctions blocks place =
    (j k : ℕ) → j < place → place ≤ k → k < length blocks → func_of_block blocks j < func_of_block blocks k

-- Lists of blocks, links and pairs of instructions, as they are when flows are found.
use Rattle.std.specs.Prelude.{ℕ, ◌<◌, List, Option, All, AllPairs, IfSome, length, map}
use Rattle.rv_code.specs.declared.placed.Func.{Func}
use Rattle.rv_code.specs.declared.placed.Block.{Block}
use Rattle.cfg_build.specs.EdgeLists.{AreStretches}
use Rattle.edge_profile.specs.BlockPlaces.{AreBlocksApart}
use Rattle.edge_profile.specs.PairCounts.{Counted, IsCountedBefore}
use Rattle.edge_text.specs.EdgeText.{HasCodeEnds}
use Rattle.flow_infer.specs.declared.flow.Link.{Link}
use Rattle.flow_infer.specs.Links.{IsLinkBefore, counted_ends}

-- blocks of functions in order, which don't overlap
pub record AreBlocksOf (funcs : List Func) (blocks : List Block) : Type 0 where
  pub stretches : AreStretches funcs blocks
  pub apart : AreBlocksApart blocks

-- the ends of a link are blocks of a list, or the outside
abbrev pub IsPlaceIn : List Block → Option ℕ → Type 0
IsPlaceIn blocks end = IfSome end (λ k. k < length blocks)

pub record IsBetween (blocks : List Block) (l : Link) : Type 0 where
  pub from : IsPlaceIn blocks l.from
  pub to : IsPlaceIn blocks l.to

-- links between blocks of a list, in order
pub record AreLinksOf (blocks : List Block) (links : List Link) : Type 0 where
  pub inside : All (IsBetween blocks) links
  pub ordered : AllPairs (IsLinkBefore blocks) (map counted_ends links)

-- pairs of instructions with positive counts, in order
pub record AreCodePairs (funcs : List Func) (pairs : List Counted) : Type 0 where
  pub positive : All (λ p. 0 < p.2) pairs
  pub ordered : AllPairs IsCountedBefore pairs
  pub coded : All (HasCodeEnds funcs) pairs

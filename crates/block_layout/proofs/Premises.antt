-- Properties of a program's blocks and edges: the premises of `chains`.
use Rattle.std.proofs.Common.{◌≡◌, ℕ, List, Option, Some, None, get_or, All, AllPairs}
use Rattle.std.specs.Prelude.{IsSomeAnd, slice_get}
use Rattle.std.proofs.lemmas.List.Elements.{Contains-get_or}
use Rattle.rv_code.specs.declared.placed.Func.{Func}
use Rattle.rv_code.specs.declared.placed.Block.{Block}
use Rattle.rv_code.specs.declared.cell.CodeCell.{CodeCell}
use Rattle.rv_code.specs.layout.Edges.{AreEdges, IsEdge}
use Rattle.rv_code.specs.layout.Lists.{IsPairBefore}
use Rattle.block_layout.specs.EdgeLists.{IsInner}

pub IsInner-edges : (funcs : List Func) (cells : List CodeCell) (blocks : List Block) (edges : List (ℕ × ℕ))
    → AreEdges funcs cells blocks edges → All (IsInner blocks) edges
IsInner-edges funcs cells blocks edges are k d within =
    at (slice_get blocks e.0) (slice_get blocks e.1) (are.only e (Contains-get_or edges k d within))
  where
    e : ℕ × ℕ
    e = get_or edges k d

    at : (s t : Option Block) → IsSomeAnd s (λ b. IsSomeAnd t (λ c. IsEdge funcs cells b c)) →
        IsSomeAnd s (λ b. IsSomeAnd t (λ c. b.func ≡ c.func))
    at None t is = is
    at (Some b) None is = is
    at (Some b) (Some c) is = is.one_function

pub ordered-edges : (funcs : List Func) (cells : List CodeCell) (blocks : List Block) (edges : List (ℕ × ℕ))
    → AreEdges funcs cells blocks edges → AllPairs IsPairBefore edges
ordered-edges funcs cells blocks edges are = are.ordered

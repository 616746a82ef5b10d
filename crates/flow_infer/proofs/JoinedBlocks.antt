-- Edges that were found meet the preconditions of `repair`.
use Rattle.std.proofs.Common.{◌≡◌, ◌∙◌, sym, ap, refl, ℕ, ◌<◌, List, Option, Some, None, length}
use Rattle.std.specs.Prelude.{IsSomeAnd, slice_get}
use Rattle.std.specs.Option.{option_map_or}
use Rattle.std.proofs.lemmas.Option.{slice_get_within}
use Rattle.rv_code.specs.declared.cell.CodeCell.{CodeCell}
use Rattle.rv_code.specs.declared.placed.Block.{Block}
use Rattle.rv_code.specs.declared.placed.Func.{Func}
use Rattle.rv_code.specs.layout.BlockOrders.{func_of_block}
use Rattle.rv_code.specs.layout.Edges.{AreEdges, IsEdge}
use Rattle.rb_bytes.proofs.ListLemmas.{all_of}
use Rattle.flow_infer.specs.Sources.{JoinBlocks}

-- The edges between blocks of functions join blocks of one function each.
pub edges_join : (funcs : List Func) (cells : List CodeCell) (blocks : List Block) (edges : List (ℕ × ℕ)) →
    AreEdges funcs cells blocks edges → JoinBlocks blocks edges
edges_join funcs cells blocks edges are = record {
  ordered = are.ordered;
  within = all_of (λ e. (e.0 < length blocks) × (e.1 < length blocks)) edges
      (λ e is_in. inside e (slice_get blocks e.0) (slice_get blocks e.1) refl refl (are.only e is_in));
  one_function = all_of (λ e. func_of_block blocks e.0 ≡ func_of_block blocks e.1) edges
      (λ e is_in. same e (slice_get blocks e.0) (slice_get blocks e.1) refl refl (are.only e is_in));
}
  where
    inside : (e : ℕ × ℕ) (s t : Option Block) → slice_get blocks e.0 ≡ s → slice_get blocks e.1 ≡ t →
        IsSomeAnd s (λ b. IsSomeAnd t (λ c. IsEdge funcs cells b c)) → (e.0 < length blocks) × (e.1 < length blocks)
    inside e None t from to edge = absurd edge
    inside e (Some b) None from to edge = absurd edge
    inside e (Some b) (Some c) from to edge = (slice_get_within blocks e.0 b from, slice_get_within blocks e.1 c to)

    same : (e : ℕ × ℕ) (s t : Option Block) → slice_get blocks e.0 ≡ s → slice_get blocks e.1 ≡ t →
        IsSomeAnd s (λ b. IsSomeAnd t (λ c. IsEdge funcs cells b c)) → func_of_block blocks e.0 ≡ func_of_block blocks e.1
    same e None t from to edge = absurd edge
    same e (Some b) None from to edge = absurd edge
    same e (Some b) (Some c) from to edge =
        ap (λ (o : Option Block). option_map_or (λ (d : Block). d.func) o 0) from ∙ edge.one_function
        ∙ sym (ap (λ (o : Option Block). option_map_or (λ (d : Block). d.func) o 0) to)

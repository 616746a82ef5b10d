-- Lists of edges with their counts.
use Rattle.std.specs.Prelude.{◌≡◌, ◌⊎◌, ◌<◌, ◌≤◌, ℕ, List, Contains, IsSomeAnd, slice_get}
use Rattle.rv_code.specs.declared.placed.Block.{Block}
use Rattle.block_layout.specs.declared.edge_counts.Edge.{Edge}

-- an edge is between two of the first n blocks
abbrev pub IsWithin : ℕ → ℕ × ℕ → Type 0
IsWithin n e = (e.0 < n) × (e.1 < n)

-- an edge is between two blocks of one function
abbrev pub IsInner : List Block → ℕ × ℕ → Type 0
IsInner blocks e = IsSomeAnd (slice_get blocks e.0) (λ s. IsSomeAnd (slice_get blocks e.1) (λ t. s.func ≡ t.func))

-- an edge isn't considered after another
abbrev pub IsKeyBefore : Edge → Edge → Type 0
IsKeyBefore e f = (f.count < e.count) ⊎ ((e.count ≡ f.count)
    × ((e.from < f.from) ⊎ ((e.from ≡ f.from) × (e.to ≤ f.to))))

-- two edges have different sources or different targets
abbrev pub HaveOtherEnds : Edge → Edge → Type 0
HaveOtherEnds e f = (e.from ≡ f.from) × (e.to ≡ f.to) → ⊥

-- all edges with positive counts
pub record AreCounted (count : ℕ × ℕ → ℕ) (edges : List (ℕ × ℕ)) (taken : List Edge) : Type 0 where
  pub only : (e : Edge) → Contains taken e → Contains edges (e.from, e.to) × (0 < e.count)
      × (count (e.from, e.to) ≡ e.count)
  pub each : (s t : ℕ) → Contains edges (s, t) → 0 < count (s, t) →
      Contains taken (record { from = s; to = t; count = count (s, t) })

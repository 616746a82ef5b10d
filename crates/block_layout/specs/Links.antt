-- Chains of blocks: which block follows which. Edges are considered in their order, and each links two blocks, unless a
-- link of an earlier edge prevents this. (K. Pettis and R. C. Hansen, "Profile Guided Code Positioning", PLDI 1990.)
use Rattle.std.specs.Prelude.{◌≡◌, ◌⊎◌, ◌+◌, ◌-◌, ◌<◌, ℕ, List, Option, Some, None, Contains, length, slice_index}
use Rattle.block_layout.specs.EdgeCounts.{IsEarlier}

-- the block that follows each block in its chain, and the one that precedes it
pub record Links : Type 0 where
  pub next : ℕ → Option ℕ
  pub prev : ℕ → Option ℕ

module _ (count : ℕ × ℕ → ℕ) (links : Links) where
  -- y follows x, by an edge that is earlier than the edge e
  pub record IsLinkedBefore (e : ℕ × ℕ) (x y : ℕ) : Type 0 where
    pub next : links.next x ≡ Some y
    pub earlier : IsEarlier count (x, y) e

  -- links of edges that are earlier than e lead from one block to another
  pub data LeadBefore (e : ℕ × ℕ) : ℕ → ℕ → Type 0 where
    at_once : {x : ℕ} → LeadBefore e x x
    on : {x y z : ℕ} → LeadBefore e x y → IsLinkedBefore e y z → LeadBefore e x z

  -- why an edge makes no link: an earlier edge links its source or its target, its target is the first block of a
  -- function, or its target begins a chain, made by earlier edges, that ends with its source
  pub data IsLeftOut (IsFirst : ℕ → Type 0) (s t : ℕ) : Type 0 where
    source_taken : (u : ℕ) → IsLinkedBefore (s, t) s u → IsLeftOut IsFirst s t
    target_taken : (u : ℕ) → IsLinkedBefore (s, t) u t → IsLeftOut IsFirst s t
    first_block : IsFirst t → IsLeftOut IsFirst s t
    closes : LeadBefore (s, t) t s → IsLeftOut IsFirst s t

-- the chain that begins with block h: each block follows the one before it, and none follows the last
pub record IsChain (links : Links) (h : ℕ) (chain : List ℕ) : Type 0 where
  pub some : 0 < length chain
  pub begins : slice_index chain 0 ≡ h
  pub first : links.prev h ≡ None
  pub follows : (k : ℕ) → k + 1 < length chain → links.next (slice_index chain k) ≡ Some (slice_index chain (k + 1))
  pub ends : links.next (slice_index chain (length chain - 1)) ≡ None

-- links lead from one block to another
pub data Lead (links : Links) : ℕ → ℕ → Type 0 where
  stays : {x : ℕ} → Lead links x x
  goes : {x y z : ℕ} → Lead links x y → links.next y ≡ Some z → Lead links x z

-- the links that the edges with positive counts make
pub record AreLinks (edges : List (ℕ × ℕ)) (count : ℕ × ℕ → ℕ) (IsFirst : ℕ → Type 0) (links : Links) : Type 0 where
  pub only : (s t : ℕ) → links.next s ≡ Some t → Contains edges (s, t) × (0 < count (s, t))
  pub each : (s t : ℕ) → Contains edges (s, t) → 0 < count (s, t) →
      (links.next s ≡ Some t) ⊎ IsLeftOut count links IsFirst s t
  pub back : (s t : ℕ) → links.next s ≡ Some t → links.prev t ≡ Some s
  pub forth : (s t : ℕ) → links.prev t ≡ Some s → links.next s ≡ Some t
  pub first : (t : ℕ) → IsFirst t → links.prev t ≡ None
  -- links form no cycle
  pub whole : (x : ℕ) → (h : ℕ) × (links.prev h ≡ None) × Lead links h x

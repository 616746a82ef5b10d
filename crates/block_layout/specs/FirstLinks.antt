-- The links that the first k edges make, and the ends of chains that are kept with them.
use Rattle.std.specs.Prelude.{ℕ, ◌≡◌, ◌<◌, ◌⊎◌, List, Option, Some, None, length, slice_index_or}
use Rattle.block_layout.specs.Links.{Links}
use Rattle.block_layout.specs.declared.edge_counts.Edge.{Edge}

-- the source and the target of the edge with index i
abbrev pub ends_of_edge : List Edge → ℕ → ℕ × ℕ
ends_of_edge edges i = let e = slice_index_or edges i (record { from = 0; to = 0; count = 0 }) in (e.from, e.to)

-- the edge with index i goes from s to t
abbrev pub IsEdgeNumber : List Edge → ℕ → ℕ → ℕ → Type 0
IsEdgeNumber es i s t = (i < length es) × (ends_of_edge es i ≡ (s, t))

-- s and t are linked by one of the first k edges
pub record Taken (es : List Edge) (p : Links) (k s t : ℕ) : Type 0 where
  pub joined : p.next s ≡ Some t
  pub by : (j : ℕ) × (j < k) × IsEdgeNumber es j s t

-- links by the first k edges lead from one block to another
pub data LinksLead (es : List Edge) (p : Links) (k : ℕ) : ℕ → ℕ → Type 0 where
  stays : {x : ℕ} → LinksLead es p k x x
  goes : {x y z : ℕ} → LinksLead es p k x y → Taken es p k y z → LinksLead es p k x z

-- why the edge with index i, from s to t, makes no link
pub data Refused (es : List Edge) (p : Links) (IsFirst : ℕ → Type 0) (i s t : ℕ) : Type 0 where
  source_taken : (u : ℕ) → Taken es p i s u → Refused es p IsFirst i s t
  target_taken : (u : ℕ) → Taken es p i u t → Refused es p IsFirst i s t
  first_block : IsFirst t → Refused es p IsFirst i s t
  closes : LinksLead es p i t s → Refused es p IsFirst i s t

-- the links that the first k edges make of n blocks
pub record IsLinked (es : List Edge) (n : ℕ) (IsFirst : ℕ → Type 0) (k : ℕ) (p : Links) : Type 0 where
  pub each : (i s t : ℕ) → i < k → IsEdgeNumber es i s t → (p.next s ≡ Some t) ⊎ Refused es p IsFirst i s t
  pub only : (s t : ℕ) → p.next s ≡ Some t → Taken es p k s t
  pub back : (s t : ℕ) → p.next s ≡ Some t → p.prev t ≡ Some s
  pub forth : (s t : ℕ) → p.prev t ≡ Some s → p.next s ≡ Some t
  pub free : (t : ℕ) → IsFirst t → p.prev t ≡ None
  pub whole : (x : ℕ) → x < n → (h : ℕ) × (h < n) × (p.prev h ≡ None) × LinksLead es p k h x

-- the links that two lists of neighbours represent
abbrev pub told : List (Option ℕ) → List (Option ℕ) → Links
told next prev = record { next = λ x. slice_index_or next x None; prev = λ x. slice_index_or prev x None }

-- head gives the first block of a chain by its last one, and tail gives the last block of a chain by its first one
pub record KnowsEnds (es : List Edge) (n k : ℕ) (p : Links) (head tail : ℕ → ℕ) : Type 0 where
  pub inside : (x : ℕ) → x < n → (head x < n) × (tail x < n)
  pub ends : (e : ℕ) → e < n → p.next e ≡ None → (p.prev (head e) ≡ None) × (tail (head e) ≡ e)
      × LinksLead es p k (head e) e
  pub starts : (h : ℕ) → h < n → p.prev h ≡ None → (p.next (tail h) ≡ None) × (head (tail h) ≡ h)

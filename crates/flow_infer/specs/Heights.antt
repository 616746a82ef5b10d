-- Heights of the nodes of one function, with which its flows are found: prices from 0 up, including one for the
-- outside.
use Rattle.std.specs.Prelude.{◌≡◌, ◌+◌, ◌-◌, ◌*◌, ◌/◌, ◌%◌, ◌^◌, ◌<◌, ◌≤◌, ℕ, List, Option, Some, None, All, IfSome, length}
use Rattle.std.specs.Prelude.{slice_index, slice_index_or, ℤ, pos, ◌-ℤ◌, ◌≤ℤ◌, Vec}
use Rattle.std.specs.declared.alloc.Global.{Global}
use Rattle.std.specs.declared.cmp.Reverse.{Reverse}
use Rattle.flow_infer.specs.declared.flow.Link.{Link}
use Rattle.flow_infer.specs.declared.direction.Direction.{Direction}
use Rattle.flow_infer.specs.declared.direction.Direction.TheVariants.{Along, Against}
use Rattle.flow_infer.specs.declared.arcs.Arc.{Arc}
use Rattle.flow_infer.specs.Flows.{AllHold, AreSameLinks, Balances, gain, inflow, outflow}

-- The nodes are numbered from 0, which is the outside; the block at `first` is node 1.
abbrev pub node_of : ℕ → Option ℕ → ℕ
node_of first None = 0
node_of first (Some k) = k - first + 1

-- an end of a link is one of the first `nodes` nodes
abbrev pub IsNodeBelow : ℕ → ℕ → Option ℕ → Type 0
IsNodeBelow first nodes end = IfSome end (λ k. (first ≤ k) × (k - first + 1 < nodes))

pub record IsAmong (first nodes : ℕ) (l : Link) : Type 0 where
  pub from : IsNodeBelow first nodes l.from
  pub to : IsNodeBelow first nodes l.to

abbrev pub AreAmong : ℕ → ℕ → List Link → Type 0
AreAmong first nodes links = All (IsAmong first nodes) links

-- The costs of raising a count by one, and of lowering it by one. A flow with the least cost has the least change, and
-- among such flows it lowers counts least.
abbrev pub raise_cost : ℕ
raise_cost = 2 ^ 32

abbrev pub lower_cost : ℕ
lower_cost = 2 ^ 32 + 1

-- The heights a of a link's start and b of its end are prices that hold, for these costs of raising and lowering a
-- count.
pub record HoldsFor (raise lower a b : ℕ) (l : Link) : Type 0 where
  pub most : b ≤ a + raise
  pub above : l.count < l.flow → b ≡ a + raise
  pub below : l.flow < l.count → 0 < l.flow → b + lower ≡ a
  pub unused : l.flow ≡ 0 → 0 < l.count → b + lower ≤ a
  pub kept : l.flow ≡ l.count → 0 < l.flow → a ≤ b + lower

abbrev pub HoldsBetween : ℕ → ℕ → Link → Type 0
HoldsBetween a b l = HoldsFor raise_cost lower_cost a b l

-- the number of a node, for example its height
abbrev pub at_node : List ℕ → ℕ → Option ℕ → ℕ
at_node numbers first end = slice_index numbers (node_of first end)

abbrev pub HoldsBy : List ℕ → ℕ → Link → Type 0
HoldsBy heights first l = HoldsBetween (at_node heights first l.from) (at_node heights first l.to) l

abbrev pub AllHoldBy : List ℕ → ℕ → List Link → Type 0
AllHoldBy heights first links = All (HoldsBy heights first) links

-- The end of a link may rise by `slack` more than its start, and prices still hold; or its start more than its end.
pub record EndMayRise (a b slack : ℕ) (l : Link) : Type 0 where
  pub most : b + slack ≤ a + raise_cost
  pub below : l.flow < l.count → b + slack + lower_cost ≤ a

pub record StartMayRise (a b slack : ℕ) (l : Link) : Type 0 where
  pub above : l.count < l.flow → a + slack + raise_cost ≤ b
  pub kept : 0 < l.flow → a + slack ≤ b + lower_cost

-- the height of a node at a distance after a step: it rises by the step minus the distance, if this is positive
abbrev pub raised : ℕ → ℕ → ℕ → ℕ
raised step distance h = h + (step - distance)

-- Prices still hold at a link after a step, for nodes at these distances.
abbrev pub HoldsRaised : List ℕ → ℕ → List ℕ → ℕ → Link → Type 0
HoldsRaised heights first distances step l = HoldsBetween
    (raised step (at_node distances first l.from) (at_node heights first l.from))
    (raised step (at_node distances first l.to) (at_node heights first l.to)) l

-- the opposite direction
abbrev pub reversed : Direction → Direction
reversed Along = Against
reversed Against = Along

-- a link with d more flow in a direction
abbrev pub flowing : Direction → ℕ → Link → Link
flowing Along d l = record l { flow = l.flow + d }
flowing Against d l = record l { flow = l.flow - d }

-- The state of a search for flows: links between the nodes, and a height for each node; the heights are prices that
-- hold.
pub record IsSteady (heights : List ℕ) (first nodes : ℕ) (links : List Link) : Type 0 where
  pub some : 0 < nodes
  pub tall : length heights ≡ nodes
  pub among : AreAmong first nodes links
  pub holds : AllHoldBy heights first links

-- the state after flow was moved on some links
pub record HasMoved (heights : List ℕ) (first nodes : ℕ) (old new : List Link) : Type 0 where
  pub steady : IsSteady heights first nodes new
  pub same : AreSameLinks old new

-- the inflow of each block of the function equals its outflow
abbrev pub BalancesWithin : ℕ → ℕ → List Link → Type 0
BalancesWithin first nodes links = (k : ℕ) → k + 1 < nodes → inflow links (first + k) ≡ outflow links (first + k)

-- An arc belongs to one of the first `links` links, and leads to one of the first `nodes` nodes.
abbrev pub IsArcOf : ℕ → ℕ → Arc → Type 0
IsArcOf links nodes a = (a.link < links) × (a.head < nodes)

abbrev pub AreArcs : ℕ → ℕ → List (Vec Arc Global) → Type 0
AreArcs links nodes around = All (λ arcs. All (IsArcOf links nodes) arcs.items) around

-- the queue's items are among the first `nodes` nodes
abbrev pub AreNodes : ℕ → List (Reverse ℕ × ℕ) → Type 0
AreNodes nodes queued = All (λ e. e.1 < nodes) queued

-- A height adds up the costs of one way or of several: multiples of 2 ^ 32, plus or minus 1 for each lowered count on
-- them. The level is the multiple, rounded; and the rest is small, as it is if the ways have fewer than 2 ^ 30 links
-- together.
abbrev pub level : ℕ → ℕ
level h = (h + 2 ^ 31) / 2 ^ 32

abbrev pub IsLevel : ℕ → Type 0
IsLevel h = (2 ^ 30 < (h + 2 ^ 31) % 2 ^ 32) × ((h + 2 ^ 31) % 2 ^ 32 < 3 * 2 ^ 30)

abbrev pub AreLevel : List ℕ → Type 0
AreLevel heights = (n : ℕ) → n < length heights → IsLevel (slice_index heights n)

-- The price of each block of a function is its level minus the level of the outside.
abbrev pub ArePricesBy : List ℕ → List ℤ → Type 0
ArePricesBy heights prices =
    (k : ℕ) → k + 1 < length heights →
    slice_index_or prices k (pos 0) ≡ pos (level (slice_index heights (k + 1))) -ℤ pos (level (slice_index heights 0))

-- Prices of blocks that hold, for these costs of raising and lowering a count by one. If both cost 1, they are prices
-- of a repaired profile.
pub record HoldsAt (raise lower : ℕ) (prices : List ℤ) (l : Link) : Type 0 where
  pub most : gain prices l ≤ℤ pos raise
  pub above : l.count < l.flow → gain prices l ≡ pos raise
  pub below : l.flow < l.count → 0 < l.flow → gain prices l ≡ (pos 0 -ℤ pos lower)
  pub unused : l.flow ≡ 0 → 0 < l.count → gain prices l ≤ℤ (pos 0 -ℤ pos lower)
  pub kept : l.flow ≡ l.count → 0 < l.flow → (pos 0 -ℤ pos lower) ≤ℤ gain prices l

-- The links of the first functions, and the prices of their blocks: the flow balances, the prices hold, and there are
-- prices that hold for the costs of raising and lowering.
pub record IsSettled (links : List Link) (prices : List ℤ) : Type 0 where
  pub balances : Balances links
  pub hold : AllHold prices links
  pub costs : (weights : List ℤ) × (length weights ≡ length prices) × All (HoldsAt raise_cost lower_cost weights) links
  pub among : AreAmong 0 (length prices + 1) links

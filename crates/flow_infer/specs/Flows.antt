-- Flows on links: balance, how much they change and lower the counts, and prices that show that no balancing flow
-- changes less.
use Rattle.std.specs.Prelude.{◌≡◌, ◌+◌, ◌-◌, ◌<◌, ◌≤◌, ◌==◌, ℕ, ℤ, pos, negsuc, ◌-ℤ◌, ◌≤ℤ◌, Bool, false, List, Option, Some}
use Rattle.std.specs.Prelude.{None, All, map, sum_by, slice_index_or, if◌then◌else◌}
use Rattle.flow_infer.specs.declared.flow.Link.{Link}

-- an end of a link is a block
abbrev pub is_block : ℕ → Option ℕ → Bool
is_block k None = false
is_block k (Some j) = k == j

-- the inflow of a block, and its outflow
abbrev pub inflow : List Link → ℕ → ℕ
inflow links k = sum_by (λ l. if is_block k l.to then l.flow else 0) links

abbrev pub outflow : List Link → ℕ → ℕ
outflow links k = sum_by (λ l. if is_block k l.from then l.flow else 0) links

-- The inflow of each block equals its outflow. The outside of functions needs no balance.
abbrev pub Balances : List Link → Type 0
Balances links = (k : ℕ) → inflow links k ≡ outflow links k

-- the distance of flows from counts
abbrev pub distance : ℕ → ℕ → ℕ
distance m n = (m - n) + (n - m)

abbrev pub change : List Link → ℕ
change links = sum_by (λ l. distance l.flow l.count) links

-- how much flows are below counts, in sum
abbrev pub lowering : List Link → ℕ
lowering links = sum_by (λ l. l.count - l.flow) links

-- the price of a block; the outside has the price 0
abbrev pub price_of : List ℤ → Option ℕ → ℤ
price_of prices None = pos 0
price_of prices (Some k) = slice_index_or prices k (pos 0)

-- the price at the end of a link minus the price at its start
abbrev pub gain : List ℤ → Link → ℤ
gain prices l = price_of prices l.to -ℤ price_of prices l.from

-- Prices hold at a link: one more unit of flow, or one less, can't change the counts by less than the prices say.
pub record Holds (prices : List ℤ) (l : Link) : Type 0 where
  pub most : gain prices l ≤ℤ pos 1
  pub above : l.count < l.flow → gain prices l ≡ pos 1
  pub below : l.flow < l.count → 0 < l.flow → gain prices l ≡ negsuc 0
  pub unused : l.flow ≡ 0 → 0 < l.count → gain prices l ≤ℤ negsuc 0
  pub kept : l.flow ≡ l.count → 0 < l.flow → negsuc 0 ≤ℤ gain prices l

abbrev pub AllHold : List ℤ → List Link → Type 0
AllHold prices links = All (Holds prices) links

-- a link without its flow; and two lists with equal links and counts, for any flows
abbrev pub bare : Link → Link
bare l = record l { flow = 0 }

abbrev pub AreSameLinks : List Link → List Link → Type 0
AreSameLinks links others = map bare links ≡ map bare others

-- No balancing flow on these links that changes the counts as little lowers them less.
abbrev pub LowersLeast : List Link → Type 0
LowersLeast links = (others : List Link) → AreSameLinks links others → Balances others → change others ≡ change links →
    lowering links ≤ lowering others

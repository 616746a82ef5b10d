-- The laws of least change and of least lowering: prices are summed over the links, and balance makes their sum 0.
use Rattle.std.proofs.Common.{◌≡◌, ◌+◌, ◌-◌, ◌*◌, ◌<◌, ◌≤◌, ◌≤ℤ◌, ℕ, ℤ, pos, negsuc, List, [], ◌∷◌, Option, Some, None, refl, sym, ap, ◌∙◌}
use Rattle.std.proofs.Common.{All, arith, length, map, get_or, sum_by, add-mul, mul_comm, one-mul}
use Rattle.std.specs.Prelude.{◌-ℤ◌}
use Rattle.std.proofs.lemmas.List.Sums.{sum_by-cons}
use Rattle.std.proofs.lemmas.List.{get_or_past}
use Rattle.std.proofs.lemmas.List.Elements.{All-head, All-tail}
use borrow.Author.Differences.{up, down}
use Rattle.std.proofs.lemmas.Int.{ints}
use Rattle.flow_infer.specs.declared.flow.Link.{Link}
use Rattle.flow_infer.specs.Flows.{AreSameLinks, Balances, Holds, LowersLeast, bare, change, distance, gain, lowering, price_of}
use Rattle.flow_infer.specs.Heights.{HoldsAt, lower_cost, raise_cost}
use Rattle.flow_infer.specs.Laws.{LeastChangeLaw}
use Rattle.flow_infer.proofs.LinkCosts.{IsPriced, cost, least_at}
use Rattle.flow_infer.proofs.Sums.{at_end, balanced_weights, sum_alike, sum_of_sums, sum_scaled, weighed}

-- The cost of flows.
abbrev total_cost : ℕ → ℕ → List Link → ℕ
total_cost raise lower links = sum_by (λ l. cost raise lower l.flow l.count) links

-- The two parts of a link's gain.
abbrev gain_up : List ℤ → Link → ℕ
gain_up prices l = up (price_of prices l.to) + down (price_of prices l.from)

abbrev gain_down : List ℤ → Link → ℕ
gain_down prices l = down (price_of prices l.to) + up (price_of prices l.from)

-- The sum of flows, weighted by one of the two parts of gains.
abbrev summed : (Link → ℕ) → List Link → ℕ
summed part links = sum_by (λ l. part l * l.flow) links

-- Sums for two flows on the same links.
module _ (raise lower : ℕ) (prices : List ℤ) where
  abbrev ArePriced : List Link → Type 0
  ArePriced links = All (λ l. IsPriced raise lower (gain_up prices l) (gain_down prices l) l.flow l.count) links

  least_by_prices : (links others : List Link) → ArePriced links → AreSameLinks links others →
      total_cost raise lower links + summed (gain_up prices) others + summed (gain_down prices) links ≤
      total_cost raise lower others + summed (gain_up prices) links + summed (gain_down prices) others
  least_by_prices [] [] hold same = omega arith
  least_by_prices [] (o ∷ os) hold same = absurd (cc)
  least_by_prices (l ∷ ls) [] hold same = absurd (cc)
  least_by_prices (l ∷ ls) (o ∷ os) hold same =
      let head : bare l ≡ bare o = cc in
      let tail : map bare ls ≡ map bare os = cc in
      let from : l.from ≡ o.from = ap (λ (x : Link). x.from) head in
      let to : l.to ≡ o.to = ap (λ (x : Link). x.to) head in
      let count : l.count ≡ o.count = ap (λ (x : Link). x.count) head in
      let is_priced : Link → Type 0 = λ l. IsPriced raise lower (gain_up prices l) (gain_down prices l) l.flow l.count in
      let rest : total_cost raise lower ls + summed (gain_up prices) os + summed (gain_down prices) ls ≤
      total_cost raise lower os + summed (gain_up prices) ls + summed (gain_down prices) os =
      least_by_prices ls os (All-tail is_priced l ls hold) tail in
      let a : gain_up prices o ≡ gain_up prices l =
      ap (λ (e : Option ℕ). up (price_of prices e) + down (price_of prices o.from)) (sym to)
      ∙ ap (λ (e : Option ℕ). up (price_of prices l.to) + down (price_of prices e)) (sym from) in
      let b : gain_down prices o ≡ gain_down prices l =
      ap (λ (e : Option ℕ). down (price_of prices e) + up (price_of prices o.from)) (sym to)
      ∙ ap (λ (e : Option ℕ). down (price_of prices l.to) + up (price_of prices e)) (sym from) in
      let here : cost raise lower l.flow l.count + gain_up prices l * o.flow + gain_down prices l * l.flow ≤
      cost raise lower o.flow l.count + gain_up prices l * l.flow + gain_down prices l * o.flow =
      least_at raise lower l.count (gain_up prices l) (gain_down prices l) l.flow o.flow (All-head is_priced l ls hold) in
      let dist : cost raise lower o.flow l.count ≡ cost raise lower o.flow o.count = ap (cost raise lower o.flow) count in
      let u : gain_up prices o * o.flow ≡ gain_up prices l * o.flow = ap (λ (j : ℕ). j * o.flow) a in
      let v : gain_down prices o * o.flow ≡ gain_down prices l * o.flow = ap (λ (j : ℕ). j * o.flow) b in
      let c1 : total_cost raise lower (l ∷ ls) ≡ cost raise lower l.flow l.count + total_cost raise lower ls =
      sum_by-cons (λ x. cost raise lower x.flow x.count) l ls in
      let c2 : total_cost raise lower (o ∷ os) ≡ cost raise lower o.flow o.count + total_cost raise lower os =
      sum_by-cons (λ x. cost raise lower x.flow x.count) o os in
      let s1 : summed (gain_up prices) (l ∷ ls) ≡ gain_up prices l * l.flow + summed (gain_up prices) ls =
      sum_by-cons (λ x. gain_up prices x * x.flow) l ls in
      let s2 : summed (gain_up prices) (o ∷ os) ≡ gain_up prices o * o.flow + summed (gain_up prices) os =
      sum_by-cons (λ x. gain_up prices x * x.flow) o os in
      let s3 : summed (gain_down prices) (l ∷ ls) ≡ gain_down prices l * l.flow + summed (gain_down prices) ls =
      sum_by-cons (λ x. gain_down prices x * x.flow) l ls in
      let s4 : summed (gain_down prices) (o ∷ os) ≡ gain_down prices o * o.flow + summed (gain_down prices) os =
      sum_by-cons (λ x. gain_down prices x * x.flow) o os in
      omega (arith, rest, here, dist, u, v, c1, c2, s1, s2, s3, s4)

parts_balance : (prices : List ℤ) (links : List Link) → Balances links → summed (gain_up prices) links ≡ summed (gain_down prices) links
parts_balance prices links balanced =
    let ups : ℕ → ℕ = λ k. up (get_or prices k (pos 0)) in
    let downs : ℕ → ℕ = λ k. down (get_or prices k (pos 0)) in
    let n : ℕ = length prices in
    let a : weighed (λ l. l.to) ups links ≡ weighed (λ l. l.from) ups links =
    balanced_weights ups n (λ k ge. ap up (get_or_past prices k (pos 0) ge)) links balanced in
    let b : weighed (λ l. l.to) downs links ≡ weighed (λ l. l.from) downs links =
    balanced_weights downs n (λ k ge. ap down (get_or_past prices k (pos 0) ge)) links balanced in
    let c : summed (gain_up prices) links ≡ weighed (λ l. l.to) ups links + weighed (λ l. l.from) downs links =
    sum_of_sums (λ l. at_end ups l.to * l.flow) (λ l. at_end downs l.from * l.flow) (λ l. gain_up prices l * l.flow)
    (λ l. ap (λ (j : ℕ). j * l.flow) (ap (λ (j : ℕ). j + down (price_of prices l.from)) (ups_are prices l.to)
    ∙ ap (λ (j : ℕ). at_end ups l.to + j) (downs_are prices l.from)) ∙ add-mul (at_end ups l.to) (at_end downs l.from) l.flow) links in
    let d : summed (gain_down prices) links ≡ weighed (λ l. l.to) downs links + weighed (λ l. l.from) ups links =
    sum_of_sums (λ l. at_end downs l.to * l.flow) (λ l. at_end ups l.from * l.flow) (λ l. gain_down prices l * l.flow)
    (λ l. ap (λ (j : ℕ). j * l.flow) (ap (λ (j : ℕ). j + up (price_of prices l.from)) (downs_are prices l.to)
    ∙ ap (λ (j : ℕ). at_end downs l.to + j) (ups_are prices l.from)) ∙ add-mul (at_end downs l.to) (at_end ups l.from) l.flow) links in
    omega arith
  where
    ups_are : (ps : List ℤ) (e : Option ℕ) → up (price_of ps e) ≡ at_end (λ k. up (get_or ps k (pos 0))) e
    ups_are ps None = refl
    ups_are ps (Some k) = refl

    downs_are : (ps : List ℤ) (e : Option ℕ) → down (price_of ps e) ≡ at_end (λ k. down (get_or ps k (pos 0))) e
    downs_are ps None = refl
    downs_are ps (Some k) = refl

-- Of balancing flows, one for which prices hold costs least.
least_cost : (raise lower : ℕ) (prices : List ℤ) (links others : List Link) → ArePriced raise lower prices links → Balances links →
    AreSameLinks links others → Balances others → total_cost raise lower links ≤ total_cost raise lower others
least_cost raise lower prices links others priced balanced same others_balanced =
    let a : total_cost raise lower links + summed (gain_up prices) others + summed (gain_down prices) links ≤
    total_cost raise lower others + summed (gain_up prices) links + summed (gain_down prices) others =
    least_by_prices raise lower prices links others priced same in
    let b : summed (gain_up prices) links ≡ summed (gain_down prices) links = parts_balance prices links balanced in
    let c : summed (gain_up prices) others ≡ summed (gain_down prices) others = parts_balance prices others others_balanced in
    omega (arith, a, b, c)

-- The change as a cost.

plain_cost : (l : Link) → cost 1 1 l.flow l.count ≡ distance l.flow l.count
plain_cost l = omega (arith, one-mul (l.flow - l.count), one-mul (l.count - l.flow))

change_cost : (links : List Link) → total_cost 1 1 links ≡ change links
change_cost links = sum_alike (λ l. cost 1 1 l.flow l.count) (λ l. distance l.flow l.count) plain_cost links

priced_plainly : (prices : List ℤ) (l : Link) → Holds prices l → IsPriced 1 1 (gain_up prices l) (gain_down prices l) l.flow l.count
priced_plainly prices l holds = record {
  most = let h : gain prices l ≤ℤ pos 1 = holds.most in omega (arith, ints);
  above = λ p. let h : gain prices l ≡ pos 1 = holds.above p in omega (arith, ints);
  below = λ p q. let h : gain prices l ≡ negsuc 0 = holds.below p q in omega (arith, ints);
  unused = λ p q. let h : gain prices l ≤ℤ negsuc 0 = holds.unused p q in omega (arith, ints);
  kept = λ p q. let h : negsuc 0 ≤ℤ gain prices l = holds.kept p q in omega (arith, ints);
}

pub least_change : LeastChangeLaw
least_change links prices balanced hold others same others_balanced =
    let least : total_cost 1 1 links ≤ total_cost 1 1 others =
    least_cost 1 1 prices links others (λ k d within. priced_plainly prices (get_or links k d) (hold k d within))
    balanced same others_balanced in
    omega (arith, least, change_cost links, change_cost others)

-- The change and the lowering as one cost.

both_costs : (l : Link) → cost raise_cost lower_cost l.flow l.count ≡ raise_cost * distance l.flow l.count + (l.count - l.flow)
both_costs l = omega arith

both_sums : (links : List Link) → total_cost raise_cost lower_cost links ≡ raise_cost * change links + lowering links
both_sums links =
    let parts : total_cost raise_cost lower_cost links ≡ sum_by (λ l. raise_cost * distance l.flow l.count) links + lowering links =
    sum_of_sums (λ l. raise_cost * distance l.flow l.count) (λ l. l.count - l.flow) (λ l. cost raise_cost lower_cost l.flow l.count)
    both_costs links in
    let turned : sum_by (λ l. raise_cost * distance l.flow l.count) links ≡ sum_by (λ l. distance l.flow l.count * raise_cost) links =
    sum_alike (λ l. raise_cost * distance l.flow l.count) (λ l. distance l.flow l.count * raise_cost)
    (λ l. mul_comm raise_cost (distance l.flow l.count)) links in
    let scaled : sum_by (λ l. distance l.flow l.count * raise_cost) links ≡ change links * raise_cost =
    sum_scaled (λ l. distance l.flow l.count) raise_cost links in
    omega (arith, parts, turned, scaled)

priced_by_costs : (prices : List ℤ) (l : Link) → HoldsAt raise_cost lower_cost prices l
    → IsPriced raise_cost lower_cost (gain_up prices l) (gain_down prices l) l.flow l.count
priced_by_costs prices l holds = record {
  most = let h : gain prices l ≤ℤ pos raise_cost = holds.most in omega (arith, ints);
  above = λ p. let h : gain prices l ≡ pos raise_cost = holds.above p in omega (arith, ints);
  below = λ p q. let h : gain prices l ≡ (pos 0 -ℤ pos lower_cost) = holds.below p q in omega (arith, ints);
  unused = λ p q. let h : gain prices l ≤ℤ (pos 0 -ℤ pos lower_cost) = holds.unused p q in omega (arith, ints);
  kept = λ p q. let h : (pos 0 -ℤ pos lower_cost) ≤ℤ gain prices l = holds.kept p q in omega (arith, ints);
}

-- A flow with the least cost lowers counts least among the flows that change as little.
pub lowers_least : (links : List Link) (prices : List ℤ) → Balances links → All (HoldsAt raise_cost lower_cost prices) links →
    LowersLeast links
lowers_least links prices balanced hold others same others_balanced alike =
    let least : total_cost raise_cost lower_cost links ≤ total_cost raise_cost lower_cost others =
    least_cost raise_cost lower_cost prices links others (λ k d within. priced_by_costs prices (get_or links k d) (hold k d within))
    balanced same others_balanced in
    omega (arith, least, both_sums links, both_sums others, alike)

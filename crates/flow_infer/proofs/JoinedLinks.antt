-- Links of several functions: all flows balance and all prices hold if they do in each function.
use Rattle.std.proofs.Common.{◌≡◌, ◌+◌, ◌-◌, ◌<◌, ◌≤◌, ◌==◌, ℕ, ℤ, pos, negsuc, false, List, [], ◌∷◌, ◌++◌, Option, Some, None, refl}
use Rattle.std.proofs.Common.{All, add-one, map, sym, ap, ◌∙◌, subst, arith, length, get_or, ⊎_elim, ◌⊎◌, inl, inr, if◌then◌else◌}
use Rattle.std.specs.Prelude.{◌-ℤ◌, ◌≤ℤ◌}
use Rattle.std.proofs.lemmas.Int.{ints}
use Rattle.std.proofs.lemmas.Bool.{ne_eqb, cases_lt}
use Rattle.std.proofs.lemmas.List.{get_or_append_left, get_or-append_right, get_or-map, length-append, length-map}
use Rattle.std.proofs.lemmas.List.Sums.{sum_by-append}
use Rattle.std.proofs.lemmas.List.Elements.{All-append}
use Rattle.edge_profile.proofs.AscendingPairs.{sum_none}
use Rattle.flow_infer.specs.declared.flow.Link.{Link}
use Rattle.flow_infer.specs.Flows.{Balances, Holds, gain, inflow, is_block, outflow, price_of}
use Rattle.flow_infer.specs.Heights.{AreAmong, AreLevel, ArePricesBy, BalancesWithin, HoldsAt, HoldsBy, HoldsFor, IsAmong, IsLevel}
use Rattle.flow_infer.specs.Heights.{IsNodeBelow, IsSettled, AllHoldBy, at_node, level, lower_cost, raise_cost}
use Rattle.flow_infer.proofs.Levels.{levelled}

-- Balance.

not_at : (first nodes k f : ℕ) (end : Option ℕ) → IsNodeBelow first nodes end → (k < first) ⊎ (first + nodes ≤ k + 1) →
    (if is_block k end then f else 0) ≡ 0
not_at first nodes k f None within out = refl
not_at first nodes k f (Some j) within out =
    let far : k ≡ j → ⊥ = λ e. ⊎_elim (λ (a : k < first). let w : first ≤ j = within.0 in absurd (omega arith))
    (λ (b : first + nodes ≤ k + 1). let w : first ≤ j = within.0 in let v : j - first + 1 < nodes = within.1 in absurd (omega arith)) out in
    let no : (k == j) ≡ false = ne_eqb k j far in
    rw no refl

-- A function's links have no ends in blocks of other functions, so they balance at all blocks.
balanced_everywhere : (first nodes : ℕ) (links : List Link) → AreAmong first nodes links → BalancesWithin first nodes links → Balances links
balanced_everywhere first nodes links among balanced k =
    ⊎_elim (λ (lt : k < first). none (inl lt))
    (λ (ge : first ≤ k). ⊎_elim
    (λ (lt : k - first + 1 < nodes).
    let at : first + (k - first) ≡ k = omega arith in
    subst (λ (j : ℕ). inflow links j ≡ outflow links j) at (balanced (k - first) lt))
    (λ (past : nodes ≤ k - first + 1). let far : first + nodes ≤ k + 1 = omega arith in none (inr far))
    (cases_lt (k - first + 1) nodes))
    (cases_lt k first)
  where
    none : (k < first) ⊎ (first + nodes ≤ k + 1) → inflow links k ≡ outflow links k
    none out =
        sum_none (λ l. if is_block k l.to then l.flow else 0) links
        (λ i d within. not_at first nodes k (get_or links i d).flow (get_or links i d).to (among i d within).to out)
        ∙ sym (sum_none (λ l. if is_block k l.from then l.flow else 0) links
        (λ i d within. not_at first nodes k (get_or links i d).flow (get_or links i d).from (among i d within).from out))

pub balances_joined : (out links : List Link) (first nodes : ℕ) → Balances out → AreAmong first nodes links →
    BalancesWithin first nodes links → Balances (out ++ links)
balances_joined out links first nodes before among balanced k =
    let a : inflow (out ++ links) k ≡ inflow out k + inflow links k =
    sum_by-append (λ l. if is_block k l.to then l.flow else 0) out links in
    let b : outflow (out ++ links) k ≡ outflow out k + outflow links k =
    sum_by-append (λ l. if is_block k l.from then l.flow else 0) out links in
    let c : inflow out k ≡ outflow out k = before k in
    let d : inflow links k ≡ outflow links k = balanced_everywhere first nodes links among balanced k in
    omega arith

-- Prices.

no_gain : (n : ℕ) → pos 0 ≡ pos n -ℤ pos n
no_gain n = omega (arith, ints)

-- the price of each node is f of its height minus f of the outside's height
abbrev ArePricesOf : (ℕ → ℕ) → List ℕ → List ℤ → Type 0
ArePricesOf f heights prices = (k : ℕ) → k + 1 < length heights
    → get_or prices k (pos 0) ≡ pos (f (get_or heights (k + 1) 0)) -ℤ pos (f (get_or heights 0 0))

price_at : (f : ℕ → ℕ) (prices more : List ℤ) (heights : List ℕ) → ArePricesOf f heights more → (end : Option ℕ) →
    IsNodeBelow (length prices) (length heights) end →
    price_of (prices ++ more) end ≡ pos (f (at_node heights (length prices) end)) -ℤ pos (f (get_or heights 0 0))
price_at f prices more heights by None within = no_gain (f (get_or heights 0 0))
price_at f prices more heights by (Some k) within =
    get_or-append_right prices more (length prices) k (pos 0) refl within.0 ∙ by (k - length prices) within.1

abbrev lifted_gain : ℕ → ℕ → ℕ → ℤ
lifted_gain a b o = (pos b -ℤ pos o) -ℤ (pos a -ℤ pos o)

most_of : (n a b o : ℕ) → b ≤ a + n → lifted_gain a b o ≤ℤ pos n
most_of n a b o h = omega (arith, ints)

above_of : (n a b o : ℕ) → b ≡ a + n → lifted_gain a b o ≡ pos n
above_of n a b o h = omega (arith, ints)

below_of : (n a b o : ℕ) → b + n ≡ a → lifted_gain a b o ≡ (pos 0 -ℤ pos n)
below_of n a b o h = omega (arith, ints)

unused_of : (n a b o : ℕ) → b + n ≤ a → lifted_gain a b o ≤ℤ (pos 0 -ℤ pos n)
unused_of n a b o h = omega (arith, ints)

kept_of : (n a b o : ℕ) → a ≤ b + n → (pos 0 -ℤ pos n) ≤ℤ lifted_gain a b o
kept_of n a b o h = omega (arith, ints)

-- Prices hold at a link if f of the heights of its ends does.
holds_at : (raise lower : ℕ) (f : ℕ → ℕ) (prices more : List ℤ) (heights : List ℕ) → ArePricesOf f heights more → (l : Link) →
    IsAmong (length prices) (length heights) l →
    HoldsFor raise lower (f (at_node heights (length prices) l.from)) (f (at_node heights (length prices) l.to)) l →
    HoldsAt raise lower (prices ++ more) l
holds_at raise lower f prices more heights by l among holds =
    let o : ℕ = f (get_or heights 0 0) in
    let a : ℕ = f (at_node heights (length prices) l.from) in
    let b : ℕ = f (at_node heights (length prices) l.to) in
    let s : price_of (prices ++ more) l.from ≡ pos a -ℤ pos o = price_at f prices more heights by l.from among.from in
    let t : price_of (prices ++ more) l.to ≡ pos b -ℤ pos o = price_at f prices more heights by l.to among.to in
    let g : gain (prices ++ more) l ≡ lifted_gain a b o =
    ap (λ (z : ℤ). z -ℤ price_of (prices ++ more) l.from) t ∙ ap (λ (z : ℤ). (pos b -ℤ pos o) -ℤ z) s in
    record {
      most = subst (λ (z : ℤ). z ≤ℤ pos raise) (sym g) (most_of raise a b o holds.most);
      above = λ p. g ∙ above_of raise a b o (holds.above p);
      below = λ p q. g ∙ below_of lower a b o (holds.below p q);
      unused = λ p q. subst (λ (z : ℤ). z ≤ℤ (pos 0 -ℤ pos lower)) (sym g) (unused_of lower a b o (holds.unused p q));
      kept = λ p q. subst (λ (z : ℤ). (pos 0 -ℤ pos lower) ≤ℤ z) (sym g) (kept_of lower a b o (holds.kept p q));
    }

-- Prices that hold at the cost 1 are prices of a repaired profile.
plain : (prices : List ℤ) (l : Link) → HoldsAt 1 1 prices l → Holds prices l
plain prices l holds = record {
  most = holds.most;
  above = holds.above;
  below = holds.below;
  unused = holds.unused;
  kept = holds.kept;
}

level_at : (heights : List ℕ) (first : ℕ) (end : Option ℕ) → 0 < length heights → AreLevel heights → IsNodeBelow first (length heights) end
    → IsLevel (at_node heights first end)
level_at heights first None some are within = are 0 some
level_at heights first (Some k) some are within = are (k - first + 1) within.1

pub holds_joined : (prices more : List ℤ) (heights : List ℕ) → 0 < length heights → AreLevel heights → ArePricesBy heights more →
    (l : Link) →
    IsAmong (length prices) (length heights) l → HoldsBy heights (length prices) l → Holds (prices ++ more) l
holds_joined prices more heights some are by l among holds =
    plain (prices ++ more) l (holds_at 1 1 level prices more heights by l among
    (levelled (at_node heights (length prices) l.from) (at_node heights (length prices) l.to) l
    (level_at heights (length prices) l.from some are among.from) (level_at heights (length prices) l.to some are among.to) holds))

-- The heights minus the outside's height.
abbrev weights_of : List ℕ → List ℤ
weights_of [] = []
weights_of (o ∷ hs) = map (λ h. pos h -ℤ pos o) hs

weights_long : (heights : List ℕ) → 0 < length heights → length (weights_of heights) + 1 ≡ length heights
weights_long [] some = absurd (omega arith)
weights_long (o ∷ hs) some = ap (λ (n : ℕ). n + 1) (length-map hs (λ h. pos h -ℤ pos o)) ∙ omega arith

weights_are : (heights : List ℕ) → ArePricesOf (λ h. h) heights (weights_of heights)
weights_are [] k within = absurd (omega arith)
weights_are (o ∷ hs) k within =
    let lt : k < length hs = omega arith in
    get_or-map (λ (h : ℕ). pos h -ℤ pos o) hs k 0 (pos 0) lt
    ∙ sym (ap (λ (j : ℕ). pos (get_or (o ∷ hs) j 0) -ℤ pos o) (add-one k))

-- The prices of further blocks change nothing for the links of earlier blocks.
price_kept : (prices more : List ℤ) (end : Option ℕ) → IsNodeBelow 0 (length prices + 1) end →
    price_of (prices ++ more) end ≡ price_of prices end
price_kept prices more None within = refl
price_kept prices more (Some k) within = let lt : k < length prices = let w : k - 0 + 1 < length prices + 1 = within.1 in omega arith in
    get_or_append_left prices more (pos 0) k lt

gain_kept : (prices more : List ℤ) (l : Link) → IsAmong 0 (length prices + 1) l → gain (prices ++ more) l ≡ gain prices l
gain_kept prices more l among =
    ap (λ (z : ℤ). z -ℤ price_of (prices ++ more) l.from) (price_kept prices more l.to among.to)
    ∙ ap (λ (z : ℤ). price_of prices l.to -ℤ z) (price_kept prices more l.from among.from)

holds_kept : (prices more : List ℤ) (l : Link) → IsAmong 0 (length prices + 1) l → Holds prices l → Holds (prices ++ more) l
holds_kept prices more l among holds =
    let e : gain (prices ++ more) l ≡ gain prices l = gain_kept prices more l among in
    record {
      most = subst (λ (z : ℤ). z ≤ℤ pos 1) (sym e) holds.most;
      above = λ p. e ∙ holds.above p;
      below = λ p q. e ∙ holds.below p q;
      unused = λ p q. subst (λ (z : ℤ). z ≤ℤ negsuc 0) (sym e) (holds.unused p q);
      kept = λ p q. subst (λ (z : ℤ). negsuc 0 ≤ℤ z) (sym e) (holds.kept p q);
    }

weights_kept : (prices more : List ℤ) (l : Link) → IsAmong 0 (length prices + 1) l → HoldsAt raise_cost lower_cost prices l →
    HoldsAt raise_cost lower_cost (prices ++ more) l
weights_kept prices more l among holds =
    let e : gain (prices ++ more) l ≡ gain prices l = gain_kept prices more l among in
    record {
      most = subst (λ (z : ℤ). z ≤ℤ pos raise_cost) (sym e) holds.most;
      above = λ p. e ∙ holds.above p;
      below = λ p q. e ∙ holds.below p q;
      unused = λ p q. subst (λ (z : ℤ). z ≤ℤ (pos 0 -ℤ pos lower_cost)) (sym e) (holds.unused p q);
      kept = λ p q. subst (λ (z : ℤ). (pos 0 -ℤ pos lower_cost) ≤ℤ z) (sym e) (holds.kept p q);
    }

node_wider : (m n : ℕ) (end : Option ℕ) → m ≤ n → IsNodeBelow 0 (m + 1) end → IsNodeBelow 0 (n + 1) end
node_wider m n None le within = within
node_wider m n (Some k) le within = let w : k - 0 + 1 < m + 1 = within.1 in (omega arith, omega arith)

node_of_all : (first nodes n : ℕ) (end : Option ℕ) → first + nodes ≡ n + 1 → IsNodeBelow first nodes end → IsNodeBelow 0 (n + 1) end
node_of_all first nodes n None e within = within
node_of_all first nodes n (Some k) e within =
    let w : k - first + 1 < nodes = within.1 in let v : first ≤ k = within.0 in (omega arith, omega arith)

pub settled_joined : (links chunk : List Link) (prices more : List ℤ) (heights : List ℕ) → IsSettled links prices →
    length more + 1 ≡ length heights → AreLevel heights → ArePricesBy heights more → AreAmong (length prices) (length heights) chunk →
    BalancesWithin (length prices) (length heights) chunk → AllHoldBy heights (length prices) chunk →
    IsSettled (links ++ chunk) (prices ++ more)
settled_joined links chunk prices more heights settled tall are by among balanced hold =
    let n : ℕ = length (prices ++ more) in
    let long : n ≡ length prices + length more = length-append prices more in
    let some : 0 < length heights = omega arith in
    let weights : List ℤ = settled.costs.0 in
    let as_long : length weights ≡ length prices = settled.costs.1 in
    let weighed : All (HoldsAt raise_cost lower_cost weights) links = settled.costs.2 in
    let both : List ℤ = weights ++ weights_of heights in
    let both_long : length both ≡ length (prices ++ more) =
    let w = length-append weights (weights_of heights) in let v = weights_long heights some in omega arith in
    record {
      balances = balances_joined links chunk (length prices) (length heights) settled.balances among balanced;
      hold = All-append (Holds (prices ++ more)) links chunk
          (λ k d within. holds_kept prices more (get_or links k d) (settled.among k d within) (settled.hold k d within))
          (λ k d within. holds_joined prices more heights some are by (get_or chunk k d) (among k d within) (hold k d within));
      costs = (
        both,
        both_long,
        All-append (HoldsAt raise_cost lower_cost both) links chunk
            (λ k d within. weights_kept weights (weights_of heights) (get_or links k d)
            (subst (λ (m : ℕ). IsAmong 0 (m + 1) (get_or links k d)) (sym as_long) (settled.among k d within)) (weighed k d within))
            (λ k d within. holds_at raise_cost lower_cost (λ h. h) weights (weights_of heights) heights (weights_are heights)
            (get_or chunk k d)
            (subst (λ (m : ℕ). IsAmong m (length heights) (get_or chunk k d)) (sym as_long) (among k d within))
            (subst (λ (m : ℕ). HoldsBy heights m (get_or chunk k d)) (sym as_long) (hold k d within))),
      );
      among = All-append (IsAmong 0 (n + 1)) links chunk
          (λ k d within. let was : IsAmong 0 (length prices + 1) (get_or links k d) = settled.among k d within in
          let le : length prices ≤ n = omega arith in
          record { from = node_wider (length prices) n _ le was.from; to = node_wider (length prices) n _ le was.to })
          (λ k d within. let was : IsAmong (length prices) (length heights) (get_or chunk k d) = among k d within in
          let e : length prices + length heights ≡ n + 1 = omega arith in
          record {
            from = node_of_all (length prices) (length heights) n _ e was.from;
            to = node_of_all (length prices) (length heights) n _ e was.to;
          });
    }

pub settled_added : (links chunk out : List Link) (prices more out_prices : List ℤ) (heights : List ℕ) (first nodes : ℕ) →
    first ≡ length prices → length heights ≡ nodes → out ≡ links ++ chunk → out_prices ≡ prices ++ more →
    length more + 1 ≡ length heights → AreLevel heights → ArePricesBy heights more → AreAmong first nodes chunk →
    BalancesWithin first nodes chunk → AllHoldBy heights first chunk → IsSettled links prices → IsSettled out out_prices
settled_added links chunk out prices more out_prices heights first nodes first_is tall out_is prices_are long are by among balanced hold
    settled =
    let among' : AreAmong (length prices) (length heights) chunk =
    subst (λ (n : ℕ). AreAmong (length prices) n chunk) (sym tall) (subst (λ (f : ℕ). AreAmong f nodes chunk) first_is among) in
    let balanced' : BalancesWithin (length prices) (length heights) chunk =
    subst (λ (n : ℕ). BalancesWithin (length prices) n chunk) (sym tall)
    (subst (λ (f : ℕ). BalancesWithin f nodes chunk) first_is balanced) in
    let hold' : AllHoldBy heights (length prices) chunk = subst (λ (f : ℕ). AllHoldBy heights f chunk) first_is hold in
    let joined : IsSettled (links ++ chunk) (prices ++ more) =
    settled_joined links chunk prices more heights settled long are by among' balanced' hold' in
    subst (λ (xs : List Link). IsSettled xs out_prices) (sym out_is)
    (subst (λ (ps : List ℤ). IsSettled (links ++ chunk) ps) (sym prices_are) joined)

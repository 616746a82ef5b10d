-- Links on which flow was moved, and heights that were raised.
use Rattle.std.proofs.Common.{◌≡◌, ◌+◌, ◌-◌, ◌<◌, ◌≤◌, ℕ, ⊎_elim, List, Option, Some, None, All, refl, sym, ap, ◌∙◌, subst, arith, length}
use Rattle.std.proofs.Common.{map, get_or, set}
use Rattle.std.proofs.lemmas.List.{get_or_default, map-set, set-get_or}
use Rattle.std.proofs.lemmas.Bool.{cases_lt}
use Rattle.std.proofs.lemmas.List.Elements.{All-set}
use Rattle.flow_infer.specs.declared.flow.Link.{Link}
use Rattle.flow_infer.specs.Flows.{AreSameLinks, bare}
use Rattle.flow_infer.specs.Heights.{HasMoved, HoldsBetween, HoldsRaised, HoldsBy, IsAmong, IsNodeBelow, IsSteady, EndMayRise}
use Rattle.flow_infer.specs.Heights.{StartMayRise, at_node, lower_cost, node_of, raise_cost, raised}

pub node_below : (first nodes : ℕ) (end : Option ℕ) → 0 < nodes → IsNodeBelow first nodes end → node_of first end < nodes
node_below first nodes None some within = some
node_below first nodes (Some k) some within = within.1

same_set : (links : List Link) (i : ℕ) (d new : Link) → bare new ≡ bare (get_or links i d) → AreSameLinks links (set links i new)
same_set links i d new same = sym (map-set bare links i new ∙ ap (λ (b : Link). set (map bare links) i b) same
    ∙ sym (map-set bare links i (get_or links i d)) ∙ ap (map bare) (set-get_or links i d))

pub moved_one : (heights : List ℕ) (first nodes : ℕ) (links : List Link) (place a b : ℕ) (d new : Link) →
    IsSteady heights first nodes links → place < length links → bare new ≡ bare (get_or links place d) →
    a ≡ at_node heights first (get_or links place d).from → b ≡ at_node heights first (get_or links place d).to →
    HoldsBetween a b new → HasMoved heights first nodes links (set links place new)
moved_one heights first nodes links place a b d new steady within same a_is b_is holds =
    let l : Link = get_or links place d in
    let from : l.from ≡ new.from = sym (ap (λ (x : Link). x.from) same) in
    let to : l.to ≡ new.to = sym (ap (λ (x : Link). x.to) same) in
    let was : IsAmong first nodes l = steady.among place d within in
    let among : IsAmong first nodes new =
    record { from = subst (IsNodeBelow first nodes) from was.from; to = subst (IsNodeBelow first nodes) to was.to } in
    let one : HoldsBetween (at_node heights first new.from) b new =
    subst (λ (n : ℕ). HoldsBetween n b new) (a_is ∙ ap (at_node heights first) from) holds in
    let two : HoldsBy heights first new =
    subst (λ (n : ℕ). HoldsBetween (at_node heights first new.from) n new) (b_is ∙ ap (at_node heights first) to) one in
    record {
      steady = record {
        some = steady.some;
        tall = steady.tall;
        among = All-set (IsAmong first nodes) links place new among steady.among;
        holds = All-set (HoldsBy heights first) links place new two steady.holds;
      };
      same = same_set links place d new same;
    }

pub lifted : (old new : List ℕ) (first step : ℕ) (links : List Link) (distances : List ℕ) → length new ≡ length old →
    IsSteady old first (length old) links →
    ((n : ℕ) → n < length old → get_or new n 0 ≡ raised step (get_or distances n 0) (get_or old n 0)) →
    All (HoldsRaised old first distances step) links →
    IsSteady new first (length new) links
lifted old new first step links distances tall steady rises all = record {
  some = subst (λ (n : ℕ). 0 < n) (sym tall) steady.some;
  tall = refl;
  among = subst (λ (n : ℕ). All (IsAmong first n) links) (sym tall) steady.among;
  holds = λ k d within.
      let l : Link = get_or links k d in
      let among : IsAmong first (length old) l = steady.among k d within in
      let b : ℕ = raised step (at_node distances first l.to) (at_node old first l.to) in
      let from : raised step (at_node distances first l.from) (at_node old first l.from) ≡ at_node new first l.from =
      sym (rises (node_of first l.from) (node_below first (length old) l.from steady.some among.from)) in
      let to : b ≡ at_node new first l.to =
      sym (rises (node_of first l.to) (node_below first (length old) l.to steady.some among.to)) in
      let one : HoldsBetween (at_node new first l.from) b l = subst (λ (n : ℕ). HoldsBetween n b l) from (all k d within) in
      subst (λ (n : ℕ). HoldsBetween (at_node new first l.from) n l) to one;
}

-- Prices still hold at the next link, too.
pub raised_more : (heights distances : List ℕ) (first : ℕ) (links : List Link) (i step : ℕ) (x : Link) (a b p q : ℕ) →
    i < length links → a ≡ at_node heights first (get_or links i x).from → b ≡ at_node heights first (get_or links i x).to →
    p ≡ at_node distances first (get_or links i x).from → q ≡ at_node distances first (get_or links i x).to →
    HoldsBetween (raised step p a) (raised step q b) (get_or links i x) →
    ((k : ℕ) (e : Link) → k < i → HoldsRaised heights first distances step (get_or links k e)) →
    (k : ℕ) (e : Link) → k < i + 1 → HoldsRaised heights first distances step (get_or links k e)
raised_more heights distances first links i step x a b p q within a_is b_is p_is q_is holds before k e below =
    ⊎_elim (λ (lt : k < i). before k e lt)
    (λ (ge : i ≤ k).
    let l : Link = get_or links i x in
    let same : k ≡ i = omega arith in
    let start : ℕ = raised step (at_node distances first l.from) (at_node heights first l.from) in
    let from : raised step p a ≡ start = ap (λ (n : ℕ). raised step n a) p_is ∙ ap (raised step (at_node distances first l.from)) a_is in
    let to : raised step q b ≡ raised step (at_node distances first l.to) (at_node heights first l.to) =
    ap (λ (n : ℕ). raised step n b) q_is ∙ ap (raised step (at_node distances first l.to)) b_is in
    let one : HoldsBetween start (raised step q b) l = subst (λ (n : ℕ). HoldsBetween n (raised step q b) l) from holds in
    let two : HoldsRaised heights first distances step l = subst (λ (n : ℕ). HoldsBetween start n l) to one in
    let three : HoldsRaised heights first distances step (get_or links i e) =
    subst (HoldsRaised heights first distances step) (get_or_default links i x e within) two in
    subst (λ (j : ℕ). HoldsRaised heights first distances step (get_or links j e)) (sym same) three)
    (cases_lt k i)

-- Prices still hold after a step in which the rises of a link's ends differ by at most the slack.
pub step_holds : (a b p q s t step : ℕ) (l : Link) → EndMayRise a b s l → StartMayRise a b t l →
    step - q ≤ (step - p) + s → step - p ≤ (step - q) + t → HoldsBetween a b l → HoldsBetween (raised step p a) (raised step q b) l
step_holds a b p q s t step l end start no_more no_less holds =
    let most : b + s ≤ a + raise_cost = end.most in
    record {
      most = omega arith;
      above = λ over.
          let low : a + t + raise_cost ≤ b = start.above over in
          let tight : b ≡ a + raise_cost = holds.above over in
          omega arith;
      below = λ under some.
          let high : b + s + lower_cost ≤ a = end.below under in
          let low : a + t ≤ b + lower_cost = start.kept some in
          omega arith;
      unused = λ none some.
          let under : l.flow < l.count = omega arith in
          let high : b + s + lower_cost ≤ a = end.below under in
          omega arith;
      kept = λ same some. let low : a + t ≤ b + lower_cost = start.kept some in omega arith;
    }

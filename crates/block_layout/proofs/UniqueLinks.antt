-- At most one choice of neighbours satisfies AreLinks: an edge makes a link in one such choice if it does in another. The proof is by
-- induction along the order of edges: on the sum of all counts minus the edge's count, then on the source and the target.
use Rattle.std.proofs.Common.{ℕ, zero, suc, ◌≡◌, ◌<◌, ◌≤◌, ◌-◌, ◌⊎◌, List, Option, Some, None, refl, sym, subst, inl, inr, arith}
use Rattle.std.specs.Prelude.{Contains, sum_by}
use Rattle.std.proofs.lemmas.List.Sums.{get_or-le-sum_by}
use Rattle.std.proofs.lemmas.Grind.{common_steps}
use Rattle.block_layout.specs.EdgeCounts.{IsEarlier}
use Rattle.block_layout.specs.Links.{Links, LeadBefore, IsLeftOut, Lead, AreLinks, at_once, on, source_taken, target_taken}
use Rattle.block_layout.specs.Links.{first_block, closes, stays, goes}
use Rattle.block_layout.specs.Parts.{IsFirstBlock}
use Rattle.block_layout.specs.Laws.{LinksLaw}

-- induction over numbers, with the hypothesis for all lower ones
from_lower : (P : ℕ → Type 0) → ((n : ℕ) → ((m : ℕ) → m < n → P m) → P n) → (k n : ℕ) → n < k → P n
from_lower P step zero n less = absurd (omega arith)
from_lower P step (suc k) n less = step n (λ m lower. from_lower P step k m (omega arith))

strong : (P : ℕ → Type 0) → ((n : ℕ) → ((m : ℕ) → m < n → P m) → P n) → (n : ℕ) → P n
strong P step n = from_lower P step (suc n) n (omega arith)

-- no edge is earlier than itself
not_earlier : (count : ℕ × ℕ → ℕ) (s t u : ℕ) → u ≡ t → IsEarlier count (s, u) (s, t) → ⊥
not_earlier count s t u same earlier = grind (arith, common_steps)

one_value : {x y : ℕ} → {o : Option ℕ} → o ≡ Some x → o ≡ Some y → x ≡ y
one_value is is' = cc

-- Links form no cycle.
module _ (p : Links) (back : (s t : ℕ) → p.next s ≡ Some t → p.prev t ≡ Some s) (s t : ℕ) (joined : p.next s ≡ Some t)
    (round : Lead p t s) where
  -- if links lead from t to a block, this block follows another one to which they lead
  follows_one : {y : ℕ} → Lead p t y → (z : ℕ) × (p.next z ≡ Some y) × Lead p t z
  follows_one stays = (s, joined, round)
  follows_one (goes {y = z} way next) = (z, next, way)

  begins_before : {h x : ℕ} → Lead p h x → Lead p t x → p.prev h ≡ None → ⊥
  begins_before {h} {x} stays on_it none =
      let (z, next, way) = follows_one on_it in
      let before : p.prev h ≡ Some z = back z h next in
      absurd (cc)
  begins_before {h} {x} (goes {y = y} way next) on_it none =
      let (z, next', way') = follows_one on_it in
      let same : z ≡ y = one_value (back z x next') (back y x next) in
      begins_before way (subst (Lead p t) same way') none

-- Two choices of links.
module _ (edges : List (ℕ × ℕ)) (count : ℕ × ℕ → ℕ) (IsFirst : ℕ → Type 0) where
  -- the links of q by earlier edges are links of p
  abbrev AreKeptBefore : Links → Links → ℕ → ℕ → Type 0
  AreKeptBefore p q s t = (x y : ℕ) → IsEarlier count (x, y) (s, t) → q.next x ≡ Some y → p.next x ≡ Some y

  lead_on : (p q : Links) (s t : ℕ) → AreKeptBefore p q s t → {x y : ℕ} → LeadBefore count q (s, t) x y → Lead p x y
  lead_on p q s t kept at_once = stays
  lead_on p q s t kept (on {y = y} {z = z} way linked) = goes (lead_on p q s t kept way) (kept y z linked.earlier linked.next)

  not_left_out : (p q : Links) → AreLinks edges count IsFirst p → (s t : ℕ) → AreKeptBefore p q s t → p.next s ≡ Some t →
      IsLeftOut count q IsFirst s t → ⊥
  not_left_out p q are s t kept joined (source_taken u linked) = grind (arith, common_steps, not_earlier, one_value)
  not_left_out p q are s t kept joined (target_taken u linked) =
      let same : u ≡ s = one_value (are.back u t (kept u t linked.earlier linked.next)) (are.back s t joined) in
      not_earlier count s t t refl (subst (λ v. IsEarlier count (v, t) (s, t)) same linked.earlier)
  not_left_out p q are s t kept joined (first_block is) = grind (arith, common_steps)
  not_left_out p q are s t kept joined (closes way) =
      let (h, none, from) = are.whole t in
      begins_before p are.back s t joined (lead_on p q s t kept way) from stays none

  kept_too : (p q : Links) → AreLinks edges count IsFirst p → AreLinks edges count IsFirst q → (s t : ℕ) → AreKeptBefore p q s t →
      p.next s ≡ Some t → q.next s ≡ Some t
  kept_too p q are are' s t kept joined = by (are'.each s t (are.only s t joined).0 (are.only s t joined).1)
    where
      by : (q.next s ≡ Some t) ⊎ IsLeftOut count q IsFirst s t → q.next s ≡ Some t
      by (inl is) = is
      by (inr out) = absurd (not_left_out p q are s t kept joined out)

  module _ (p q : Links) (are : AreLinks edges count IsFirst p) (are' : AreLinks edges count IsFirst q) where
    -- an edge makes a link in both choices, or in none
    record IsInBoth (s t : ℕ) : Type 0 where
      there : p.next s ≡ Some t → q.next s ≡ Some t
      here : q.next s ≡ Some t → p.next s ≡ Some t

    from_earlier : (s t : ℕ) →
        ((x y : ℕ) → IsEarlier count (x, y) (s, t) → count (x, y) ≤ sum_by count edges → IsInBoth x y) → IsInBoth s t
    from_earlier s t earlier = record {
      there = kept_too p q are are' s t (λ x y before is. (earlier x y before (bounded q are' x y is)).here is);
      here = kept_too q p are' are s t (λ x y before is. (earlier x y before (bounded p are x y is)).there is);
    }
      where
        bounded : (l : Links) → AreLinks edges count IsFirst l → (x y : ℕ) → l.next x ≡ Some y → count (x, y) ≤ sum_by count edges
        bounded l is_of x y is = listed (x, y) (is_of.only x y is).0
          where
            listed : (e : ℕ × ℕ) → Contains edges e → count e ≤ sum_by count edges
            listed e (k, within, same) = subst (λ f. count f ≤ sum_by count edges) same (get_or-le-sum_by count edges k e within)

    -- every edge with this difference of the sum of counts and its count
    abbrev AreInBoth : ℕ → ℕ → ℕ → Type 0
    AreInBoth missing s t = sum_by count edges - count (s, t) ≡ missing → IsInBoth s t

    by_target : (missing s : ℕ) → ((m : ℕ) → m < missing → (x y : ℕ) → AreInBoth m x y) →
        ((x : ℕ) → x < s → (y : ℕ) → AreInBoth missing x y) → (t : ℕ) → AreInBoth missing s t
    by_target missing s higher lower = strong (AreInBoth missing s) (λ t before is.
        from_earlier s t (λ x y earlier bound. by t before is x y bound earlier))
      where
        by : (t : ℕ) → ((y : ℕ) → y < t → AreInBoth missing s y) → sum_by count edges - count (s, t) ≡ missing → (x y : ℕ) →
            count (x, y) ≤ sum_by count edges → IsEarlier count (x, y) (s, t) → IsInBoth x y
        by t before is x y bound (inl more) = higher (sum_by count edges - count (x, y)) (omega arith) x y refl
        by t before is x y bound (inr (same, inl less)) = lower x less y (omega arith)
        by t before is x y bound (inr (same, inr (source, less))) =
            let other : sum_by count edges - count (s, y) ≡ missing =
            subst (λ v. sum_by count edges - count (v, y) ≡ missing) source (omega arith) in
            subst (λ v. IsInBoth v y) (sym source) (before y less other)

    in_both : (s t : ℕ) → IsInBoth s t
    in_both s t = strong (λ missing. (x y : ℕ) → AreInBoth missing x y)
        (λ missing higher. strong (λ x. (y : ℕ) → AreInBoth missing x y) (λ x lower. by_target missing x higher lower))
        (sum_by count edges - count (s, t)) s t refl

    -- options with the same contents are equal
    one_option : (a b : Option ℕ) → ((t : ℕ) → a ≡ Some t → b ≡ Some t) → ((t : ℕ) → b ≡ Some t → a ≡ Some t) → a ≡ b
    one_option (Some t) b to from = sym (to t refl)
    one_option None (Some t) to from = from t refl
    one_option None None to from = refl

    same_next : (k : ℕ) → p.next k ≡ q.next k
    same_next k = one_option (p.next k) (q.next k) (λ t is. (in_both k t).there is) (λ t is. (in_both k t).here is)

    same_prev : (k : ℕ) → p.prev k ≡ q.prev k
    same_prev k = one_option (p.prev k) (q.prev k)
        (λ s is. are'.back s k ((in_both s k).there (are.forth s k is)))
        (λ s is. are.back s k ((in_both s k).here (are'.forth s k is)))

    pub one_answer : p ≡ q
    one_answer = λ i. record { next = λ k. same_next k i; prev = λ k. same_prev k i }

pub links_law : LinksLaw
links_law blocks edges count p q are are' = one_answer edges count (IsFirstBlock blocks) p q are are'

-- Chains: one begins with each first block, and it stays within the range of blocks.
use Rattle.std.proofs.Common.{◌≡◌, ◌≢◌, ◌<◌, ◌≤◌, ◌+◌, ◌-◌, ◌∙◌, ℕ, zero, suc, false, List, [], ◌∷◌, ◌++◌, Some, None, length, get_or}
use Rattle.std.proofs.Common.{take, flat_map, arith, ap, sym, subst, inl, inr, ⊎_elim, All, AllPairs, Contains, add-one}
use Rattle.std.specs.Prelude.{IsPermutation}
use Rattle.std.specs.Ordering.{nat_cmp, is_lt, ordering_then}
use Rattle.std.proofs.lemmas.Bool.{cases_lt, cases_eq, eq-eqb, lt-ltb, le-ltb}
use Rattle.std.proofs.lemmas.List.{get_or_default, same_lists, take_more, map-append, append-nil}
use Rattle.std.proofs.lemmas.List.Concat.{flat_map-append}
use Rattle.std.proofs.lemmas.List.Elements.{Contains-append_left, Contains-push, Contains-push_cases, Contains-get_or}
use Rattle.std.proofs.lemmas.List.Quantifiers.{all_pairs_push}
use Rattle.std.proofs.lemmas.List.Sorted.{Contains-permutation, IsPermutation-sym, IsPermutation-map}
use Rattle.std.proofs.lemmas.Grind.{common_steps}
use Rattle.edge_profile.proofs.Neighbours.{all_pairs}
use Rattle.block_layout.specs.Links.{Links, IsChain}
use Rattle.block_layout.specs.Parts.{greatest}
use Rattle.block_layout.specs.Walks.{AreBetween, IsHotBetween, AreHotBetween, IsUpTo, chain_heads}
use Rattle.block_layout.specs.declared.hot_chains.HotChain.{HotChain}
use Rattle.block_layout.proofs.Paths.{as_path, inside_path}
use Rattle.rb_bytes.proofs.Permuted.{AllPairs-permutation}

module _ {p : Links} {h : ℕ} {xs ys : List ℕ} (one : IsChain p h xs) (other : IsChain p h ys) where
  same_at : (k : ℕ) → k < length xs → k < length ys → get_or xs k 0 ≡ get_or ys k 0
  same_at zero within within' = one.begins ∙ sym other.begins
  same_at (suc k) within within' =
      let before : get_or xs k 0 ≡ get_or ys k 0 = same_at k (omega arith) (omega arith) in
      let s : p.next (get_or xs k 0) ≡ Some (get_or xs (suc k) 0) = rw (← add-one) (one.follows k (omega arith)) in
      let t : p.next (get_or ys k 0) ≡ Some (get_or ys (suc k) 0) = rw (← add-one) (other.follows k (omega arith)) in
      let u : p.next (get_or xs k 0) ≡ p.next (get_or ys k 0) = ap p.next before in
      cc

not_shorter : {p : Links} {h : ℕ} {xs ys : List ℕ} → IsChain p h xs → IsChain p h ys → length xs < length ys → ⊥
not_shorter {p} {h} {xs} {ys} one other less =
    let some = one.some in
    let last = length xs - 1 in
    let same : get_or xs last 0 ≡ get_or ys last 0 = same_at one other last (omega arith) (omega arith) in
    let end : p.next (get_or xs last 0) ≡ None = one.ends in
    let on : p.next (get_or ys last 0) ≡ Some (get_or ys (last + 1) 0) = other.follows last (omega arith) in
    let u : p.next (get_or xs last 0) ≡ p.next (get_or ys last 0) = ap p.next same in
    absurd (cc)

pub same_chain : {p : Links} {h : ℕ} {xs ys : List ℕ} → IsChain p h xs → IsChain p h ys → xs ≡ ys
same_chain {p} {h} {xs} {ys} one other =
    let long : length xs ≡ length ys = ⊎_elim
    (λ (less : length xs < length ys). absurd (not_shorter one other less))
    (λ (more : length ys ≤ length xs). ⊎_elim
    (λ (less : length ys < length xs). absurd (not_shorter other one less))
    (λ (le : length xs ≤ length ys). omega arith)
    (cases_lt (length ys) (length xs)))
    (cases_lt (length xs) (length ys)) in
    same_lists xs ys long
    (λ k d within. get_or_default xs k d 0 within ∙ same_at one other k within (omega arith)
    ∙ get_or_default ys k 0 d (omega arith))

pub chain_inside : (n : ℕ) (p : Links) (h : ℕ) (xs : List ℕ) → AreBetween n p → h < n → IsChain p h xs → All (λ k. k < n) xs
chain_inside n p h xs between below chain k d within = grind (arith, common_steps, inside_path, as_path)

-- The hot chains so far.

pub record AreHotTo (p : Links) (weight : ℕ → ℕ) (start end : ℕ) (chains : List HotChain) : Type 0 where
  pub only : (c : HotChain) → Contains chains c → IsHotBetween p weight start end c
  pub each : (h : ℕ) (xs : List ℕ) → start < h → h < end → IsChain p h xs → 0 < greatest weight xs →
      Contains (chain_heads chains) h
  pub rise : AllPairs (λ c d. c.head < d.head) chains

module _ {p : Links} {weight : ℕ → ℕ} {start h : ℕ} {chains : List HotChain} (was : AreHotTo p weight start h chains) where
  still : (c : HotChain) → IsHotBetween p weight start h c → IsHotBetween p weight start (h + 1) c
  still c is = grind (arith, common_steps)

  -- no hot chain begins with this block
  pub hot_skip : ((xs : List ℕ) → IsChain p h xs → 0 < greatest weight xs → ⊥) → AreHotTo p weight start (h + 1) chains
  hot_skip none = record {
    only = λ c listed. still c (was.only c listed);
    each = λ g xs after before is hot. ⊎_elim
        (λ (same : g ≡ h). absurd (none xs (subst (λ (k : ℕ). IsChain p k xs) same is) hot))
        (λ (other : g ≢ h). was.each g xs after (omega arith) is hot)
        (cases_eq g h);
    rise = was.rise;
  }

  -- a hot chain begins with this block
  pub hot_more : (c : HotChain) → start < h → c.head ≡ h → IsChain p h c.blocks.items
      → c.weight ≡ greatest weight c.blocks.items → 0 < c.weight → AreHotTo p weight start (h + 1) (chains ++ c ∷ [])
  hot_more c after at is heavy hot = record {
    only = λ d listed. ⊎_elim
        (λ old. still d (was.only d old))
        (λ (same : c ≡ d). subst (λ (e : HotChain). IsHotBetween p weight start (h + 1) e) same own)
        (Contains-push_cases chains c d listed);
    each = λ g xs after' before is' hot'.
        let more : chain_heads (chains ++ c ∷ []) ≡ chain_heads chains ++ c.head ∷ [] =
        map-append (λ (d : HotChain). d.head) chains (c ∷ []) in
        subst (λ (hs : List ℕ). Contains hs g) (sym more) (⊎_elim
        (λ (same : g ≡ h). subst (λ (k : ℕ). Contains (chain_heads chains ++ c.head ∷ []) k) (at ∙ sym same)
        (Contains-push (chain_heads chains) c.head))
        (λ (other : g ≢ h). Contains-append_left (chain_heads chains) (c.head ∷ []) g
        (was.each g xs after' (omega arith) is' hot'))
        (cases_eq g h));
    rise = all_pairs_push (λ x y. x.head < y.head) chains c was.rise
        (λ k d within. let b = (was.only (get_or chains k d) (Contains-get_or chains k d within)).before in omega arith);
  }
    where
      own : IsHotBetween p weight start (h + 1) c
      own = record {
        after = omega arith;
        before = omega arith;
        chain = subst (λ (k : ℕ). IsChain p k c.blocks.items) (sym at) is;
        weight_is = heavy;
        hot = hot;
      }

pub hot_all : {p : Links} {weight : ℕ → ℕ} {start end : ℕ} {old new : List HotChain}
    → AreHotTo p weight start end old → IsPermutation old new → AreHotBetween p weight start end new
hot_all {old = old} {new = new} are moved = record {
  only = λ c listed. are.only c (Contains-permutation new old c (IsPermutation-sym old new moved) listed);
  each = λ h xs after before is hot.
      Contains-permutation (chain_heads old) (chain_heads new) h (IsPermutation-map (λ (c : HotChain). c.head) old new moved)
      (are.each h xs after before is hot);
  apart = AllPairs-permutation (λ c d. (c.head ≡ d.head) → ⊥) (λ c d other same. other (sym same)) old new moved
      (λ i j d less within same. let up = are.rise i j d less within in omega arith);
}

-- The result of a sort.

from_cmp : (c d : HotChain) → is_lt (ordering_then (nat_cmp c.weight d.weight) (nat_cmp d.head c.head)) ≡ false → IsUpTo c d
from_cmp c d is = grind (arith, common_steps, ⊎_elim, lt-ltb, le-ltb, eq-eqb, cases_lt)

up_trans : (x y z : HotChain) → IsUpTo x y → IsUpTo y z → IsUpTo x z
up_trans x y z (inl a) (inl b) = inl (omega arith)
up_trans x y z (inl a) (inr (e, b)) = inl (omega arith)
up_trans x y z (inr (e, a)) (inl b) = inl (omega arith)
up_trans x y z (inr (e, a)) (inr (f, b)) = inr (e ∙ f, omega arith)

pub chains-sorted : (xs : List HotChain)
    → ((k : ℕ) (d : HotChain) → 0 ≤ k → k + 1 < length xs
    → is_lt (ordering_then (nat_cmp (get_or xs k d).weight (get_or xs (k + 1) d).weight)
    (nat_cmp (get_or xs (k + 1) d).head (get_or xs k d).head)) ≡ false) → AllPairs IsUpTo xs
chains-sorted xs sorted =
    all_pairs IsUpTo up_trans xs
    (λ k e inside. from_cmp (get_or xs k e) (get_or xs (k + 1) e) (sorted k e (omega arith) inside))

-- one more list is concatenated
pub flat_more : (f : HotChain → List ℕ) (xs : List HotChain) (i : ℕ) (d : HotChain) → i < length xs
    → flat_map f (take (i + 1) xs) ≡ flat_map f (take i xs) ++ f (get_or xs i d)
flat_more f xs i d within = grind (arith, common_steps, take_more, flat_map-append, append-nil)

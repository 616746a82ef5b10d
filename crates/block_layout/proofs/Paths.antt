-- Paths along links end.
use Rattle.std.proofs.Common.{ℕ, zero, suc, ◌≡◌, ◌≢◌, ◌<◌, ◌≤◌, ◌+◌, ◌-◌, List, [], ◌∷◌, ◌++◌, Some, None, length, get_or, arith}
use Rattle.std.proofs.Common.{refl, sym, ◌∙◌, ap, ⊎_elim, eqb, false, add-one}
use Rattle.std.proofs.lemmas.Bool.{cases_lt, eqb-true}
use Rattle.std.proofs.lemmas.Grind.{common_steps}
use Rattle.std.proofs.lemmas.Map.Steps.{length-le_from_distinct_below}
use Rattle.std.proofs.lemmas.Map.Keys.{IsDistinct-from_apart}
use Rattle.std.proofs.Common.{lit<}
use Rattle.std.specs.List.{Contains}
use Rattle.std.proofs.lemmas.Grind.{get_or_default_zero}
use Rattle.std.proofs.lemmas.List.{get_or_append_left}
use Rattle.std.proofs.Math.Seq.{get_or-append_seam}
use Rattle.std.proofs.lemmas.Map.Views.{Contains-from_any}
use Rattle.block_layout.specs.Links.{Links, IsChain}

-- the links are between the first n blocks, and prev is the inverse of next
pub record IsWithin (n : ℕ) (p : Links) : Type 0 where
  pub inside : (s t : ℕ) → p.next s ≡ Some t → t < n
  pub back : (s t : ℕ) → p.next s ≡ Some t → p.prev t ≡ Some s

-- blocks in a row: each follows the block before it
pub record IsPath (p : Links) (h : ℕ) (xs : List ℕ) : Type 0 where
  pub some : 0 < length xs
  pub begins : get_or xs 0 0 ≡ h
  pub follows : (k : ℕ) → k + 1 < length xs → p.next (get_or xs k 0) ≡ Some (get_or xs (k + 1) 0)

-- if two paths share a block, they also share an earlier one, or one of them begins there
pub meet : {n : ℕ} {p : Links} {g h : ℕ} {xs ys : List ℕ} → IsWithin n p → p.prev g ≡ None → IsPath p g xs → IsPath p h ys →
    (i j : ℕ) → i ≤ j → i < length xs → j < length ys → get_or xs i 0 ≡ get_or ys j 0 → get_or ys (j - i) 0 ≡ g
meet {n} {p} {g} {h} {xs} {ys} w none a b zero j le ix jy e = let z : j - 0 ≡ j = omega arith in rw z (sym e ∙ a.begins)
meet {n} {p} {g} {h} {xs} {ys} w none a b (suc i) zero le ix jy e = absurd (omega arith)
meet {n} {p} {g} {h} {xs} {ys} w none a b (suc i) (suc j) le ix jy e =
    let s : p.next (get_or xs i 0) ≡ Some (get_or xs (suc i) 0) = rw (← add-one) (a.follows i (omega arith)) in
    let t : p.next (get_or ys j 0) ≡ Some (get_or ys (suc j) 0) = rw (← add-one) (b.follows j (omega arith)) in
    let u : p.prev (get_or xs (suc i) 0) ≡ Some (get_or xs i 0) = w.back _ _ s in
    let v : p.prev (get_or ys (suc j) 0) ≡ Some (get_or ys j 0) = w.back _ _ t in
    let f : p.prev (get_or xs (suc i) 0) ≡ p.prev (get_or ys (suc j) 0) = ap p.prev e in
    let before : get_or xs i 0 ≡ get_or ys j 0 = cc in
    let m : get_or ys (j - i) 0 ≡ g = meet w none a b i j (omega arith) (omega arith) (omega arith) before in
    let same : suc j - suc i ≡ j - i = omega arith in
    rw same m

-- a path from a first block contains each block at most once
pub once : {n : ℕ} {p : Links} {h : ℕ} {xs : List ℕ} → IsWithin n p → p.prev h ≡ None → IsPath p h xs → (i j : ℕ) → i < j →
    j < length xs → get_or xs i 0 ≢ get_or xs j 0
once {n} {p} {h} {xs} w none a i j lt jx e =
    let m : get_or xs (j - i) 0 ≡ h = meet w none a a i j (omega arith) (omega arith) jx e in
    let r : (j - i - 1) + 1 ≡ j - i = omega arith in
    let s : p.next (get_or xs (j - i - 1) 0) ≡ Some (get_or xs (j - i) 0) = rw r at (a.follows (j - i - 1) (omega arith)) in
    let t : p.prev (get_or xs (j - i) 0) ≡ Some (get_or xs (j - i - 1) 0) = w.back _ _ s in
    let u : p.prev (get_or xs (j - i) 0) ≡ p.prev h = ap p.prev m in
    cc

eqb_apart : (a b : ℕ) → a ≢ b → eqb a b ≡ false
eqb_apart a b ne = grind (arith, common_steps)

pub inside_path : {n : ℕ} {p : Links} {h : ℕ} {xs : List ℕ} → IsWithin n p → h < n → IsPath p h xs → (k : ℕ) →
    k < length xs → get_or xs k 0 < n
inside_path {n} {p} {h} {xs} w below a zero lt = rw a.begins below
inside_path {n} {p} {h} {xs} w below a (suc k) lt =
    w.inside (get_or xs k 0) (get_or xs (suc k) 0) (rw (← add-one) (a.follows k (omega arith)))

-- a path from a first block has at most n blocks
pub path_short : {n : ℕ} {p : Links} {h : ℕ} {xs : List ℕ} → IsWithin n p → p.prev h ≡ None → h < n →
    IsPath p h xs → length xs ≤ n
path_short {n} {p} {h} {xs} w none below a = length-le_from_distinct_below xs n
    (IsDistinct-from_apart eqb xs (λ i j d lt jx.
    let ix : i < length xs = omega arith in
    rw (get_or_default_zero xs i d ix, get_or_default_zero xs j d jx) (eqb_apart _ _ (once w none a i j lt jx))))
    (λ q m.
    let at : Contains xs q = Contains-from_any eqb-true q xs m in
    let e : get_or xs at.0 q ≡ get_or xs at.0 0 = get_or_default_zero xs at.0 q at.1 in
    let f : get_or xs at.0 q ≡ q = at.2 in
    let g : get_or xs at.0 0 < n = inside_path w below a at.0 at.1 in
    omega arith)

-- one more block
pub path_more : {p : Links} {h t : ℕ} {xs : List ℕ} → IsPath p h xs → p.next (get_or xs (length xs - 1) 0) ≡ Some t →
    IsPath p h (xs ++ t ∷ [])
path_more {p} {h} {t} {xs} a e =
    let len : length (xs ++ t ∷ []) ≡ length xs + 1 = grind (arith, common_steps) in
    let some : 0 < length xs = a.some in
    record {
      some = omega arith;
      begins = rw (get_or_append_left xs (t ∷ []) 0 0 some) a.begins;
      follows = λ k lt. ⊎_elim
          (λ (in_xs : k + 1 < length xs). let in_k : k < length xs = omega arith in
          rw (get_or_append_left xs (t ∷ []) 0 k in_k, get_or_append_left xs (t ∷ []) 0 (k + 1) in_xs) (a.follows k in_xs))
          (λ (at_end : length xs ≤ k + 1). let in_k : k < length xs = omega arith in
          let is : k + 1 ≡ length xs = omega arith in
          let was : length xs - 1 ≡ k = omega arith in
          rw (get_or_append_left xs (t ∷ []) 0 k in_k, is, get_or-append_seam xs t [] 0) (rw was at e))
          (cases_lt (k + 1) (length xs));
    }

pub path_one : (p : Links) (h : ℕ) → IsPath p h (h ∷ [])
path_one p h = record { some = lit< tt; begins = refl; follows = λ k lt. absurd (omega arith) }

-- the last block of a longer path
pub last_more : (xs : List ℕ) (t : ℕ) → t ≡ get_or (xs ++ t ∷ []) (length (xs ++ t ∷ []) - 1) 0
last_more xs t = grind (arith, common_steps, get_or-append_seam)

-- a path to a block that no other follows is a chain
pub as_chain : {p : Links} {h last : ℕ} {xs : List ℕ} → IsPath p h xs → p.prev h ≡ None → last ≡ get_or xs (length xs - 1) 0 →
    p.next last ≡ None → IsChain p h xs
as_chain {p} {h} {last} {xs} a first e none = grind (arith, common_steps)

pub as_path : {p : Links} {h : ℕ} {xs : List ℕ} → IsChain p h xs → IsPath p h xs
as_path a = record { some = a.some; begins = a.begins; follows = a.follows }

-- The first index of a code, found among sorted keys.
use Rattle.std.proofs.Common.{◌≡◌, ◌≢◌, ◌∙◌, ◌<◌, ◌≤◌, ◌+◌, ◌-◌, ◌/◌, ◌%◌, ◌^◌, ⊎_elim, ℕ, zero, suc, Bool, true, false, Some, None, List}
use Rattle.std.proofs.Common.{[], ◌∷◌, refl, sym, ap, arith, length, drop, get_or, add-one, option_map, length-drop}
use Rattle.std.specs.Prelude.{◌==◌, if◌then◌else◌, IsPermutation, Contains}
use Rattle.std.specs.List.Sorted.{IsNonDecreasing}
use Rattle.std.proofs.lemmas.Bool.{cases_lt, eq-eqb, ne_eqb}
use Rattle.std.proofs.lemmas.List.{get_or-drop, get_or_default}
use Rattle.std.proofs.lemmas.List.Elements.{Contains-get_or}
use Rattle.std.proofs.lemmas.List.Sorted.{Contains-permutation, IsPermutation-sym}
use Rattle.std.proofs.lemmas.Option.{slice_get-get_or, slice_get_past}
use Rattle.std.proofs.lemmas.Grind.{common_steps}
use Rattle.dw_unit.specs.Codes.{first_place, first_from, key, place_in, IsSplit, Finds, AreKeys}

first_is : (q n : ℕ) (cs : List ℕ) → n < length cs → get_or cs n 0 ≡ q → ((k : ℕ) → k < n → get_or cs k 0 ≢ q) → first_place q cs ≡ Some n
first_is q n [] h e f = absurd (omega arith)
first_is q zero (c ∷ cs) h e f = rw (eq-eqb c q e) refl
first_is q (suc n) (c ∷ cs) h e f =
    rw (ne_eqb c q (f 0 (omega arith)), first_is q n cs (omega arith) e (λ k l. f (suc k) (omega arith)))
    (ap (λ (m : ℕ). Some m) (add-one n))

first_none : (q : ℕ) (cs : List ℕ) → ((k : ℕ) → k < length cs → get_or cs k 0 ≢ q) → first_place q cs ≡ None
first_none q [] f = refl
first_none q (c ∷ cs) f = rw (ne_eqb c q (f 0 (omega arith)), first_none q cs (λ k l. f (suc k) (omega arith))) refl

from_is : (codes : List ℕ) (q i j : ℕ) → i ≤ j → j < length codes → get_or codes j 0 ≡ q →
    ((k : ℕ) → i ≤ k → k < j → get_or codes k 0 ≢ q) →
    first_from codes q i ≡ Some j
from_is codes q i j h l e f =
    let d = length-drop i codes in
    let m : i + (j - i) ≡ j = omega arith in
    ap (option_map (λ (n : ℕ). i + n)) (first_is q (j - i) (drop i codes) (omega arith) (get_or-drop i codes (j - i) 0
    ∙ ap (λ (n : ℕ). get_or codes n 0) m ∙ e)
    (λ k b g. f (i + k) (omega arith) (omega arith) (sym (get_or-drop i codes k 0) ∙ g)))
    ∙ ap (λ (n : ℕ). Some n) m

from_none : (codes : List ℕ) (q i : ℕ) → ((k : ℕ) → i ≤ k → k < length codes → get_or codes k 0 ≢ q) → first_from codes q i ≡ None
from_none codes q i f =
    let d = length-drop i codes in
    ap (option_map (λ (n : ℕ). i + n)) (first_none q (drop i codes)
    (λ k b g. f (i + k) (omega arith) (omega arith) (sym (get_or-drop i codes k 0) ∙ g)))

-- The parts of a key.
code_of : (c j : ℕ) → j < 2 ^ 64 → key c j / 2 ^ 64 ≡ c
code_of c j h = omega arith

place_of : (c j : ℕ) → j < 2 ^ 64 → key c j % 2 ^ 64 ≡ j
place_of c j h = omega arith

between : (c q i j k : ℕ) → i < 2 ^ 64 → k < 2 ^ 64 → j < 2 ^ 64 → key q i ≤ key c j → key c j ≤ key q k → c ≡ q
between c q i j k hi hk hj low high = omega arith

same_of : (x y : ℕ) → (x == y) ≡ true → x ≡ y
same_of x y e = grind (arith, common_steps)

other_of : (x y : ℕ) → (x == y) ≡ false → x ≢ y
other_of x y e same = grind (arith, common_steps)

-- The key at the index that splits the keys.
record IsNext (codes : List ℕ) (q i x : ℕ) : Type 0 where
  j : ℕ
  within : j < length codes
  is : x ≡ key (get_or codes j 0) j
  from : key q i ≤ x
  least : (k : ℕ) → i ≤ k → k < length codes → get_or codes k 0 ≡ q → x ≤ key q k

module _ (codes raw keys : List ℕ) (are : AreKeys codes raw) (same : IsPermutation raw keys) (rising : IsNonDecreasing keys)
    (small : length codes ≤ 2 ^ 64) where
  -- The index of a later key.
  record IsLater (q k p : ℕ) : Type 0 where
    at : ℕ
    from : p ≤ at
    within : at < length keys
    is : get_or keys at 0 ≡ key q k

  later : (q i p k : ℕ) → IsSplit keys (key q i) p → i ≤ k → k < length codes → get_or codes k 0 ≡ q → IsLater q k p
  later q i p k split h l e =
      let in_raw : Contains raw (get_or raw k 0) = Contains-get_or raw k 0 (omega (arith, are.count)) in
      let there = Contains-permutation raw keys (get_or raw k 0) same in_raw in
      let is : get_or keys there.0 0 ≡ key q k =
      get_or_default keys there.0 0 (get_or raw k 0) there.1 ∙ there.2 ∙ are.each k l ∙ ap (λ (c : ℕ). key c k) e in
      ⊎_elim
      (λ (less : there.0 < p). absurd (let b = split.below there.0 0 less in omega arith))
      (λ (from : p ≤ there.0). record { at = there.0; from = from; within = there.1; is = is })
      (cases_lt there.0 p)

  next : (q i p : ℕ) → IsSplit keys (key q i) p → p < length keys → IsNext codes q i (get_or keys p 0)
  next q i p split h =
      let there = Contains-permutation keys raw (get_or keys p 0) (IsPermutation-sym raw keys same) (Contains-get_or keys p 0 h) in
      record {
        j = there.0;
        within = omega (arith, are.count, there.1);
        is = sym there.2 ∙ get_or_default raw there.0 (get_or keys p 0) 0 there.1 ∙ are.each there.0 (omega (arith, are.count, there.1));
        from = split.above p 0 (omega arith) h;
        least = λ k f l e. let r = later q i p k split f l e in
            let up : get_or keys p 0 ≤ get_or keys r.at 0 = rising p r.at 0 r.from r.within in omega (arith, r.is);
      }

  found : (q i x : ℕ) → i < 2 ^ 64 → IsNext codes q i x → (b : Bool) → (x / 2 ^ 64 == q) ≡ b →
      (if b then Some (x % 2 ^ 64) else None) ≡ first_from codes q i
  found q i x w n true e =
      let j = n.j in
      let below : j < 2 ^ 64 = omega (arith, n.within, small) in
      let code_is : get_or codes j 0 ≡ q = sym (ap (λ (y : ℕ). y / 2 ^ 64) n.is ∙ code_of (get_or codes j 0) j below)
      ∙ same_of (x / 2 ^ 64) q e in
      let place_is : x % 2 ^ 64 ≡ j = ap (λ (y : ℕ). y % 2 ^ 64) n.is ∙ place_of (get_or codes j 0) j below in
      let x_is : x ≡ key q j = n.is ∙ ap (λ (c : ℕ). key c j) code_is in
      ap (λ (y : ℕ). Some y) place_is ∙ sym (from_is codes q i j (omega (arith, n.from, x_is)) n.within code_is
      (λ k f l g. absurd (let up = n.least k f (omega (arith, n.within)) g in omega (arith, x_is))))
  found q i x w n false e =
      let j = n.j in
      let below : j < 2 ^ 64 = omega (arith, n.within, small) in
      let other : get_or codes j 0 ≢ q = λ same. other_of (x / 2 ^ 64) q e (ap (λ (y : ℕ). y / 2 ^ 64) n.is
      ∙ code_of (get_or codes j 0) j below ∙ same) in
      sym (from_none codes q i (λ k f l g. let up = n.least k f l g in
      other (between (get_or codes j 0) q i j k (omega arith) (omega (arith, small)) below (omega (arith, n.is, n.from))
      (omega (arith, n.is)))))

  pub keys_find : Finds codes keys
  keys_find q i p w split = ⊎_elim
      (λ (h : p < length keys). ap (place_in q) (slice_get-get_or keys p 0 h)
      ∙ found q i (get_or keys p 0) w (next q i p split h) (get_or keys p 0 / 2 ^ 64 == q) refl)
      (λ (h : length keys ≤ p). ap (place_in q) (slice_get_past keys p h)
      ∙ sym (from_none codes q i (λ k f l e. let r = later q i p k split f l e in absurd (omega (arith, r.from, r.within)))))
      (cases_lt p (length keys))

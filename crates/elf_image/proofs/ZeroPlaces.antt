-- The indices of zero bytes in a string table, and the string that ends at one.
use Rattle.std.proofs.Common.{◌≡◌, ◌≢◌, ◌∙◌, sym, ap, subst, ℕ, zero, suc, ◌+◌, ◌-◌, ◌≤◌, ◌<◌, inl, inr, ⊎_elim, Bool, true, rules}
use Rattle.std.proofs.Common.{false, not, List, [], ◌∷◌, length, get_or, take, drop, length-drop, ltb, ltb-true, arith}
use Rattle.std.proofs.lemmas.Bool.{cases_Bool, cases_lt, cond-true, cond-false, eqb-true, eq-eqb}
use Rattle.std.proofs.lemmas.Bool.Decides.{eqb_tells, nat_tests}
use Rattle.std.proofs.lemmas.Grind.{common_steps}
use Rattle.std.proofs.lemmas.List.{get_or-drop}
use Rattle.std.proofs.lemmas.List.Sums.{prefix_len_is}
use Rattle.std.specs.Prelude.{◌==◌}
use Rattle.memchr.specs.Find.{Passes, places_from, places, is_byte}
use Rattle.elf_image.specs.file.Sections.{text_of}
use Rattle.elf_image.specs.internal.TextEnds.{IsTextEnd}
use Rattle.std.specs.List.{prefix_len}
use Rattle.std.specs.List.Sorted.{IsPartitionPoint, IsPartitionedBy}
use Rattle.std.proofs.lemmas.List.Sorted.{IsPartitionedBy-ltb}

-- The list has exactly the indices from low to before high that pass, ascending.
pub record AreListed (test : ℕ → Bool) (hay : List ℕ) (low high : ℕ) (zs : List ℕ) : Type 0 where
  pub each : (k d : ℕ) → k < length zs → (low ≤ get_or zs k d) × (get_or zs k d < high) × Passes test hay (get_or zs k d)
  pub rising : (j k d : ℕ) → j ≤ k → k < length zs → get_or zs j d ≤ get_or zs k d
  pub all : (p d : ℕ) → low ≤ p → p < high → Passes test hay p → (k : ℕ) × (k < length zs) × (get_or zs k d ≡ p)

module _ (test : ℕ → Bool) (hay : List ℕ) (i high : ℕ) (later : List ℕ) (here : Passes test hay i) (below : i < high)
    (rest : AreListed test hay (i + 1) high later) where
  cons-each : (k d : ℕ) → k < length (i ∷ later) → (i ≤ get_or (i ∷ later) k d) × (get_or (i ∷ later) k d < high)
      × Passes test hay (get_or (i ∷ later) k d)
  cons-each zero d lt = (omega arith, below, here)
  cons-each (suc k) d lt = let was = rest.each k d (omega arith) in let low : i + 1 ≤ get_or later k d = was.0 in
      (omega arith, was.1, was.2)

  cons-rising : (j k d : ℕ) → j ≤ k → k < length (i ∷ later) → get_or (i ∷ later) j d ≤ get_or (i ∷ later) k d
  cons-rising zero k d le lt = (cons-each k d lt).0
  cons-rising (suc j) zero d le lt = absurd (omega arith)
  cons-rising (suc j) (suc k) d le lt = rest.rising j k d (omega arith) (omega arith)

  cons-all : (p d : ℕ) → i ≤ p → p < high → Passes test hay p → (k : ℕ) × (k < length (i ∷ later)) × (get_or (i ∷ later) k d ≡ p)
  cons-all p d from to passes =
      ⊎_elim
      (λ (more : i < p). let found = rest.all p d (omega arith) to passes in let lt : found.0 < length later = found.1 in
      (suc found.0, omega arith, found.2))
      (λ (less : p ≤ i). (zero, omega arith, omega arith))
      (cases_lt i p)

  cons-listed : AreListed test hay i high (i ∷ later)
  cons-listed = record { each = cons-each; rising = cons-rising; all = cons-all }

skip-listed : (test : ℕ → Bool) (hay : List ℕ) (i high : ℕ) (later : List ℕ) → (Passes test hay i → ⊥) →
    AreListed test hay (i + 1) high later → AreListed test hay i high later
skip-listed test hay i high later fails rest = search (rules, get_or)

pub places_from-listed : (test : ℕ → Bool) (hay : List ℕ) (i n high : ℕ) → i + n ≡ high →
    AreListed test hay i high (places_from test hay i n)
unfolding places_from
places_from-listed test hay i zero high e = search rules
places_from-listed test hay i (suc n) high e =
    search (
      rules,
      get_or,
      cond-true,
      cons-listed,
      cond-false,
      skip-listed,
      cases_Bool,
      places_from-listed test hay (i + 1) n high
          (omega arith),
    )

pub places-listed : (table : List ℕ) → AreListed (is_byte 0) table 0 (length table) (places (is_byte 0) table)
places-listed table = places_from-listed (is_byte 0) table 0 (length table - 0) (length table) (omega arith)

-- The first zero byte at or after an index is the first in the list with this property.
module _ (table zs : List ℕ) (listed : AreListed (is_byte 0) table 0 (length table) zs) (index next : ℕ)
    (before : (k : ℕ) → k < next → k < length zs → get_or zs k 0 < index) where
  no_zero : (end : ℕ) → (next < length zs → end ≤ get_or zs next 0) → (place : ℕ) → index ≤ place →
      place < length table → place < end → get_or table place 0 ≢ 0
  no_zero end up place from within to is =
      let found = listed.all place 0 (omega arith) within (eq-eqb _ _ is) in
      let lt : found.0 < length zs = found.1 in
      let at : get_or zs found.0 0 ≡ place = found.2 in
      ⊎_elim
      (λ (low : found.0 < next). let less : get_or zs found.0 0 < index = before found.0 low lt in omega arith)
      (λ (high : next ≤ found.0).
      let rises : get_or zs next 0 ≤ get_or zs found.0 0 = listed.rising next found.0 0 high lt in
      let limit : end ≤ get_or zs next 0 = up (omega arith) in
      omega arith)
      (cases_lt found.0 next)

  pub IsTextEnd-listed : next < length zs → index ≤ get_or zs next 0 → IsTextEnd table index (get_or zs next 0)
  IsTextEnd-listed lt above =
      let at = listed.each next 0 lt in
      let within : get_or zs next 0 < length table = at.1 in
      record {
        within = omega arith;
        after = λ _. above;
        none = λ place from to. no_zero (get_or zs next 0) (λ _. omega arith) place from (omega arith) to;
        ends = λ _. eqb-true _ _ at.2;
      }

  pub IsTextEnd-last : length zs ≤ next → IsTextEnd table index (length table)
  IsTextEnd-last past = record {
    within = omega arith;
    after = λ le. le;
    none = λ place from to. no_zero (length table) (λ lt. absurd (omega arith)) place from to to;
    ends = λ lt. absurd (omega arith);
  }

text_byte : (b : ℕ) → b ≢ 0 → not (b == 0) ≡ true
text_byte b other = elim (eqb_tells b 0) [ inl same ↦ absurd (other same.1) | inr differ ↦ ap not differ.0 ]

end_byte : (b : ℕ) → b ≡ 0 → not (b == 0) ≡ false
end_byte b same = ap not (eq-eqb b 0 same)

pub text_of-end : (table : List ℕ) (index end : ℕ) → IsTextEnd table index end → index ≤ end →
    take (end - index) (drop index table) ≡ text_of table index
text_of-end table index end is le =
    let size : length (drop index table) ≡ length table - index = length-drop index table in
    let within : end ≤ length table = is.within in
    let count : prefix_len (λ (b : ℕ). not (b == 0)) (drop index table) ≡ end - index =
    prefix_len_is
    (λ (b : ℕ). not (b == 0))
    (drop index table)
    (end - index)
    0
    (omega arith)
    (λ k lt. text_byte (get_or (drop index table) k 0)
    (λ zero. is.none (index + k) (omega arith) (omega arith) (sym (get_or-drop index table k 0) ∙ zero)))
    (λ lt.
    let place : index + (end - index) ≡ end = omega arith in
    end_byte
    (get_or (drop index table) (end - index) 0)
    (get_or-drop index table (end - index) 0 ∙ ap (λ (k : ℕ). get_or table k 0) place ∙ is.ends (omega arith))) in
    ap (λ (n : ℕ). take n (drop index table)) (sym count)

pub text_of-past : (table : List ℕ) (index end : ℕ) → IsTextEnd table index end → end < index → [] ≡ text_of table index
text_of-past table index end is past = grind (arith, common_steps, drop)

-- From a binary search among the zero bytes.
zeros-listed : (table zs : List ℕ) → zs ≡ places (is_byte 0) table → AreListed (is_byte 0) table 0 (length table) zs
zeros-listed table zs same = subst (AreListed (is_byte 0) table 0 (length table)) (sym same) (places-listed table)

pub zeros-partitioned : (table zs : List ℕ) (index : ℕ) → zs ≡ places (is_byte 0) table → IsPartitionedBy (λ z. ltb z index) zs
zeros-partitioned table zs index same =
    let listed = zeros-listed table zs same in
    IsPartitionedBy-ltb (λ z. z) zs index (λ i j d le lt. listed.rising i j d le lt)

module _ (table zs : List ℕ) (index next : ℕ) (same : zs ≡ places (is_byte 0) table)
    (point : IsPartitionPoint (λ z. ltb z index ≡ true) (λ z. ltb z index ≡ false) zs next) where
  before_next : (k : ℕ) → k < next → k < length zs → get_or zs k 0 < index
  before_next k lt within = ltb-true _ _ (point.0 k 0 (omega arith) lt)

  pub IsTextEnd-at : next < length zs → IsTextEnd table index (get_or zs next 0)
  IsTextEnd-at lt =
      let at : ltb (get_or zs next 0) index ≡ false = point.1 next 0 (omega arith) lt in
      IsTextEnd-listed table zs (zeros-listed table zs same) index next before_next lt (grind (arith, nat_tests))

  pub IsTextEnd-past : length zs ≤ next → IsTextEnd table index (length table)
  IsTextEnd-past past = IsTextEnd-last table zs (zeros-listed table zs same) index next before_next past

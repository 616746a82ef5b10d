-- Counts of pairs, with one more move.
use Rattle.std.proofs.Common.{◌≡◌, ◌+◌, ◌≤◌, ℕ, Bool, true, false, List, [], ◌∷◌, refl, ap, sym, arith, cond, map, Some}
use Rattle.std.specs.Prelude.{◌==◌, ◌&&◌, if◌then◌else◌, unwrap_or}
use Rattle.std.specs.Map.{lookup, set_value}
use Rattle.std.specs.Map.Iter.{deref_pair}
use denote.Ref.{Bor}
use Rattle.std.proofs.lemmas.Bool.{eqb-true, eq-eqb, and_parts}
use Rattle.std.proofs.lemmas.List.Sums.{sum_by-cons}
use Rattle.indexmap.specs.IndexMap.{insert_entry}
use Rattle.edge_profile.specs.PairCounts.{Counted, count_among, is_pair}

abbrev pub flat : List ((ℕ × ℕ) × ℕ) → List Counted
flat entries = map (λ e. (e.0.0, e.0.1, e.1)) entries

-- entries that are read one by one
pub flat_read : (entries : List (Bor (ℕ × ℕ) × Bor ℕ)) →
    map (λ e. (e.0.now.0, e.0.now.1, e.1.now)) entries ≡ flat (map deref_pair entries)
flat_read [] = refl
flat_read (e ∷ entries) = ap (λ rest. (e.0.now.0, e.0.now.1, e.1.now) ∷ rest) (flat_read entries)

count-cons : (x y : ℕ) (p : Counted) (said : List Counted) →
    count_among x y (p ∷ said) ≡ (if is_pair x y p then p.2 else 0) + count_among x y said
count-cons x y p said = sum_by-cons (λ q. if is_pair x y q then q.2 else 0) p said

abbrev one_of : ℕ → ℕ → ℕ → ℕ → ℕ
one_of x y from to = if is_pair x y (from, to, 1) then 1 else 0

one_more : (b : Bool) (n : ℕ) → (if b then n + 1 else 0) ≡ (if b then n else 0) + (if b then 1 else 0)
one_more true n = refl
one_more false n = refl

module _ (from to : ℕ) where
  -- the components of two equal pairs are equal
  parts : (k : ℕ × ℕ) → (from == k.0 && to == k.1) ≡ true → (from ≡ k.0) × (to ≡ k.1)
  parts k same =
      let both = and_parts (from == k.0) (to == k.1) same in
      (eqb-true from k.0 both.0, eqb-true to k.1 both.1)

  pub known-le : (es : List ((ℕ × ℕ) × ℕ)) →
      unwrap_or (lookup (λ k. from == k.0 && to == k.1) es) 0 ≤ count_among from to (flat es)
  known-le [] = omega arith
  known-le (e ∷ es) = at (from == e.0.0 && to == e.0.1) refl (known-le es)
    where
      at : (b : Bool) → (from == e.0.0 && to == e.0.1) ≡ b
          → unwrap_or (lookup (λ k. from == k.0 && to == k.1) es) 0 ≤ count_among from to (flat es)
          → unwrap_or (cond b (Some e.1) (lookup (λ k. from == k.0 && to == k.1) es)) 0 ≤ count_among from to (flat (e ∷ es))
      at true same rest =
          let both = parts e.0 same in
          let own : is_pair from to (e.0.0, e.0.1, e.1) ≡ true =
          rw (eq-eqb e.0.0 from (sym both.0), eq-eqb e.0.1 to (sym both.1)) refl in
          let here : (if is_pair from to (e.0.0, e.0.1, e.1) then e.1 else 0) ≡ e.1 = ap (λ b. if b then e.1 else 0) own in
          omega (arith, count-cons from to (e.0.0, e.0.1, e.1) (flat es), here)
      at false other rest = omega (arith, count-cons from to (e.0.0, e.0.1, e.1) (flat es), rest)

  pub count_inserted : (n : ℕ) (es : List ((ℕ × ℕ) × ℕ)) → n ≡ unwrap_or (lookup (λ k. from == k.0 && to == k.1) es) 0 → (x y : ℕ)
      → count_among x y (flat (insert_entry (λ k q. k.0 == q.0 && k.1 == q.1) es (from, to) (n + 1)))
      ≡ count_among x y (flat es) + (if is_pair x y (from, to, 1) then 1 else 0)
  count_inserted n [] is x y =
      let none : (if is_pair x y (from, to, n + 1) then n + 1 else 0) ≡ (if is_pair x y (from, to, 1) then 1 else 0)
      = ap (λ m. if is_pair x y (from, to, 1) then m + 1 else 0) is in
      omega (arith, count-cons x y (from, to, n + 1) [], none)
  count_inserted n (e ∷ es) is x y = at (from == e.0.0 && to == e.0.1) refl is (λ later. count_inserted n es later x y)
    where
      at : (b : Bool) → (from == e.0.0 && to == e.0.1) ≡ b
          → n ≡ unwrap_or (cond b (Some e.1) (lookup (λ k. from == k.0 && to == k.1) es)) 0
          → (n ≡ unwrap_or (lookup (λ k. from == k.0 && to == k.1) es) 0
          → count_among x y (flat (insert_entry (λ k q. k.0 == q.0 && k.1 == q.1) es (from, to) (n + 1)))
          ≡ count_among x y (flat es) + (if is_pair x y (from, to, 1) then 1 else 0))
          → count_among x y
          (flat (cond b ((e.0, n + 1) ∷ es) (e ∷ insert_entry (λ k q. k.0 == q.0 && k.1 == q.1) es (from, to) (n + 1))))
          ≡ count_among x y (flat (e ∷ es)) + (if is_pair x y (from, to, 1) then 1 else 0)
      at true same now rest =
          let both = parts e.0 same in
          let of : one_of x y from to ≡ one_of x y e.0.0 e.0.1 = (λ i. one_of x y (both.0 i) (both.1 i)) in
          let was : (if is_pair x y (e.0.0, e.0.1, e.1) then n else 0) ≡ (if is_pair x y (e.0.0, e.0.1, e.1) then e.1 else 0)
          = ap (λ m. if is_pair x y (e.0.0, e.0.1, e.1) then m else 0) now in
          omega (
            arith,
            count-cons x y (e.0.0, e.0.1, n + 1) (flat es),
            count-cons x y (e.0.0, e.0.1, e.1) (flat es),
            one_more (is_pair x y (e.0.0, e.0.1, 1)) n,
            of,
            was,
          )
      at false other now rest =
          omega (
            arith,
            count-cons x y (e.0.0, e.0.1, e.1) (flat (insert_entry (λ k q. k.0 == q.0 && k.1 == q.1) es (from, to) (n + 1))),
            count-cons x y (e.0.0, e.0.1, e.1) (flat es),
            rest now,
          )

-- the count of a pair that is there is raised
pub set_raised : (from to n w : ℕ) (es : List ((ℕ × ℕ) × ℕ)) → Some n ≡ lookup (λ k. from == k.0 && to == k.1) es
    → set_value (λ k. from == k.0 && to == k.1) es w ≡ insert_entry (λ k q. k.0 == q.0 && k.1 == q.1) es (from, to) w
set_raised from to n w [] there = absurd (cc)
set_raised from to n w (e ∷ es) there = at (from == e.0.0 && to == e.0.1) there (set_raised from to n w es)
  where
    at : (b : Bool) → Some n ≡ cond b (Some e.1) (lookup (λ k. from == k.0 && to == k.1) es)
        → (Some n ≡ lookup (λ k. from == k.0 && to == k.1) es
        → set_value (λ k. from == k.0 && to == k.1) es w ≡ insert_entry (λ k q. k.0 == q.0 && k.1 == q.1) es (from, to) w)
        → cond b ((e.0, w) ∷ es) (e ∷ set_value (λ k. from == k.0 && to == k.1) es w)
        ≡ cond b ((e.0, w) ∷ es) (e ∷ insert_entry (λ k q. k.0 == q.0 && k.1 == q.1) es (from, to) w)
    at true there later = refl
    at false there later = ap (λ rest. e ∷ rest) (later there)

-- Searches in ascending columns.
use Rattle.std.proofs.Common.{◌≡◌, ◌+◌, ◌*◌, ◌-◌, ◌<◌, ◌≤◌, ◌∙◌, ℕ, zero, suc, List, [], ◌∷◌, nat_le, cond, length, take, drop}
use Rattle.std.proofs.Common.{get_or, arith, sym, ap, ⊎_elim}
use Rattle.std.specs.Prelude.{min}
use Rattle.std.proofs.lemmas.Bool.{cases_lt}
use Rattle.std.proofs.lemmas.Grind.{common_steps}
use Rattle.std.specs.List.Sorted.{IsNonDecreasingBy}
use Rattle.std.proofs.lemmas.List.{get_or_default, get_or-take, get_or-drop, length-take, length-drop}
use Rattle.std.proofs.lemmas.List.Sums.{sum_by-cons}
use Rattle.rb_lanes.specs.Ranks.{rank}
use Rattle.addr_map.specs.internal.Columns.{IsAscending, IsFirsts, IsGroupCount}

-- The first k members are at most x, and the others are above x.
pub record IsRank (xs : List ℕ) (x k : ℕ) : Type 0 where
  pub within : k ≤ length xs
  pub low : (i : ℕ) → i < k → get_or xs i 0 ≤ x
  pub high : (i : ℕ) → k ≤ i → i < length xs → x < get_or xs i 0

rank_low : (y x : ℕ) (ys : List ℕ) → y ≤ x → rank (y ∷ ys) x ≡ suc (rank ys x)
rank_low y x ys le = grind (arith, common_steps, sum_by-cons (λ z. cond (nat_le z x) 1 0) y ys)

rank_high : (y x : ℕ) (ys : List ℕ) → x < y → rank (y ∷ ys) x ≡ rank ys x
rank_high y x ys lt = grind (arith, common_steps, sum_by-cons (λ z. cond (nat_le z x) 1 0) y ys)

-- Such a k is the count.
pub rank_is : (xs : List ℕ) (x k : ℕ) → IsRank xs x k → rank xs x ≡ k
rank_is [] x k r = grind (arith, common_steps, r.within)
rank_is (y ∷ ys) x zero r =
    rank_high y x ys (r.high 0 (omega arith) (omega arith))
    ∙ rank_is ys x zero (record {
      within = omega arith;
      low = λ i lt. absurd (omega arith);
      high = λ i le lt. r.high (suc i) (omega arith) (omega arith);
    })
rank_is (y ∷ ys) x (suc k) r =
    rank_low y x ys (r.low 0 (omega arith))
    ∙ ap suc (rank_is ys x k (record {
      within = omega (arith, r.within);
      low = λ i lt. r.low (suc i) (omega arith);
      high = λ i le lt. r.high (suc i) (omega arith) (omega arith);
    }))

tail_ascends : (y : ℕ) (ys : List ℕ) → IsAscending (y ∷ ys) → IsAscending ys
tail_ascends y ys up i j le lt = up (suc i) (suc j) (omega arith) (omega arith)

-- An ascending column, with an arbitrary number for indices past its end.
pub non_decreasing : (xs : List ℕ) → IsAscending xs → IsNonDecreasingBy (λ n. n) xs
non_decreasing xs up i j d le lt = rw (get_or_default xs i d 0 (omega arith), get_or_default xs j d 0 lt) (up i j le lt)

-- An ascending column has such a k.
found : (xs : List ℕ) (x : ℕ) → IsAscending xs → (k : ℕ) × IsRank xs x k
found [] x up = (0, record { within = omega arith; low = λ i lt. absurd (omega arith); high = λ i le lt. absurd (omega arith) })
found (y ∷ ys) x up =
    ⊎_elim
    (λ (lt : x < y). (
      0,
      record {
        within = omega arith;
        low = λ i lt. absurd (omega arith);
        high = λ i le in_xs. let first : y ≤ get_or (y ∷ ys) i 0 = up 0 i (omega arith) in_xs in omega arith;
      },
    ))
    (λ (le : y ≤ x).
    let rest = found ys x (tail_ascends y ys up) in
    let r = rest.1 in (
      suc rest.0,
      record {
        within = omega (arith, r.within);
        low = λ i lt. low_from ys y x rest.0 le r i lt;
        high = λ i le lt. high_from ys y x rest.0 r i le lt;
      },
    ))
    (cases_lt x y)
  where
    low_from : (ys : List ℕ) (y x k : ℕ) → y ≤ x → IsRank ys x k → (i : ℕ) → i < suc k → get_or (y ∷ ys) i 0 ≤ x
    low_from ys y x k le r zero lt = le
    low_from ys y x k le r (suc i) lt = r.low i (omega arith)

    high_from : (ys : List ℕ) (y x k : ℕ) → IsRank ys x k → (i : ℕ) → suc k ≤ i → i < length (y ∷ ys) → x < get_or (y ∷ ys) i 0
    high_from ys y x k r zero le lt = absurd (omega arith)
    high_from ys y x k r (suc i) le lt = r.high i (omega arith) (omega arith)

pub rank_at : (xs : List ℕ) (x : ℕ) → IsAscending xs → IsRank xs x (rank xs x)
rank_at xs x up = let k = found xs x up in rw (rank_is xs x k.0 k.1) k.1

-- The level above an ascending column.
pub firsts_ascend : (firsts column : List ℕ) → IsFirsts firsts column → IsAscending column → IsAscending firsts
firsts_ascend firsts column f up i j le lt =
    let count = f.count in
    let inside : 64 * j < length column = omega arith in
    let a : get_or firsts i 0 ≡ get_or column (64 * i) 0 = f.each i (omega arith) in
    let b : get_or firsts j 0 ≡ get_or column (64 * j) 0 = f.each j lt in
    let c : get_or column (64 * i) 0 ≤ get_or column (64 * j) 0 = up (64 * i) (64 * j) (omega arith) inside in
    omega arith

pub group_count : (firsts column : List ℕ) (x groups : ℕ) → IsFirsts firsts column → IsAscending column → groups ≡ rank firsts x
    → IsGroupCount column x groups
group_count firsts column x groups f up e =
    let r : IsRank firsts x groups = rw e (rank_at firsts x (firsts_ascend firsts column f up)) in
    let count = f.count in
    let within = r.within in
    record {
      low = λ some.
          let inside : groups - 1 < length firsts = omega arith in
          let at : get_or firsts (groups - 1) 0 ≡ get_or column (64 * (groups - 1)) 0 = f.each (groups - 1) inside in
          let low : get_or firsts (groups - 1) 0 ≤ x = r.low (groups - 1) (omega arith) in
          (omega arith, omega arith);
      high = λ more.
          let inside : groups < length firsts = omega arith in
          let at : get_or firsts groups 0 ≡ get_or column (64 * groups) 0 = f.each groups inside in
          let high : x < get_or firsts groups 0 = r.high groups (omega arith) inside in
          omega arith;
    }

-- The members of a group.
pub in_group : (column : List ℕ) (start i : ℕ) → i < 64 → get_or (take 64 (drop start column)) i 0 ≡ get_or column (start + i) 0
in_group column start i lt = get_or-take 64 (drop start column) i 0 lt ∙ get_or-drop start column i 0

pub length_group : (column : List ℕ) (start i : ℕ) → i < length (take 64 (drop start column))
    → (i < 64) × (start + i < length column)
length_group column start i lt = let a = length-take 64 (drop start column) in let b = length-drop start column in
    (omega arith, omega arith)

pub group_ascends : (column : List ℕ) (start : ℕ) → IsAscending column → IsAscending (take 64 (drop start column))
group_ascends column start up i j le lt =
    let inside = length_group column start j lt in
    rw (in_group column start i (omega arith), in_group column start j inside.0)
    (up (start + i) (start + j) (omega arith) inside.1)

-- No group starts with a member that is at most x.
pub rank_none : (column : List ℕ) (x groups : ℕ) → IsAscending column → IsGroupCount column x groups → groups ≡ 0
    → 0 ≡ rank column x
rank_none column x groups up g none =
    sym (rank_is column x 0 (record {
      within = omega arith;
      low = λ i lt. absurd (omega arith);
      high = λ i le lt.
          let first : get_or column 0 0 ≤ get_or column i 0 = up 0 i le lt in
          let at : 64 * groups ≡ 0 = omega arith in
          let high : x < get_or column 0 0 = rw at at (g.high (omega arith)) in
          omega arith;
    }))

-- The last group that starts with a member that is at most x.
pub rank_group : (column group : List ℕ) (x groups start : ℕ) → IsAscending column → IsGroupCount column x groups → 0 < groups
    → start ≡ 64 * (groups - 1) → group ≡ take 64 (drop start column)
    → start + rank group x ≡ rank column x
rank_group column group x groups start up g some s e =
    let front : (start < length column) × (get_or column start 0 ≤ x) = rw s (g.low some) in
    let r : IsRank group x (rank group x) = rank_at group x (rw e (group_ascends column start up)) in
    let within = r.within in
    let short : length group ≤ 64 = rw e (omega (arith, length-take 64 (drop start column))) in
    let long : length group ≡ min 64 (length column - start)
    = rw e (length-take 64 (drop start column) ∙ ap (min 64) (length-drop start column)) in
    let member : (j : ℕ) → j < 64 → get_or group j 0 ≡ get_or column (start + j) 0 = λ j lt. rw e (in_group column start j lt) in
    sym (rank_is column x (start + rank group x) (record {
      within = omega arith;
      low = λ i lt. ⊎_elim
          (λ (before : i < start).
          let le : get_or column i 0 ≤ get_or column start 0 = up i start (omega arith) front.0 in
          omega (arith, front.1))
          (λ (inside : start ≤ i).
          let at : start + (i - start) ≡ i = omega arith in
          rw at at (rw (member (i - start) (omega arith)) at (r.low (i - start) (omega arith))))
          (cases_lt i start);
      high = λ i le lt. ⊎_elim
          (λ (inside : i < start + 64).
          let at : start + (i - start) ≡ i = omega arith in
          rw at at (rw (member (i - start) (omega arith)) at (r.high (i - start) (omega arith) (omega arith))))
          (λ (after : start + 64 ≤ i).
          let next : 64 * groups ≤ i = omega arith in
          let first : x < get_or column (64 * groups) 0 = g.high (omega arith) in
          let rises : get_or column (64 * groups) 0 ≤ get_or column i 0 = up (64 * groups) i next lt in
          omega arith)
          (cases_lt i (start + 64));
    }))

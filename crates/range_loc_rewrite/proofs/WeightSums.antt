-- Sums of weights over lists.
use Rattle.std.proofs.Common.{◌≡◌, ◌+◌, ◌==◌, ◌++◌, ◌∷◌, [], ℕ, Bool, true, false, List, refl, sym, subst, arith, map, filter}
use Rattle.std.specs.Prelude.{if◌then◌else◌, not}
use Rattle.std.specs.List.{list_any}
use Rattle.answer_runs.specs.Weights.{distinct}
use Rattle.cover_lists.specs.ListWeights.{IsSumOf}
use Rattle.cover_lists.specs.ListWeights.IsSumOf.{none, more}
use Rattle.list_units.specs.ReadLists.{firsts}
use Rattle.list_units.proofs.FirstOffsets.{once, absent}

-- A sum over two lists.
pub record IsSumOfTwo {X : Type 0} (W : X → ℕ → Type 0) (xs ys : List X) (n : ℕ) : Type 0 where
  pub first : ℕ
  pub second : ℕ
  pub of_first : IsSumOf W xs first
  pub of_second : IsSumOf W ys second
  pub sum : n ≡ first + second

pub of_two : {X : Type 0} (W : X → ℕ → Type 0) (xs ys : List X) (n : ℕ) → IsSumOf W (xs ++ ys) n → IsSumOfTwo W xs ys n
of_two W [] ys n s = record { first = 0; second = n; of_first = none; of_second = s; sum = omega arith }
of_two W (x ∷ xs) ys _ (more _ _ n m w s) =
    let two = of_two W xs ys m s in
    record {
      first = n + two.first;
      second = two.second;
      of_first = more x xs n two.first w two.of_first;
      of_second = two.of_second;
      sum = omega (arith, two.sum);
    }

pub sum_map : {X Y : Type 0} (W : Y → ℕ → Type 0) (V : X → ℕ → Type 0) (f : X → Y) → ((x : X) (m : ℕ) → W (f x) m → V x m) →
    (xs : List X) (n : ℕ) → IsSumOf W (map f xs) n → IsSumOf V xs n
sum_map W V f each [] _ none = none
sum_map W V f each (x ∷ xs) _ (more _ _ n m w s) = more x xs n m (each x n w) (sum_map W V f each xs m s)

moved : {X : Type 0} (W : X → ℕ → Type 0) (xs ys : List X) (x : X) (n : ℕ) → IsSumOf W (x ∷ (xs ++ ys)) n → IsSumOf W (xs ++ x ∷ ys) n
moved W [] ys x n s = s
moved W (y ∷ xs) ys x _ (more _ _ n _ w (more _ _ k m v s)) =
    let same : k + (n + m) ≡ n + (k + m) = omega arith in
    subst (IsSumOf W (y ∷ (xs ++ x ∷ ys))) same
    (more y (xs ++ x ∷ ys) k (n + m) v (moved W xs ys x (n + m) (more x (xs ++ ys) n m w s)))

-- Each number once, at any of its occurrences.
pub by_firsts : (W : ℕ → ℕ → Type 0) (ns : List ℕ) (sum : ℕ) → IsSumOf W (firsts ns) sum → IsSumOf W (distinct ns) sum
by_firsts W [] sum s = s
by_firsts W (n ∷ ns) sum s = step (list_any (λ m. m == n) ns) refl (by_firsts W ns)
  where
    apart : ((m : ℕ) → IsSumOf W (firsts ns) m → IsSumOf W (distinct ns) m) → (l : List ℕ) (sum : ℕ) → IsSumOf W (n ∷ l) sum →
        l ≡ firsts ns →
        IsSumOf W (n ∷ distinct ns) sum
    apart ih l _ (more _ _ k m w s) e = more n (distinct ns) k m w (ih m (subst (λ (l : List ℕ). IsSumOf W l m) e s))

    step : (b : Bool) → list_any (λ m. m == n) ns ≡ b → ((m : ℕ) → IsSumOf W (firsts ns) m → IsSumOf W (distinct ns) m) →
        IsSumOf W (if list_any (λ m. m == n) ns then distinct ns else n ∷ distinct ns) sum
    step true e ih =
        let o = once ns n e in
        subst (λ (b : Bool). IsSumOf W (if b then distinct ns else n ∷ distinct ns) sum) (sym e)
        (ih sum
        (subst (λ (l : List ℕ). IsSumOf W l sum) (sym o.is)
        (moved W o.before o.behind n sum (subst (λ (l : List ℕ). IsSumOf W (n ∷ l) sum) o.others s))))
    step false e ih =
        subst (λ (b : Bool). IsSumOf W (if b then distinct ns else n ∷ distinct ns) sum) (sym e)
        (apart ih (filter (λ m. not (n == m)) (firsts ns)) sum s (absent ns n e))

-- Counting the registers that get a rule: sets of them as the code keeps them.
use Rattle.std.specs.Prelude.{ℕ, ◌≡◌, ◌+◌, ◌==◌, ◌++◌, ◌||◌, List, length}
use Rattle.std.specs.List.{list_any}
use Rattle.std.specs.Ordering.{nat_cmp}
use Rattle.std.specs.BTreeSet.{BTreeSet, contains}
use Rattle.answer_runs.specs.Weights.{distinct}
use Rattle.cfi_rows.specs.declared.registers.Registers.{Registers}

-- a set has just the numbers of a list
abbrev pub AreIn : List ℕ → BTreeSet ℕ → Type 0
AreIn xs set = (q : ℕ) → contains nat_cmp set q ≡ list_any (λ m. m == q) xs

-- the numbers of a set that another set lacks are counted, if the other has the first numbers of a list
pub record AreCounted (xs ys : List ℕ) (known : BTreeSet ℕ) (r : Registers) : Type 0 where
  pub count : length (distinct (xs ++ ys)) ≡ length (distinct xs) + r.count
  pub members : (q : ℕ) → (contains nat_cmp known q || contains nat_cmp r.set q) ≡ list_any (λ m. m == q) (xs ++ ys)

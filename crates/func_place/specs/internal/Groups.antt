-- A partition of numbers into groups, in the terms of the code.
use Rattle.std.specs.Prelude.{ℕ, ◌≡◌, ◌⊎◌, ◌<◌, ◌==◌, if◌then◌else◌, All, List, [], ◌++◌, map, length, slice_index}
use Rattle.std.specs.Prelude.{slice_index_or, slice_set}
use Rattle.func_place.specs.declared.groups.Groups.{Groups}
use Rattle.func_place.specs.Clusters.{has_unit}

-- the number of each member's group, and the members of each group
pub record Grouping : Type 0 where
  pub numbers : List ℕ
  pub lists : List (List ℕ)

abbrev pub grouping_of : Groups → Grouping
grouping_of g = record { numbers = g.numbers.items; lists = map (λ d. d.items) g.lists.items }

abbrev pub list_at : List (List ℕ) → ℕ → List ℕ
list_at lists q = slice_index_or lists q []

-- the group of a member
abbrev pub group_of : Grouping → ℕ → List ℕ
group_of g u = list_at g.lists (slice_index g.numbers u)

-- Each member is in the group with its number, and in no other one.
pub record IsGrouped (g : Grouping) : Type 0 where
  pub numbers_len : length g.numbers ≡ length g.lists
  pub number_in : (u : ℕ) → u < length g.lists → slice_index g.numbers u < length g.lists
  pub members_in : (q : ℕ) → q < length g.lists → All (λ u. u < length g.lists) (list_at g.lists q)
  pub stands : (u q : ℕ) → u < length g.lists → q < length g.lists →
      has_unit (list_at g.lists q) u ≡ (slice_index g.numbers u == q)

-- the number of a member's group, after the members of a list got another number
abbrev pub numbered : List ℕ → ℕ → List ℕ → ℕ → ℕ
numbered members number numbers u = if has_unit members u then number else slice_index numbers u

-- The members of the group `left` moved to the group `kept`, which now has the list `both`.
pub record MovesGroup (old new : Grouping) (left kept : ℕ) (both : List ℕ) : Type 0 where
  pub numbers_len : length new.numbers ≡ length old.numbers
  pub numbers : (u : ℕ) → u < length old.numbers →
      slice_index new.numbers u ≡ numbered (list_at old.lists left) kept old.numbers u
  pub lists : new.lists ≡ slice_set (slice_set old.lists left []) kept both

-- Two groups became one, the second after the first, with the number of either.
abbrev pub Joins : Grouping → Grouping → ℕ → ℕ → ℕ → Type 0
Joins old new first second kept =
    let both = list_at old.lists first ++ list_at old.lists second in
    ((kept ≡ second) × MovesGroup old new first second both) ⊎ ((kept ≡ first) × MovesGroup old new second first both)

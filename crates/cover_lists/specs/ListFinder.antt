-- The location lists that may have expressions in force at an address.
use Rattle.std.specs.Prelude.{◌≡◌, ◌+◌, ◌++◌, ◌∷◌, [], ℕ, Bool, true, false, List, map, slice_get}
use Rattle.std.specs.List.{list_any}
use Rattle.std.specs.Option.{option_map_or}
use Rattle.cover_lists.specs.declared.cover_tree.Cover.{Cover}
use Rattle.cover_lists.specs.declared.kept_list.KeptList.{KeptList}
use Rattle.cover_lists.specs.declared.list_finder.ListFinder as code
use Rattle.cover_lists.specs.CoverTree.{holds, regrouped}
use Rattle.cover_lists.specs.Groups.{group_holds}
use Rattle.cover_lists.specs.ListRuns.{is_among}

-- The results of `f` for each element and its number. Elements are numbered from `n` on.
abbrev pub numbered : {X Y : Type 0} → (ℕ → X → List Y) → ℕ → List X → List Y
numbered f n [] = []
numbered f n (x ∷ xs) = f n x ++ numbered f (n + 1) xs

-- The bounds of a list, with its number.
abbrev pub list_covers : ℕ → KeptList → List Cover
list_covers n l = map (regrouped n) l.tree

abbrev pub is_some_list : {A : Type 0} → List A → Bool
is_some_list [] = false
is_some_list (x ∷ xs) = true

abbrev pub numbers_if : {A : Type 0} → ℕ → List A → List ℕ
numbers_if n [] = []
numbers_if n (x ∷ xs) = n ∷ []

-- The number of a list, if it has expressions without bounds.
abbrev pub default_numbers : ℕ → KeptList → List ℕ
default_numbers n l = numbers_if n l.defaults.items

-- The list with a number has expressions without bounds.
abbrev pub has_default : List KeptList → ℕ → Bool
has_default lists n = option_map_or (λ l. is_some_list l.defaults.items) (slice_get lists n) false

-- Bounds of the list with a number contain an address.
abbrev pub list_holds : List KeptList → ℕ → ℕ → Bool
list_holds lists n a = option_map_or (λ l. list_any (holds a) l.tree) (slice_get lists n) false

-- The finder has the bounds of all lists, and the lists with defaults.
pub record IsFinder (lists : List KeptList) (finder : code.ListFinder) : Type 0 where
  pub bounded : (n a : ℕ) → group_holds finder.tree n a ≡ list_holds lists n a
  pub unbounded : (n : ℕ) → is_among finder.unbounded.items n ≡ has_default lists n

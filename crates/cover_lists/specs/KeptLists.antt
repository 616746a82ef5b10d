-- Location lists that are kept, and their expressions in force at an address.
use Rattle.std.specs.Prelude.{◌≡◌, ◌+◌, ◌<◌, ◌≤◌, ℕ, List, [], ◌∷◌, ◌++◌, length, map, filter, filter_map, Option, Some}
use Rattle.std.specs.Prelude.{flat_map, option_map, is_some, slice_get}
use Rattle.std.specs.Global.{Vec}
use Rattle.std.specs.List.{range_with_len}
use Rattle.std.specs.Option.{option_map_or}
use Rattle.std.specs.Ordering.{nat_cmp}
use Rattle.std.specs.BTreeMap.{BTreeMap, get}
use Rattle.cover_lists.specs.declared.cover_tree.Cover.{Cover}
use Rattle.cover_lists.specs.declared.kept_list.KeptList.{KeptList}
use Rattle.cover_lists.specs.Groups.{group_holds, covers_for}
use Rattle.cover_lists.specs.Located.{Located, in_force}
use Rattle.cover_lists.specs.Bounds.{bounds_in}

abbrev pub items_in : List (Vec ℕ) → List (List ℕ)
items_in vs = map (λ (v : Vec ℕ). v.items) vs

-- The ranges of a list's items, each with the item's number as its group. Items are numbered from `n` on.
abbrev pub numbered_covers : ℕ → List Located → List Cover
numbered_covers n [] = []
numbered_covers n (l ∷ ls) = covers_for n l.range ++ numbered_covers (n + 1) ls

-- The expression of the item with a number.
abbrev pub expression_of : List (Vec ℕ) → ℕ → Option (List ℕ)
expression_of xs k = option_map (λ (v : Vec ℕ). v.items) (slice_get xs k)

-- The numbers of the items whose ranges contain an address.
abbrev pub bounded_numbers : List Cover → ℕ → ℕ → List ℕ
bounded_numbers tree n a = filter (λ k. group_holds tree k a) (range_with_len 0 n)

abbrev pub unless_none : List (List ℕ) → List (List ℕ) → List (List ℕ)
unless_none [] ys = ys
unless_none (x ∷ xs) ys = x ∷ xs

-- The expressions of the items with some numbers; if there are none, the defaults.
abbrev pub said_by : KeptList → List ℕ → List (List ℕ)
said_by l ks = unless_none (filter_map (expression_of l.expressions.items) ks) (items_in l.defaults.items)

-- The expressions of a list that are in force at an address.
abbrev pub list_says : KeptList → ℕ → List (List ℕ)
list_says l a = said_by l (bounded_numbers l.tree (length l.expressions.items) a)

-- The kept list has the expressions in force of the list `ls`.
abbrev pub Says : KeptList → List Located → Type 0
Says l ls = (a : ℕ) → list_says l a ≡ in_force ls a

-- The expressions of each list, by address.
abbrev pub all_say : List KeptList → List (ℕ → List (List ℕ))
all_say lists = map list_says lists

-- The bounds of all lists.
abbrev pub list_bounds : List KeptList → List ℕ
list_bounds lists = flat_map (λ (l : KeptList). bounds_in l.tree) lists

-- The expressions of the list with a number that are in force at an address.
abbrev pub number_says : List KeptList → ℕ → ℕ → List (List ℕ)
number_says lists n a = option_map_or (λ l. list_says l a) (slice_get lists n) []

-- More lists are kept, and each keeps its number.
pub record AreMore (olds news : List KeptList) : Type 0 where
  pub count : length olds ≤ length news
  pub same : (n : ℕ) → n < length olds → slice_get news n ≡ slice_get olds n

-- The number of a list; none if the list can't be read.
pub record IsNumberOf (lists : List KeptList) (number : Option ℕ) (said : Option (List Located)) : Type 0 where
  pub some : is_some number ≡ is_some said
  pub within : (n : ℕ) → number ≡ Some n → n < length lists
  pub says : (a : ℕ) → option_map_or (λ n. number_says lists n a) number []
      ≡ option_map_or (λ ls. in_force ls a) said []

-- Each known list has its number.
abbrev pub AreNumbersOf : (ℕ → Option (List Located)) → List KeptList → BTreeMap ℕ (Option ℕ) → Type 0
AreNumbersOf says lists known = (at : ℕ) (o : Option ℕ) → get nat_cmp known at ≡ Some o → IsNumberOf lists o (says at)

-- The entries whose ranges contain an address, by their numbers.
use Rattle.std.specs.Prelude.{◌≡◌, ◌==◌, ℕ, Bool, false, List, [], filter, length, Option, Some, None, slice_get}
use Rattle.std.specs.Prelude.{option_map}
use Rattle.std.specs.Global.{Vec}
use Rattle.std.specs.List.{list_any, range_with_len}
use Rattle.std.specs.Option.{option_map_or}
use Rattle.cover_lists.specs.declared.cover_index.CoverIndex as code
use Rattle.cover_lists.specs.declared.cover_tree.Cover.{Cover}
use Rattle.cover_lists.specs.declared.groups.RangedEntry.{RangedEntry}
use Rattle.cover_lists.specs.Groups.{group_holds}

abbrev pub items_of : Option (Vec ℕ) → List ℕ
items_of None = []
items_of (Some v) = v.items

-- The numbers of the members of a group.
abbrev pub members_in : List (Vec ℕ) → ℕ → List ℕ
members_in members group = items_of (slice_get members group)

-- The entry with a number is in a group.
abbrev pub is_member : List RangedEntry → ℕ → ℕ → Bool
is_member ranged group k = option_map_or (λ (r : RangedEntry). group == r.group) (slice_get ranged k) false

-- The ranges of the entry with a number contain an address.
abbrev pub is_held : List Cover → List RangedEntry → ℕ → ℕ → Bool
is_held covers ranged a k = option_map_or (λ (r : RangedEntry). group_holds covers r.group a) (slice_get ranged k) false

-- The numbers of the entries whose ranges contain an address.
abbrev pub held_numbers : List Cover → List RangedEntry → ℕ → List ℕ
held_numbers covers ranged a = filter (is_held covers ranged a) (range_with_len 0 (length ranged))

-- The index has these ranges and the members of each group.
pub record IsCoverIndex (covers : List Cover) (ranged : List RangedEntry) (index : code.CoverIndex) : Type 0 where
  pub held : (group a : ℕ) → group_holds index.tree group a ≡ group_holds covers group a
  pub members : (group k : ℕ) → list_any (λ m. m == k) (members_in index.members.items group) ≡ is_member ranged group k

-- The offset of the entry with a number.
abbrev pub place_at : List RangedEntry → ℕ → Option ℕ
place_at ranged k = option_map (λ (r : RangedEntry). r.place) (slice_get ranged k)

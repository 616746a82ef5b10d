-- Groups of ranges of entries.
use Rattle.std.specs.Prelude.{◌≡◌, ◌<◌, ◌≤◌, ◌==◌, ◌&&◌, ℕ, Bool, false, List, [], ◌∷◌, All, map, filter, flat_map}
use Rattle.std.specs.Prelude.{is_some, length, slice_get, option_and_then, Option, Some, None}
use Rattle.std.specs.List.{list_any}
use Rattle.std.specs.Option.{option_map_or}
use Rattle.answer_runs.specs.declared.range.Range.{Range}
use Rattle.cover_lists.specs.declared.cover_tree.Cover.{Cover}
use Rattle.cover_lists.specs.declared.groups.Groups as code
use Rattle.cover_lists.specs.declared.groups.RangedEntry as kept
use Rattle.cover_lists.specs.CoverTree.{holds}
use Rattle.cover_lists.specs.EntryAddresses.{first_start}
use Rattle.cover_lists.specs.Located.{Located, hold}

-- A range, if there is one, as a range of a group.
abbrev pub covers_for : ℕ → Option Range → List Cover
covers_for group None = []
covers_for group (Some r) = record { low = r.low; high = r.high; group = group } ∷ []

-- The ranges of a list, as ranges of a group.
abbrev pub covers_in : ℕ → List Located → List Cover
covers_in group ls = flat_map (λ (l : Located). covers_for group l.range) ls

-- The range is of the group and contains the address.
abbrev pub is_in_group : ℕ → ℕ → Cover → Bool
is_in_group group a c = c.group == group && holds a c

-- The ranges of a group contain an address.
abbrev pub group_holds : List Cover → ℕ → ℕ → Bool
group_holds covers group a = list_any (is_in_group group a) covers

-- The start of the first range of a group that has bytes.
abbrev pub first_in : code.Groups → ℕ → Option ℕ
first_in g n = option_and_then (λ o. o) (slice_get g.firsts.items n)

-- The numbers of all groups are below the count of groups, and each has its first start.
abbrev pub AreNumbered : code.Groups → Type 0
AreNumbered g = All (λ (c : Cover). c.group < g.count) g.covers.items × (length g.firsts.items ≡ g.count)

-- No group changes; there may be new ones.
pub record Grow (old new : code.Groups) : Type 0 where
  pub numbered : AreNumbered new
  pub count : old.count ≤ new.count
  pub same : (group a : ℕ) → group < old.count → group_holds new.covers.items group a
      ≡ group_holds old.covers.items group a
  pub firsts : (group : ℕ) → group < old.count → first_in new group ≡ first_in old group

-- A group contains exactly the addresses of the ranges, and has their first start; without ranges there is no group.
pub record HasRanges (g : code.Groups) (group : Option ℕ) (ranges : Option (List Range)) : Type 0 where
  pub some : is_some group ≡ is_some ranges
  pub within : (n : ℕ) → group ≡ Some n → n < g.count
  pub holds : (a : ℕ) → option_map_or (λ n. group_holds g.covers.items n a) group false ≡ hold ranges a
  pub first : option_and_then (first_in g) group ≡ option_and_then first_start ranges

-- Each entry has a group.
abbrev pub AreWithin : ℕ → List kept.RangedEntry → Type 0
AreWithin n ranged = All (λ (r : kept.RangedEntry). r.group < n) ranged

-- The offsets of the entries whose ranges contain an address.
abbrev pub held_places : List Cover → List kept.RangedEntry → ℕ → List ℕ
held_places covers ranged a = map (λ (r : kept.RangedEntry). r.place) (filter (λ (r : kept.RangedEntry). group_holds
    covers r.group a) ranged)

-- An entry, if it has a group.
abbrev pub entry_of : (place own : ℕ) → (index entry first : Option ℕ) → Option ℕ → List kept.RangedEntry
entry_of place own index entry first None = []
entry_of place own index entry first (Some group) =
    record { place = place; group = group; own = own; index = index; entry = entry; first = first } ∷ []

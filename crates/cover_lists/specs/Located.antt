-- Lists that were read: expressions, and the addresses at which they are in force. DWARF 5, sections 2.6.2 and 2.17.3.
use Rattle.std.specs.Prelude.{ℕ, Bool, false, not, List, [], ◌∷◌, map, filter, filter_map, is_some, Option}
use Rattle.std.specs.List.{list_any}
use Rattle.std.specs.Option.{option_map_or}
use Rattle.answer_runs.specs.declared.range.Range.{Range}
use Rattle.answer_runs.specs.AddressRanges.{holds_address}

-- An expression, and the range in which it is in force. None means every address at which no other expression of the
-- list is in force.
pub record Located : Type 0 where
  pub range : Option Range
  pub expression : List ℕ

-- The ranges of a list.
abbrev pub ranges_in : List Located → List Range
ranges_in ls = filter_map (λ (l : Located). l.range) ls

-- There are ranges, and one contains the address.
abbrev pub hold : Option (List Range) → ℕ → Bool
hold ranges a = option_map_or (list_any (holds_address a)) ranges false

-- The expressions of a list whose bounds contain an address; if there are none, the defaults.
abbrev pub is_bounded_at : ℕ → Located → Bool
is_bounded_at a l = option_map_or (holds_address a) l.range false

abbrev pub is_default : Located → Bool
is_default l = not (is_some l.range)

abbrev pub expressions : List Located → List (List ℕ)
expressions ls = map (λ (l : Located). l.expression) ls

abbrev pub unless_bounded : (bounded defaults : List Located) → List (List ℕ)
unless_bounded [] defaults = expressions defaults
unless_bounded (l ∷ bounded) defaults = expressions (l ∷ bounded)

-- The expressions of a list that are in force at an address.
abbrev pub in_force : List Located → ℕ → List (List ℕ)
in_force ls a = unless_bounded (filter (is_bounded_at a) ls) (filter is_default ls)

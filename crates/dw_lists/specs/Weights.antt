-- The weights of the written tables of ranges and of locations.
use Rattle.std.specs.Prelude.{◌≡◌, ◌+◌, ◌*◌, ◌==◌, ℕ, Bool, List, [], ◌∷◌, map, filter, flat_map, sum_by, fold, max}
use Rattle.std.specs.Prelude.{if◌then◌else◌, Option, Some, None}
use Rattle.std.specs.Option.{option_map_or}
use Rattle.addr_map.specs.declared.span.Span.{Span}
use Rattle.answer_runs.specs.Choices.{unless_empty}
use Rattle.answer_runs.specs.AnswerRuns.{carried}
use Rattle.answer_runs.specs.Weights.{IsWeightOf, distinct}
use Rattle.dw_unit.specs.declared.entry.Attr.{Attr}
use Rattle.dw_unit.specs.CompUnits.{Entry, Unit, units}
use Rattle.dw_lists.specs.Lists.{ranges_kind, locations_kind, list_at}
use Rattle.cover_lists.specs.Located.{Located, in_force, hold}
use Rattle.dw_lists.specs.Faults.{ListSections, list_offsets}
use Rattle.dw_lists.specs.Ranges.{Ranged, ranged}
use Rattle.cover_lists.specs.ListWeights.{IsSumOf, expressions_weight}

-- The indexes in attributes of a form.
abbrev pub indexes_in : ℕ → List Attr → List ℕ
indexes_in form attrs = map (λ (a : Attr). a.value) (filter (λ (a : Attr). a.form == form) attrs)

-- The indexes in attributes of a unit's entries.
abbrev pub indexes : ℕ → Unit → List ℕ
indexes form u = indexes_in form (flat_map (λ (e : Entry). e.attrs) u.entries)

-- The greatest index, if there is one.
abbrev pub greatest : List ℕ → Option ℕ
greatest [] = None
greatest (i ∷ is) = Some (fold max i is)

-- A unit that uses indexes needs a table with an offset for each one up to the greatest.
abbrev pub offsets_weight : List ℕ → ℕ
offsets_weight [] = 0
offsets_weight (i ∷ is) = 32 + 4 * (fold max i is + 1)

abbrev pub index_weight : ℕ → Unit → ℕ
index_weight form u = offsets_weight (indexes form u)

-- The weight of the tables of offsets of all units.
abbrev pub index_weights : ℕ → ListSections → ℕ
index_weights form s = sum_by (index_weight form) (units s.units)

-- Ranges: each entry with ranges has the runs of the bytes in them.

-- Whether the ranges of an entry contain an address.
abbrev pub covered_by : Ranged → ℕ → Option Bool
covered_by r a = if hold r.own a then Some Bool.true else None

-- The weight of the table of ranges.
pub record IsRangesWeight (s : ListSections) (spans : List Span) (weight : ℕ) : Type 0 where
  pub runs : ℕ
  pub of_runs : IsSumOf (λ r. IsWeightOf (λ _. 0) (carried (covered_by r) spans)) (ranged s) runs
  pub sum : weight ≡ index_weights ranges_kind.index_form s + runs

-- Locations: each list, as one unit reads it, has the runs of the expressions in force.

-- The expressions of a list in force at an address.
abbrev pub expressions_at : List Located → ℕ → Option (List (List ℕ))
expressions_at ls a = unless_empty (in_force ls a)

-- The weight of a list, as one unit reads it.
abbrev pub IsListWeight : ListSections → List Span → Unit → ℕ → ℕ → Type 0
IsListWeight s spans u at =
    IsWeightOf expressions_weight
    (carried (λ a. option_map_or (λ ls. expressions_at ls a) (list_at locations_kind s.locations s.units.addr u at)
    None)
    spans)

-- The lists of a unit, each once.
abbrev pub IsUnitWeight : ListSections → List Span → Unit → ℕ → Type 0
IsUnitWeight s spans u = IsSumOf (IsListWeight s spans u) (distinct (list_offsets locations_kind s.locations u))

-- The weight of the table of locations.
pub record IsPlacesWeight (s : ListSections) (spans : List Span) (weight : ℕ) : Type 0 where
  pub runs : ℕ
  pub of_runs : IsSumOf (IsUnitWeight s spans) (units s.units) runs
  pub sum : weight ≡ index_weights locations_kind.index_form s + runs

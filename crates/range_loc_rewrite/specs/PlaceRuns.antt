-- The runs of new code in each of which a location list of a file has the same expressions in force.
use Rattle.std.specs.Prelude.{◌≡◌, ℕ, List, [], Option, length, flat_map, slice_get}
use Rattle.std.specs.Global.{Vec}
use Rattle.std.specs.Option.{option_map_or}
use Rattle.addr_map.specs.declared.span.Span.{Span}
use Rattle.answer_runs.specs.declared.run.Run.{Run}
use Rattle.answer_runs.specs.AnswerRuns.{carried, AreRunsOf}
use Rattle.answer_runs.specs.Choices.{unless_empty}
use Rattle.dw_unit.specs.CompUnits.{units}
use Rattle.cover_lists.specs.ListRuns.{said_in}
use Rattle.dw_lists.specs.Faults.{ListSections}
use Rattle.list_units.specs.ReadLists.{unit_lists}

-- The answer of the list with a number at an address, if it has one.
abbrev pub numbered_answer : List (ℕ → List (List ℕ)) → ℕ → ℕ → Option (List (List ℕ))
numbered_answer says n a =
    unless_empty (option_map_or (λ (of_list : ℕ → List (List ℕ)). of_list a) (slice_get says n) [])

-- For each list, by its number, the longest runs of new code with the same answer of the list at the owners.
pub record AreListsRuns (says : List (ℕ → List (List ℕ))) (spans : List Span)
    (runs : List (Vec (Run (Vec (Vec ℕ))))) : Type 0 where
  pub count : length runs ≡ length says
  pub each : (n : ℕ) → AreRunsOf (carried (numbered_answer says n) spans) (said_in runs n)

-- The runs of the lists to which units refer.
abbrev pub ArePlaceRuns : ListSections → List Span → List (Vec (Run (Vec (Vec ℕ)))) → Type 0
ArePlaceRuns s spans runs = AreListsRuns (flat_map (unit_lists s) (units s.units)) spans runs

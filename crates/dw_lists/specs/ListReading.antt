-- How lists are read: entry by entry, with the current base address.
use Rattle.std.specs.Prelude.{◌≡◌, ◌+◌, ◌*◌, ℕ, suc, List, [], ◌∷◌, ◌++◌, Option, Some, None, option_map}
use Rattle.std.specs.Prelude.{option_and_then, Result, Ok, Err}
use Rattle.dw_unit.specs.declared.trouble.Trouble.{Trouble}
use Rattle.dw_unit.specs.CompUnits.{number_in}
use Rattle.dw_lists.specs.declared.list_kind.ListKind.{ListKind}
use Rattle.dw_lists.specs.declared.list_kind.ListKind.TheVariants.{Ranges, Locations}
use Rattle.dw_lists.specs.declared.list_reading.Step.{Step}
use Rattle.dw_lists.specs.declared.list_reading.Step.TheVariants as step
use Rattle.dw_lists.specs.declared.list_reading.Flow.{Flow}
use Rattle.dw_lists.specs.declared.list_reading.Flow.TheVariants.{More, End, Bad}
use Rattle.dw_lists.specs.ListEntries.{Item, range_item, location_item, items_within}
use Rattle.dw_lists.specs.Lists.{Kind, items_say, ranges_kind, locations_kind}
use Rattle.cover_lists.specs.Located.{Located}
use Rattle.dw_unit.specs.Trouble.{Read}
use Rattle.cover_lists.specs.ListPlaces.{located_of}

-- The definition of each kind of list.
abbrev pub kind_of : ListKind → Kind
kind_of Ranges = ranges_kind
kind_of Locations = locations_kind

-- How entries of each kind are read.
abbrev pub item_of : ListKind → ℕ → List ℕ → Read Item
item_of Ranges = range_item
item_of Locations = location_item

-- The address with an index, in an address table that begins at a base.
abbrev pub looked_up : List ℕ → Option ℕ → ℕ → Option ℕ
looked_up section base index = option_and_then (λ b. number_in 8 (b + 8 * index) section) base

-- The contents of the entries, by a base address; none if they can't be read.
abbrev pub said_from : (ℕ → Option ℕ) → ℕ → Result (List Item) Trouble → Option (List Located)
said_from look base (Ok items) = items_say look items base
said_from look base (Err e) = None

-- The contents of a list from an entry on. `more` gives those of the entries after it, by the base address.
abbrev pub step_says : (ℕ → Option (List Located)) → ℕ → Option Step → Option (List Located)
step_says more base None = None
step_says more base (Some step.End) = Some []
step_says more base (Some (step.Base b)) = more b
step_says more base (Some (step.Placed p)) = option_map (λ ls. located_of p ∷ ls) (more base)

-- Reading one more entry, whatever follows it.
abbrev pub StepSays : ListKind → (ℕ → Option ℕ) → ℕ → List ℕ → List ℕ → Option Step → Type 0
StepSays list look base left rest result =
    (n : ℕ) → said_from look base (items_within (item_of list) (suc n) left)
    ≡ step_says (λ b. said_from look b (items_within (item_of list) n rest)) base result

-- More contents, after others.
abbrev pub prefixed : List Located → Option (List Located) → Option (List Located)
prefixed out o = option_map (λ ls. out ++ ls) o

-- The contents of a whole list, by what was read so far.
abbrev pub flow_says : (ℕ → Option (List Located)) → ℕ → List Located → Flow → Option (List Located)
flow_says more base out More = prefixed out (more base)
flow_says more base out End = Some out
flow_says more base out Bad = None

-- Reading on from here gives the contents of the whole list.
abbrev pub FlowSays : ListKind → (ℕ → Option ℕ) → (old_base base : ℕ) → (left rest : List ℕ) →
    (old_out out : List Located) →
    Flow → Type 0
FlowSays list look old_base base left rest old_out out flow =
    (n : ℕ) → prefixed old_out (said_from look old_base (items_within (item_of list) (suc n) left))
    ≡ flow_says (λ b. said_from look b (items_within (item_of list) n rest)) base out flow

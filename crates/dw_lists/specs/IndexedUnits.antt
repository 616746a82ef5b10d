-- The list indexes that units use, in any attributes, and the weight of the offset tables that they need. DWARF 5,
-- sections 7.28 and 7.29.
use Rattle.std.specs.Prelude.{◌+◌, ◌*◌, ℕ, List, [], ◌∷◌, flat_map, Option, Some, None}
use Rattle.std.specs.Option.{option_map_or}
use Rattle.dw_unit.specs.CompUnits.{Entry, Sections, Unit, base, own_entry, units}
use Rattle.dw_lists.specs.declared.indexed_unit.IndexedUnit.{IndexedUnit}
use Rattle.dw_lists.specs.Lists.{Kind}
use Rattle.dw_lists.specs.Weights.{greatest, indexes}

-- The base and the greatest index of a unit, by its own entry.
abbrev pub indexed_by : Kind → Unit → Option Entry → List IndexedUnit
indexed_by k u None = []
indexed_by k u (Some e) =
    record { own = e.place; base = base k.base_name u; greatest = greatest (indexes k.index_form u) } ∷ []

-- The indexes of a unit; none if it has no entry.
abbrev pub indexed_of : Kind → Unit → List IndexedUnit
indexed_of k u = indexed_by k u (own_entry u)

-- The indexes of all units.
abbrev pub indexed_units : Kind → Sections → List IndexedUnit
indexed_units k s = flat_map (indexed_of k) (units s)

-- The weight of the table that a unit needs for its indexes.
abbrev pub table_weight : IndexedUnit → ℕ
table_weight x = option_map_or (λ i. 32 + 4 * (i + 1)) x.greatest 0

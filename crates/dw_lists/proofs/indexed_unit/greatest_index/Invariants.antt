use Rattle.std.proofs.Common.{◌≡◌, take}
use Rattle.std.specs.Prelude.{flat_map}
use Rattle.dw_unit.specs.ListedEntries.{ListedEntry}
use Rattle.dw_lists.specs.Weights as spec
use Rattle.dw_lists.proofs.indexed_unit.greatest_index.Given as goal

abbrev pub invariant-loop-entry : goal.invariant-loop-entry
invariant-loop-entry l =
    l.greatest ≡ spec.greatest (spec.indexes_in l.form (flat_map (λ (e : ListedEntry). e.attrs) (take l.entry-index l.entries)))

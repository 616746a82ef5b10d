use Rattle.std.proofs.Common.{◌∙◌, List, ap, take}
use Rattle.std.specs.Prelude.{flat_map}
use Rattle.std.proofs.lemmas.List.{take_all}
use Rattle.dw_unit.specs.ListedEntries.{ListedEntry}
use Rattle.dw_unit.specs.declared.entry.Attr.{Attr}
use Rattle.dw_lists.specs.Weights.{greatest, indexes_in}
use Rattle.dw_lists.proofs.IndexWeights.{entries_more, plain_attrs}
use Rattle.dw_lists.proofs.indexed_unit.greatest_index.Goals as goal

pub loop-entry-preserved : goal.loop-entry-preserved
loop-entry-preserved c =
    entries_more c.args.form c.args.entries.now c.loop-entry.entry-index c.entry-item.result c.greatest_of-greatest.result
    c.loop-entry-test.true c.entry-item.is
    (c.greatest_of-greatest.ensures (indexes_in c.args.form (flat_map (λ (e : ListedEntry). e.attrs)
    (take c.loop-entry.entry-index c.args.entries.now)))
    c.loop-entry.invariant)

pub returns : goal.returns
returns c =
    c.loop-entry.invariant
    ∙ ap (λ (l : List ListedEntry). greatest (indexes_in c.args.form (flat_map (λ (e : ListedEntry). e.attrs) l)))
    (take_all c.loop-entry.entry-index c.args.entries.now c.loop-entry-test.false)
    ∙ ap (λ (l : List Attr). greatest (indexes_in c.args.form l)) (plain_attrs c.args.entries.now)

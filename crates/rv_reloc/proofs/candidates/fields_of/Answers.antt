use Rattle.std.proofs.Common.{ap, map, arith}
use Rattle.std.proofs.lemmas.List.{get_or_default}
use Rattle.rv_reloc.specs.CountedFields.{as_field}
use Rattle.rv_reloc.proofs.Finds.{map-pushed, AreFound-begin, AreFound-next, AreFound-all}
use Rattle.rv_reloc.proofs.Kept.{counts}
use Rattle.rv_reloc.proofs.candidates.fields_of.Goals as goal

pub loop-index-init : goal.loop-index-init
loop-index-init c = λ tabled are. AreFound-begin _ c.args.records.now _ (ap (map as_field) c.new-fields.ensures.items)

pub field_of-requires-clause-listed : goal.field_of-requires-clause-listed
field_of-requires-clause-listed c =
    counts c.args.elf.now c.args.records.now _ c.requires.records
    (c.loop-index.index, c.loop-index-test.true, get_or_default _ _ _ _ c.loop-index-test.true)

pub loop-index-preserved : goal.loop-index-preserved
loop-index-preserved c = λ tabled are.
    AreFound-next _ c.args.records.now c.loop-index.index _ _ _ _ c.loop-index-test.true
    (get_or_default _ _ _ _ c.loop-index-test.true) (map-pushed as_field _ _ _ c.in_ok-push_some.ensures.is)
    (c.field_of.ensures.is tabled are) (λ f is. c.field_of.ensures.only tabled f are is) (c.loop-index.invariant tabled are)

pub returns : goal.returns
returns c = λ tabled are. AreFound-all _ c.args.records.now c.loop-index.index _ (omega arith)
    (c.loop-index.invariant tabled are)

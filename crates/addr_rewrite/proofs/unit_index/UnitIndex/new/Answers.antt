use Rattle.std.proofs.Common.{◌∙◌, List, ap}
use Rattle.std.specs.Prelude.{position}
use Rattle.answer_runs.specs.AddressRanges.{holds_address}
use Rattle.answer_runs.specs.declared.range.Range.{Range}
use Rattle.addr_rewrite.proofs.IndexedUnits.{indexed}
use Rattle.addr_rewrite.proofs.unit_index.UnitIndex.new.Goals as goal

pub returns : goal.returns
returns c = λ a.
    indexed c.args.ranges.now c.in_ok-units.units.items c.in_ok-first.first a c.in_ok-units.ensures
    (c.in_ok-first.ensures a
    ∙ ap (λ (rs : List Range). position (holds_address a) rs) (c.deref.ensures.value ∙ c.in_ok-bounds.ensures))

use Rattle.std.proofs.Common.{◌≡◌, ◌∙◌, ◌++◌, ap, subst, map, ℕ, List}
use Rattle.std.specs.Prelude.{position}
use Rattle.answer_runs.specs.declared.range.Range.{Range}
use Rattle.answer_runs.specs.AddressRanges.{holds_address}
use Rattle.answer_runs.specs.FirstRanges.{first_range}
use Rattle.line_rewrite.specs.declared.unit.Unit as kept
use Rattle.line_rewrite.specs.SequenceIndex.{unit_numbered, kept_range, place_of}
use Rattle.line_rewrite.proofs.Indexing.{all_more, all_done}
use Rattle.line_rewrite.proofs.sequence_index.SequenceIndex.new.Goals as goal

pub loop-number-preserved : goal.loop-number-preserved
loop-number-preserved c =
    let us : List kept.Unit = c.args.units.now in
    let i = c.loop-number.number in
    let u : kept.Unit = c.index-units-number.result in
    record {
      placed = all_more place_of c.loop-number.places.items c.add_unit.new.places.items _ i us u c.loop-number-test.true
          c.loop-number.invariant.placed
          (c.in_ok-add_unit.ensures.placed ∙ ap (λ (v : kept.Unit). c.loop-number.places.items ++ map place_of (unit_numbered i v))
          c.index-units-number.is);
      ranged = all_more kept_range c.loop-number.ranges.items c.add_unit.new.ranges.items _ i us u c.loop-number-test.true
          c.loop-number.invariant.ranged
          (c.in_ok-add_unit.ensures.ranged ∙ ap (λ (v : kept.Unit). c.loop-number.ranges.items ++ map kept_range (unit_numbered i v))
          c.index-units-number.is);
    }

pub returns : goal.returns
returns c = record {
  places = all_done place_of c.loop-number.places.items _ c.loop-number.number c.args.units.now c.loop-number-test.false
      c.loop-number.invariant.placed;
  first = subst (λ (rs : List Range). (a : ℕ) → first_range c.in_ok-first.first a ≡ position (holds_address a) rs)
      (c.deref.ensures.value
      ∙ all_done kept_range c.loop-number.ranges.items _ c.loop-number.number c.args.units.now c.loop-number-test.false
      c.loop-number.invariant.ranged)
      c.in_ok-first.ensures;
}

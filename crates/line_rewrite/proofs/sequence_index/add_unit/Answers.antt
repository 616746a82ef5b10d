use Rattle.std.proofs.Common.{◌≡◌, ◌∙◌, ◌<◌, ◌≤◌, ◌++◌, ◌∷◌, [], ap, arith, length, get_or, List}
use Rattle.answer_runs.specs.declared.range.Range.{Range}
use Rattle.line_rewrite.specs.declared.kept.KeptSequence.{KeptSequence}
use Rattle.line_rewrite.specs.SequenceIndex.{kept_range, place_of}
use Rattle.line_rewrite.proofs.Indexing.{numbered_more, numbered_done}
use Rattle.line_rewrite.proofs.sequence_index.add_unit.Goals as goal

abbrev range : KeptSequence → Range
range s = record { low = s.low; high = s.end }

pub loop-index-preserved : goal.loop-index-preserved
loop-index-preserved c =
    let ks : List KeptSequence = c.args.unit.now.sequences.items in
    let i = c.loop-index.index in
    let k : KeptSequence = c.sequence-item.result in
    let size : length c.deref-sequence-items.result.now ≡ length ks = ap length c.deref-sequence-items.ensures.value in
    let h : i < length ks = omega (arith, size, c.loop-index-test.true) in
    let item : k ≡ get_or ks i k = c.sequence-item.is ∙ ap (λ (l : List KeptSequence). get_or l i k) c.deref-sequence-items.ensures.value in
    record {
      placed = numbered_more place_of c.loop-index.places.items c.push.new.self.items _ c.args.number i c.args.unit.now ks k h
          c.loop-index.invariant.placed
          c.in_ok-push.ensures.items;
      ranged = numbered_more kept_range c.loop-index.ranges.items c.push-in-loop-index.new.self.items _ c.args.number i c.args.unit.now ks k
          h c.loop-index.invariant.ranged
          (c.in_ok-push-2.ensures.items ∙ ap (λ (s : KeptSequence). c.loop-index.ranges.items ++ range s ∷ []) item);
    }

pub returns-clause-placed : goal.returns-clause-placed
returns-clause-placed c =
    let ks : List KeptSequence = c.args.unit.now.sequences.items in
    let size : length c.deref-sequence-items.result.now ≡ length ks = ap length c.deref-sequence-items.ensures.value in
    let h : length ks ≤ c.loop-index.index = omega (arith, size, c.loop-index-test.false) in
    numbered_done place_of c.loop-index.places.items _ c.args.number c.loop-index.index c.args.unit.now ks h c.loop-index.invariant.placed

pub returns-clause-ranged : goal.returns-clause-ranged
returns-clause-ranged c =
    let ks : List KeptSequence = c.args.unit.now.sequences.items in
    let size : length c.deref-sequence-items.result.now ≡ length ks = ap length c.deref-sequence-items.ensures.value in
    let h : length ks ≤ c.loop-index.index = omega (arith, size, c.loop-index-test.false) in
    numbered_done kept_range c.loop-index.ranges.items _ c.args.number c.loop-index.index c.args.unit.now ks h c.loop-index.invariant.ranged

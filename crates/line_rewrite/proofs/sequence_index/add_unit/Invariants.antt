use Rattle.std.proofs.Common.{◌≡◌, ◌++◌, map, drop}
use Rattle.line_rewrite.specs.SequenceIndex.{numbered, unit_numbered, kept_range, place_of}
use Rattle.line_rewrite.proofs.sequence_index.add_unit.Given as goal

abbrev pub invariant-loop-index : goal.invariant-loop-index
invariant-loop-index l = record {
  placed : l.places.items ++ map place_of (numbered l.number l.unit l.index (drop l.index l.unit.sequences.items))
      ≡ l.fn.places.items ++ map place_of (unit_numbered l.number l.unit);
  ranged : l.ranges.items ++ map kept_range (numbered l.number l.unit l.index (drop l.index l.unit.sequences.items))
      ≡ l.fn.ranges.items ++ map kept_range (unit_numbered l.number l.unit);
}

use Rattle.std.proofs.Common.{◌≡◌, ◌++◌, map, drop}
use Rattle.line_rewrite.specs.SequenceIndex.{all_numbered, kept_range, place_of}
use Rattle.line_rewrite.proofs.sequence_index.SequenceIndex.new.Given as goal

abbrev pub invariant-loop-number : goal.invariant-loop-number
invariant-loop-number l = record {
  placed : l.places.items ++ map place_of (all_numbered l.number (drop l.number l.units)) ≡ map place_of (all_numbered 0 l.units);
  ranged : l.ranges.items ++ map kept_range (all_numbered l.number (drop l.number l.units)) ≡ map kept_range (all_numbered 0 l.units);
}

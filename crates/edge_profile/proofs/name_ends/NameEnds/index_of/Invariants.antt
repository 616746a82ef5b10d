use Rattle.std.proofs.Common.{◌-◌, length, drop}
use Rattle.edge_profile.specs.NameEnds.{IsEnding}
use Rattle.edge_profile.proofs.name_ends.NameEnds.index_of.Given as goal

abbrev pub invariant-loop-index : goal.invariant-loop-index
invariant-loop-index l = IsEnding l.self.backward.items (drop (length l.name - l.index) l.name) l.ending

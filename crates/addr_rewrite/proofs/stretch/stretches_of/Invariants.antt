use Rattle.std.proofs.Common.{◌≡◌, map, take}
use Rattle.addr_rewrite.specs.WrittenAranges.{stretch_of}
use Rattle.addr_rewrite.proofs.stretch.stretches_of.Given as goal

abbrev pub invariant-loop-run : goal.invariant-loop-run
invariant-loop-run l = l.stretches.items ≡ map stretch_of (take l.run-index l.runs)

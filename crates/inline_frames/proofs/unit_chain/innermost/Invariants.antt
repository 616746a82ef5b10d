use Rattle.std.specs.Prelude.{◌<◌, IfSome, length}
use Rattle.inline_frames.proofs.UnitChains.{IsInner}
use Rattle.inline_frames.proofs.unit_chain.innermost.Given as goal

abbrev pub invariant-loop-number : goal.invariant-loop-number
invariant-loop-number l = record {
  inner : IsInner l.covering l.entries l.number l.found;
  within : IfSome l.found (λ n. n < length l.entries);
}

use Rattle.std.proofs.Common.{take}
use Rattle.std.specs.Prelude.{◌≡◌, map}
use Rattle.inline_frames.proofs.chain.namings_of.Given as goal

abbrev pub invariant-loop-link : goal.invariant-loop-link
invariant-loop-link l = l.namings.items ≡ map (λ k. k.naming) (take l.link-index l.links)

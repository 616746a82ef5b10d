use Rattle.std.proofs.Common.{subst, sym, List}
use Rattle.edge_profile.specs.PairCounts.{Counted, ArePairs}
use Rattle.edge_profile.specs.Profile.{profile_counts}
use Rattle.edge_profile.proofs.AscendingPairs.{are_pairs}
use Rattle.edge_profile.proofs.profile.Profile.pairs.Goals as goal

pub returns-clause-exact : goal.returns-clause-exact
returns-clause-exact c =
    subst (λ (pairs : List Counted). ArePairs (profile_counts c.args.self.now) pairs) (sym c.as_slice.ensures.value)
    (are_pairs c.args.self.now.pairs.items c.args.self.now.ordered c.args.self.now.positive)

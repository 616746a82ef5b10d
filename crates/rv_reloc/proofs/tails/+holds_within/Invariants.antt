use Rattle.rv_reloc.proofs.tails.+holds_within.Given as goal

abbrev pub decreases-holds_within : goal.decreases-holds_within
decreases-holds_within l = l.steps

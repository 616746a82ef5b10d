use Rattle.range_loc_rewrite.proofs.reading.read_lists.Goals as goal

pub returns-clause-free : goal.returns-clause-free
returns-clause-free c = c.in_ok-entries.ensures.places.free

use Rattle.code_starts.proofs.Inside.{Contains-between}
use Rattle.code_starts.proofs.instruction_starts.starts_in.Goals as goal

pub returns-clause-members : goal.returns-clause-members
returns-clause-members c =
    Contains-between _ _ _ _ _ _ _ c.split_at.ensures.front c.split_at-2.ensures.back c.split_at.ensures.front_len
    c.split_at-2.ensures.back_len c.search_below.ensures.bound
    c.search_below.ensures.below c.search_below.ensures.above c.search_below-2.ensures.below c.search_below-2.ensures.above

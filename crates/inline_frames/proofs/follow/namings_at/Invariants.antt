use Rattle.std.proofs.Common.{ℕ, nat_cmp}
use Rattle.std.specs.BTreeMap.{get}
use Rattle.std.specs.BTreeSet.{contains}
use Rattle.inline_frames.proofs.FileUnits.{IsNamed}
use Rattle.inline_frames.proofs.follow.namings_at.Given as goal

abbrev pub invariant-loop-number : goal.invariant-loop-number
invariant-loop-number l = (q : ℕ) →
    IsNamed l.reader.abbrevs l.reader.addr l.str_offsets (contains nat_cmp l.wanted q) q l.reader.units l.number (get nat_cmp l.found q)

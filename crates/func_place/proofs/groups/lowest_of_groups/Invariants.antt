use Rattle.func_place.proofs.LowestMembers.{AreLows}
use Rattle.func_place.proofs.groups.lowest_of_groups.Given as goal

abbrev pub invariant-loop-member : goal.invariant-loop-member
invariant-loop-member l = AreLows l.numbers l.member l.lows.items l.firsts.items

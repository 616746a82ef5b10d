use Rattle.std.proofs.Common.{map}
use Rattle.func_place.proofs.GroupMoves.{IsApart}
use Rattle.func_place.proofs.groups.Groups.new.Given as goal

abbrev pub invariant-loop-member : goal.invariant-loop-member
invariant-loop-member l = IsApart l.member l.numbers.items (map (λ d. d.items) l.lists.items)

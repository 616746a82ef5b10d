use Rattle.std.proofs.Common.{◌≡◌, ℕ, ◌<◌, ◌++◌, length}
use Rattle.std.specs.Prelude.{All}
use Rattle.std.specs.VecDeque.{deque_len}
use Rattle.func_place.specs.internal.Groups.{numbered}
use Rattle.func_place.proofs.groups.put_at_end.Given as goal

abbrev pub invariant-loop-u : goal.invariant-loop-u
invariant-loop-u l = (l.many.items ++ l.few.items ≡ l.initial.many.items ++ l.fn.few.items)
    × (All (λ u. u < length l.numbers) l.few.items)
    × ((u : ℕ) → u < length l.numbers →
    numbered l.few.items l.number l.numbers u ≡ numbered l.fn.few.items l.number l.initial.numbers u)

abbrev pub decreases-loop-u : goal.decreases-loop-u
decreases-loop-u l = deque_len l.few

-- Finding the heaviest callers, in the terms of the code.
use Rattle.std.specs.Prelude.{ℕ, ◌≡◌, ◌+◌, ◌<◌, ◌≤◌, ◌==◌, ◌&&◌, if◌then◌else◌, List, length, slice_index_or}
use Rattle.func_place.specs.declared.calls.UnitCall.{UnitCall}

-- the order of calls: by callee, then by caller
pub record IsUpTo (a b : UnitCall) : Type 0 where
  pub to : a.to ≤ b.to
  pub from : a.to ≡ b.to → a.from ≤ b.from

abbrev pub AreByCallee : List UnitCall → Type 0
AreByCallee calls = (i j : ℕ) (d : UnitCall) → i ≤ j → j < length calls →
    IsUpTo (slice_index_or calls i d) (slice_index_or calls j d)

-- the sum of the counts of a pair after one more call, which may be of the next pair
abbrev pub more_of : UnitCall → UnitCall → UnitCall
more_of run call = record {
  from = call.from;
  to = call.to;
  count = if (run.from == call.from) && (run.to == call.to) then run.count + call.count else call.count;
}

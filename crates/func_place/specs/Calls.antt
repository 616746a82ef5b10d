-- Counts from unit to unit, and the heaviest caller of a unit.
use Rattle.std.specs.Prelude.{ℕ, ◌==◌, ◌&&◌, if◌then◌else◌, not, nat_lt, List, Option, length, filter, sum_by}
use Rattle.std.specs.Prelude.{slice_index}
use Rattle.std.specs.List.{range_with_len, reduce}
use Rattle.func_place.specs.declared.calls.UnitCall.{UnitCall}

-- the sum of all counts from v to u
abbrev pub calls_between : List UnitCall → ℕ → ℕ → ℕ
calls_between calls v u = sum_by (λ c. if (c.from == v) && (c.to == u) then c.count else 0) calls

-- A unit is hot if its heat isn't 0.
abbrev pub hot_units : List ℕ → List ℕ
hot_units heats = filter (λ u. nat_lt 0 (slice_index heats u)) (range_with_len 0 (length heats))

-- the other hot units with a positive sum to u, ascending
abbrev pub callers_of : List ℕ → List UnitCall → ℕ → List ℕ
callers_of heats calls u = filter (λ v. not (v == u) && nat_lt 0 (calls_between calls v u)) (hot_units heats)

-- of two callers of u the one with the greater sum, or the first if the sums are equal
abbrev pub heavier : List UnitCall → ℕ → ℕ → ℕ → ℕ
heavier calls u v w = if nat_lt (calls_between calls v u) (calls_between calls w u) then w else v

-- the caller with the greatest sum, the lowest of several
abbrev pub heaviest_caller : List ℕ → List UnitCall → ℕ → Option ℕ
heaviest_caller heats calls u = reduce (heavier calls u) (callers_of heats calls u)

-- Rows, looked at one by one.
use Rattle.std.specs.Prelude.{◌≤◌, ◌==◌, ℕ, Bool, true, List, [], ◌∷◌, ◌++◌, nat_le, nat_lt, if◌then◌else◌}
use Rattle.std.specs.Prelude.{Option, Some, None}
use Rattle.line_rewrite.specs.declared.registers.Registers.{Registers}

-- The rows in force after one more row was reached.
abbrev pub joined : List Registers → Registers → List Registers
joined [] r = r ∷ []
joined (f ∷ found) r = if f.address == r.address then (f ∷ found) ++ r ∷ [] else r ∷ []

-- The rows in force after rows in ascending order.
unfoldable pub latest : List Registers → ℕ → List Registers → List Registers
latest found a [] = found
latest found a (r ∷ rows) = if nat_le r.address a then latest (joined found r) a rows else found

-- Addresses don't fall, and begin at `from` or above.
abbrev pub Ascends : ℕ → List Registers → Type 0
Ascends from [] = Unit {0}
Ascends from (r ∷ rows) = (from ≤ r.address) × Ascends r.address rows

-- The address is above the last row's, if there is a last row.
abbrev pub is_above : Option ℕ → ℕ → Bool
is_above None a = true
is_above (Some last) a = nat_lt last a

-- The address of the first row above `a`.
unfoldable pub next_above : ℕ → List Registers → Option ℕ
next_above a [] = None
next_above a (r ∷ rows) = if nat_lt a r.address then Some r.address else next_above a rows

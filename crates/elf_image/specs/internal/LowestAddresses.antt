-- The lowest of several addresses, during a search.
use Rattle.std.specs.Prelude.{ℕ, Option, Bool, false, nat_lt}
use Rattle.std.specs.Option.{option_map_or}

-- The address is above the lowest one so far, if there is one.
abbrev pub is_above : Option ℕ → ℕ → Bool
is_above lowest a = option_map_or (λ other. nat_lt other a) lowest false

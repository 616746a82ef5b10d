-- Numbers in a memory that may have no byte at some addresses.
use Rattle.std.specs.Prelude.{ℕ, zero, suc, ◌+◌, List, [], ◌∷◌, Option, Some, option_map, option_and_then}
use Rattle.rv_code.specs.machine.Machine.{little}

abbrev pub and_more : Option ℕ → Option (List ℕ) → Option (List ℕ)
and_more first rest = option_and_then (λ b. option_map (λ bs. b ∷ bs) rest) first

-- The n bytes from address `a` on, if all are present.
unfoldable pub bytes_in : (ℕ → Option ℕ) → ℕ → ℕ → Option (List ℕ)
bytes_in memory a zero = Some []
bytes_in memory a (suc n) = and_more (memory a) (bytes_in memory (a + 1) n)

-- The little-endian number of the n bytes from address `a` on, if all are present.
abbrev pub number_in : (ℕ → Option ℕ) → ℕ → ℕ → Option ℕ
number_in memory a n = option_map little (bytes_in memory a n)

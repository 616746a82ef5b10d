-- Ranges of addresses. Their bounds aren't truncated to 64 bits.
use Rattle.std.specs.Prelude.{◌&&◌, ℕ, Bool, IsTrue, List, AllPairs, nat_le, nat_lt}
use Rattle.answer_runs.specs.declared.range.Range.{Range}

abbrev pub holds_address : ℕ → Range → Bool
holds_address a r = nat_le r.low a && nat_lt a r.high

-- No address is in two of the ranges.

abbrev pub ShareNoAddress : Range → Range → Type 0
ShareNoAddress r s = (a : ℕ) → IsTrue (holds_address a r) → IsTrue (holds_address a s) → ⊥

abbrev pub AreApart : List Range → Type 0
AreApart ranges = AllPairs ShareNoAddress ranges

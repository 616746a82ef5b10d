-- Steps of loops over instructions.
use Rattle.std.proofs.Common.{◌+◌, ℕ, Option, option_map}

-- n rows, and more
abbrev pub plus : ℕ → Option ℕ → Option ℕ
plus n more = option_map (λ m. n + m) more

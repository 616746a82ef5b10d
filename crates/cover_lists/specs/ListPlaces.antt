-- The expressions and bounds of a list that was read.
use Rattle.std.specs.Prelude.{option_map}
use Rattle.cover_lists.specs.declared.list_place.Place.{Place}
use Rattle.cover_lists.specs.Located.{Located}

-- The expression, with its range.
abbrev pub located_of : Place → Located
located_of p =
    record { range = option_map (λ b. record { low = b.low; high = b.high }) p.bounds; expression = p.expression.now }

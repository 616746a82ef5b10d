-- At which address an entry with ranges is entered. DWARF 5, sections 2.17.3 and 2.18.
use Rattle.std.specs.Prelude.{◌^◌, ◌&&◌, ℕ, Bool, List, find, if◌then◌else◌, nat_lt, Option, Some, None}
use Rattle.std.specs.Prelude.{option_and_then, option_map}
use Rattle.std.specs.List.{list_any}
use Rattle.std.specs.Option.{option_or}
use Rattle.answer_runs.specs.declared.range.Range.{Range}
use Rattle.answer_runs.specs.AddressRanges.{holds_address}

-- A range without bytes is as good as none. Addresses have 64 bits, which the start of a range may pass.
abbrev pub has_bytes : Range → Bool
has_bytes r = nat_lt r.low r.high && nat_lt r.low (2 ^ 64)

-- Where the first range starts.
abbrev pub first_start : List Range → Option ℕ
first_start ranges = option_map (λ (r : Range). r.low) (find has_bytes ranges)

abbrev pub held_by : List Range → ℕ → Option ℕ
held_by ranges a = if list_any (holds_address a) ranges then Some a else None

-- An entry is entered at the address that it names, or else where its first range starts. An address that its ranges
-- don't hold is passed over.
abbrev pub entered : (named : Option ℕ) → List Range → Option ℕ
entered named ranges = option_or (option_and_then (held_by ranges) named) (first_start ranges)

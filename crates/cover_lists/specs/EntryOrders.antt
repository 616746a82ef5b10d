-- The runs of an entry's ranges in the order of its list. DWARF 5, sections 2.17.3 and 2.18.
use Rattle.std.specs.Prelude.{◌+◌, ◌-◌, ◌==◌, ◌&&◌, ◌++◌, ◌∷◌, [], ℕ, Bool, false, List, flat_map, nat_le, nat_lt}
use Rattle.std.specs.Prelude.{if◌then◌else◌, Option, Some, None, option_and_then, unwrap_or}
use Rattle.std.specs.List.{list_any}
use Rattle.std.specs.Option.{option_map_or, option_or}
use Rattle.addr_map.specs.declared.span.Span.{Span}
use Rattle.addr_map.specs.Spans.{moved, owner}
use Rattle.answer_runs.specs.declared.run.Run.{Run}
use Rattle.cover_lists.specs.declared.groups.RangedEntry.{RangedEntry}

abbrev pub has_byte : ℕ → Run Bool → Bool
has_byte p r = nat_le r.start p && nat_lt p (r.start + r.len)

abbrev pub are_at : List (Run Bool) → ℕ → Bool
are_at runs p = list_any (has_byte p) runs

abbrev pub is_owner : List Span → ℕ → ℕ → Bool
is_owner spans n a = option_map_or (λ o. o == a) (owner spans n) false

abbrev pub at_place : List Span → List (Run Bool) → ℕ → ℕ → Option ℕ
at_place spans runs a n = if is_owner spans n a && are_at runs n then Some n else None

-- The new place of the instruction at an address, if it has bytes there and some runs hold it.
abbrev pub placed : List Span → List (Run Bool) → Option ℕ → Option ℕ
placed spans runs a = option_and_then (λ a. option_and_then (at_place spans runs a) (moved spans a)) a

-- Where an entry is entered in new code.
abbrev pub entry_place : List Span → List (Run Bool) → RangedEntry → ℕ
entry_place spans runs e = unwrap_or (option_or (placed spans runs e.entry) (placed spans runs e.first)) 0

-- The part of a run from an address on, if it holds that.
abbrev pub front : ℕ → Run Bool → List (Run Bool)
front at r =
    if has_byte at r then record { start = at; len = r.start + r.len - at; answer = r.answer } ∷ [] else []

abbrev pub before : ℕ → Run Bool → List (Run Bool)
before at r =
    if r.start == at then [] else record { start = r.start; len = at - r.start; answer = r.answer } ∷ []

-- And what it leaves of the run.
abbrev pub rest : ℕ → Run Bool → List (Run Bool)
rest at r = if has_byte at r then before at r else r ∷ []

abbrev pub entry_first : ℕ → List (Run Bool) → List (Run Bool)
entry_first at runs = flat_map (front at) runs ++ flat_map (rest at) runs

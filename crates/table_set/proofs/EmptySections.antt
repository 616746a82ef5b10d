-- Sections that are absent stay empty.
use Rattle.std.proofs.Common.{◌≡◌, ◌∙◌, ap, refl, ℕ, List, [], length}
use Rattle.std.specs.Prelude.{filter, flat_map}
use Rattle.std.specs.List.{list_any, range_with_len}
use Rattle.std.specs.Prelude.{◌==◌}
use Rattle.table_core.specs.DebugUnits.{units_from}
use Rattle.dw_unit.specs.Changes.{changed_abbrevs, changed_addr, changed_info, table_bytes}
use Rattle.dw_unit.specs.CompUnits.{Sections, Unit, units}
use Rattle.dw_unit.specs.EntryMoves.{Moves}

pub no_info : (s : Sections) (m : Moves) → s.info ≡ [] → changed_info s m ≡ []
unfolding units_from
no_info s m e =
    ap (λ (info : List ℕ). changed_info (record { info = info; abbrevs = s.abbrevs; addr = s.addr }) m) e ∙ refl

pub no_abbrevs : (s : Sections) → s.abbrevs ≡ [] → changed_abbrevs s ≡ []
no_abbrevs s e =
    ap (λ (n : ℕ). flat_map (table_bytes s) (filter (λ o. list_any (λ (u : Unit). u.abbrev_offset == o) (units s)) (range_with_len 0 n)))
    (ap length e) ∙ refl

pub no_addr : (m : Moves) (addr : List ℕ) → addr ≡ [] → changed_addr m addr ≡ []
unfolding units_from
no_addr m addr e = ap (changed_addr m) e ∙ refl

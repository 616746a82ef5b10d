use Rattle.std.proofs.Common.{◌≡◌, ◌++◌, ◌∷◌, [], drop, map}
use Rattle.std.specs.Prelude.{flat_map}
use Rattle.dw_unit.specs.Changes.{declaration_bytes, is_own}
use Rattle.dw_unit.specs.CompUnits.{Sections}
use Rattle.dw_unit.specs.OwnPlaces.{AreOwn}
use Rattle.dw_unit.specs.TablesAt.{told_at}
use Rattle.dw_unit.specs.Told.{told_declaration}
use Rattle.dw_unit.proofs.new_tables.put_table.Given as goal

abbrev pub invariant-declarations : goal.invariant-declarations
invariant-declarations l = (s : Sections) → AreOwn s l.own →
    l.out.items ++ (flat_map (λ d. declaration_bytes (is_own s d) d)
    (drop l.index (map told_declaration l.table.table.now.table.list.items)) ++ 0 ∷ [])
    ≡ l.fn.out.items ++ (flat_map (λ d. declaration_bytes (is_own s d) d) (told_at l.table).list ++ 0 ∷ [])

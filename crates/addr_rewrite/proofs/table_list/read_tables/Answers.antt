use Rattle.std.proofs.Common.{◌≡◌, ◌∙◌, ◌+◌, ◌++◌, ◌∷◌, [], ℕ, List, ap, refl, sym, subst, take}
use Rattle.std.proofs.lemmas.List.{take_all, take_more}
use Rattle.table_core.specs.DebugUnits.{Walked}
use Rattle.addr_rewrite.specs.ArangesReading.{AreTables}
use Rattle.addr_rewrite.proofs.table_list.read_tables.Goals as goal

pub loop-table-init : goal.loop-table-init
loop-table-init c = record { ranges = c.new.ensures.items; bad = refl }

pub loop-table-preserved : goal.loop-table-preserved
loop-table-preserved c =
    let ws : List Walked = c.args.tables.now in
    let i : ℕ = c.loop-table.table-index in
    let w : Walked = c.table-item.result in
    let more : take (i + 1) ws ≡ take i ws ++ w ∷ [] =
    take_more ws i w c.loop-table-test.true ∙ ap (λ (x : Walked). take i ws ++ x ∷ []) (sym c.table-item.is) in
    subst (λ (l : List Walked). AreTables l c.add_table.new.read) (sym more)
    (c.in_ok-add_table.ensures (take i ws) c.loop-table.invariant)

pub returns : goal.returns
returns c =
    subst (λ (l : List Walked). AreTables l c.loop-table.read) (take_all c.loop-table.table-index c.args.tables.now c.loop-table-test.false)
    c.loop-table.invariant

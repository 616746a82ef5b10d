use Rattle.std.proofs.Common.{◌≡◌, ◌+◌, ◌∙◌, ◌++◌, ◌∷◌, [], ℕ, List, ap, sym, subst, append_assoc, drop, length, take}
use Rattle.std.specs.Prelude.{flat_map}
use Rattle.std.proofs.lemmas.Grind.{flat_map-append}
use Rattle.std.proofs.lemmas.List.{append-nil, take_more, drop_more}
use Rattle.table_core.specs.DebugUnits.{Walked}
use Rattle.dw_unit.specs.Changes.{Patch, patched, table_patches}
use Rattle.addr_rewrite.specs.TableOrder.{AreInOrder, bytes_end}
use Rattle.addr_rewrite.proofs.TableOrder.{order_less, order_within}
use Rattle.addr_rewrite.proofs.addr_table.put_tables.Goals as goal

pub put_table-requires-clause-behind : goal.put_table-requires-clause-behind
put_table-requires-clause-behind c =
    let tables : List Walked = c.args.tables.now in
    let i : ℕ = c.loop-table.table-index in
    let w : Walked = c.table-item.result in
    let step : drop i tables ≡ w ∷ drop (i + 1) tables = drop_more tables i w c.loop-table-test.true
    ∙ ap (λ (x : Walked). x ∷ drop (i + 1) tables) (sym c.table-item.is) in
    let here : AreInOrder c.loop-table.to (length c.args.section.now) (w ∷ drop (i + 1) tables) =
    subst (λ (ws : List Walked). AreInOrder c.loop-table.to (length c.args.section.now) ws) step c.loop-table.invariant.order in
    here.0

pub put_table-requires-clause-within : goal.put_table-requires-clause-within
put_table-requires-clause-within c =
    let tables : List Walked = c.args.tables.now in
    let i : ℕ = c.loop-table.table-index in
    let w : Walked = c.table-item.result in
    let step : drop i tables ≡ w ∷ drop (i + 1) tables = drop_more tables i w c.loop-table-test.true
    ∙ ap (λ (x : Walked). x ∷ drop (i + 1) tables) (sym c.table-item.is) in
    let here : AreInOrder c.loop-table.to (length c.args.section.now) (w ∷ drop (i + 1) tables) =
    subst (λ (ws : List Walked). AreInOrder c.loop-table.to (length c.args.section.now) ws) step c.loop-table.invariant.order in
    here.1

pub loop-table-preserved : goal.loop-table-preserved
loop-table-preserved c =
    let tables : List Walked = c.args.tables.now in
    let i : ℕ = c.loop-table.table-index in
    let w : Walked = c.table-item.result in
    let size : ℕ = length c.args.section.now in
    let rest : List Walked = drop (i + 1) tables in
    let step : drop i tables ≡ w ∷ rest = drop_more tables i w c.loop-table-test.true
    ∙ ap (λ (x : Walked). x ∷ rest) (sym c.table-item.is) in
    let here : AreInOrder c.loop-table.to size (w ∷ rest) = subst (λ (ws : List Walked). AreInOrder c.loop-table.to size ws) step
    c.loop-table.invariant.order in
    let more : take (i + 1) tables ≡ take i tables ++ w ∷ [] =
    take_more tables i w c.loop-table-test.true ∙ ap (λ (x : Walked). take i tables ++ x ∷ []) (sym c.table-item.is) in
    record {
      put = λ m ps e.
          let f : Walked → List Patch = table_patches m in
          let before : List Patch = flat_map f (take i tables) in
          let whole : flat_map f (take (i + 1) tables) ++ ps ≡ before ++ (f w ++ ps) =
          ap (λ (ws : List Walked). flat_map f ws ++ ps) more
          ∙ ap (λ (l : List Patch). l ++ ps) (flat_map-append f (take i tables) (w ∷ [])
          ∙ ap (λ (l : List Patch). before ++ l) (append-nil (f w)))
          ∙ append_assoc before (f w) ps in
          c.in_ok-to.ensures.put m ps e ∙ c.loop-table.invariant.put m (f w ++ ps) e
          ∙ ap (λ (l : List Patch). patched 0 l c.args.section.now) (sym whole);
      order = order_less (bytes_end w) c.in_ok-to.to size rest c.in_ok-to.ensures.to here.2;
    }

pub returns-clause-inside : goal.returns-clause-inside
returns-clause-inside c =
    order_within c.loop-table.to (length c.args.section.now) (drop c.loop-table.table-index c.args.tables.now) c.loop-table.invariant.order

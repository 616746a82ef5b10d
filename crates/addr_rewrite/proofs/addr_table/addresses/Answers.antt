use Rattle.std.proofs.Common.{◌≡◌, ◌∙◌, ◌++◌, [], ℕ, List, ap, length, subst, sym}
use Rattle.std.specs.Prelude.{flat_map}
use Rattle.std.proofs.lemmas.List.{append-nil}
use Rattle.table_core.specs.DebugUnits.{Walked, walked}
use Rattle.dw_unit.specs.Changes.{Patch, changed_addr, table_patches, patched}
use Rattle.addr_rewrite.specs.TableOrder.{AreInOrder}
use Rattle.addr_rewrite.proofs.TableOrder.{walked_order}
use Rattle.addr_rewrite.proofs.addr_table.addresses.Goals as goal

pub returns : goal.returns
returns c = λ m e.
    let section : List ℕ = c.contents_of-section.result.now in
    let tables : c.deref.result.now ≡ walked 5 section = c.deref.ensures.value ∙ c.in_ok-tables.ensures in
    c.in_ok-extend_from_slice.ensures.items
    ∙ ap (λ (l : List ℕ). c.put_tables.new.out.items ++ l) c.split_at.ensures.back
    ∙ c.in_ok-to.ensures.put m [] e
    ∙ ap (λ (ps : List Patch). patched 0 ps section) (append-nil (flat_map (table_patches m) c.deref.result.now))
    ∙ ap (λ (ws : List Walked). patched 0 (flat_map (table_patches m) ws) section) tables
    ∙ ap (changed_addr m) c.contents_of-section.ensures

pub put_tables-requires-clause-order : goal.put_tables-requires-clause-order
put_tables-requires-clause-order c =
    subst (λ (ws : List Walked). AreInOrder 0 (length c.contents_of-section.result.now) ws)
    (sym (c.deref.ensures.value ∙ c.in_ok-tables.ensures))
    (walked_order 5 c.contents_of-section.result.now)

use Rattle.std.proofs.Common.{◌≡◌, ◌∙◌, ◌+◌, ◌-◌, ◌/◌, ◌++◌, [], ℕ, List, Option, Some, sym, ap, arith, length, drop, option_map}
use Rattle.std.specs.Option.{option_map_or}
use Rattle.table_core.specs.DebugUnits.{Walked}
use Rattle.dw_unit.specs.Changes.{Patch, address_patches, table_patches, patched}
use Rattle.addr_rewrite.proofs.AddressPatches.{address_end}
use Rattle.addr_rewrite.proofs.addr_table.put_table.Goals as goal

pub returns-then-bytes-lt-HEADER-clause-put : goal.returns-then-bytes-lt-HEADER-clause-put
returns-then-bytes-lt-HEADER-clause-put c = λ m ps e.
    let w : Walked = c.args.table.now in
    let bytes : List ℕ = c.in-Some.bytes.now in
    let there : w.bytes ≡ Some bytes = ap (λ (w : Walked). w.bytes) (sym c.table.view_is) ∙ ap (option_map (λ b. b.now)) c.in-Some.is in
    let short : (length bytes - 4) / 8 ≡ 0 = omega (arith, c.if-bytes-lt-HEADER.true) in
    let none : table_patches m w ≡ [] =
    ap (λ (o : Option (List ℕ)). option_map_or (λ (b : List ℕ). address_patches m ((length b - 4) / 8) (w.place + 8) (drop 4 b)) o []) there
    ∙ address_end m ((length bytes - 4) / 8) (w.place + 8) (drop 4 bytes) short in
    ap (λ (l : List Patch). c.args.out.now.items ++ patched c.args.from (l ++ ps) (drop c.args.from c.args.section.now)) (sym none)

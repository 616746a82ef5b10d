use Rattle.std.proofs.Common.{rules, ◌≡◌, ◌<◌, ◌+◌, ◌∙◌, ◌++◌, ◌∷◌, [], ℕ, List, ap, sym, length, drop, map, get_or}
use Rattle.std.specs.Prelude.{flat_map}
use Rattle.dw_unit.specs.Changes.{declaration_bytes, is_own}
use Rattle.dw_unit.specs.Declarations.{Declaration}
use Rattle.dw_unit.specs.Told.{told_declaration}
use Rattle.dw_unit.proofs.SpelledSteps.{table_more, told_step}
use Rattle.dw_unit.proofs.new_tables.put_table.Goals as goal

pub declarations-preserved : goal.declarations-preserved
declarations-preserved c = λ s own.
    let items = c.args.table.table.now.table.list.items in
    let i : ℕ = c.declarations.index in
    let x = c.index-declaration.result.now in
    let inside : i < length items = search rules in
    let item : x ≡ get_or items i x = search rules in
    let f : Declaration → List ℕ = λ d. declaration_bytes (is_own s d) d in
    let d : Declaration = told_declaration x in
    let put : c.put_declaration.new.out.items ≡ c.declarations.out.items ++ f d =
    c.in_ok-put_declaration.ensures ∙ ap (λ b. c.declarations.out.items ++ declaration_bytes b d) (c.has.ensures ∙ sym (own d)) in
    table_more f d (drop (i + 1) (map told_declaration items)) (0 ∷ []) c.declarations.out.items c.put_declaration.new.out.items put
    ∙ ap (λ (l : List Declaration). c.declarations.out.items ++ (flat_map f l ++ 0 ∷ [])) (sym (told_step items i x inside item))
    ∙ c.declarations.invariant s own

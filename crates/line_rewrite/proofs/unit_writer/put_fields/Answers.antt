use Rattle.std.proofs.Common.{◌∷◌, [], ◌∙◌, ap, ℕ, List, ◌++◌}
use Rattle.line_rewrite.specs.WrittenUnits.{flag_byte, operand_counts}
use Rattle.line_rewrite.proofs.UnitSizes.{three_parts}
use Rattle.line_rewrite.proofs.unit_writer.put_fields.Goals as goal

pub returns : goal.returns
returns c =
    let h = c.args.header.now in
    three_parts (1 ∷ 1 ∷ flag_byte h.coding.default_is_stmt ∷ 251 ∷ 14 ∷ 13 ∷ []) operand_counts h.rest.items c.args.out.now.items
    c.put_bytes.new.out.items
    c.put_bytes-2.new.out.items c.put_bytes-3.new.out.items
    (c.in_ok-put_bytes.ensures ∙ ap (λ (n : ℕ). c.args.out.now.items ++ 1 ∷ 1 ∷ n ∷ 251 ∷ 14 ∷ 13 ∷ []) c.flag_byte-stmt.ensures)
    c.in_ok-put_bytes-2.ensures
    (c.in_ok-put_bytes-3.ensures ∙ ap (λ (l : List ℕ). c.put_bytes-2.new.out.items ++ l) c.deref.ensures.value)

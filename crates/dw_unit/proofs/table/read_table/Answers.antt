use Rattle.std.proofs.Common.{◌≡◌, ◌-◌, ◌∙◌, ◌∷◌, [], sym, ap, arith, Some, List, ℕ, length, map, drop, length-drop}
use Rattle.std.proofs.lemmas.List.{map-append}
use Rattle.dw_unit.specs.Declarations.{Declaration, table_within}
use Rattle.rb_bytes.specs.Readers.{Reading}
use Rattle.dw_unit.specs.declared.declaration as code
use Rattle.dw_unit.specs.Told.{told_declaration}
use Rattle.dw_unit.proofs.Walks.{with_before}
use Rattle.dw_unit.proofs.Readers.{table_more, table_ends, table_breaks, table_starts, declaration_forward}
use Rattle.dw_unit.proofs.table.read_table.Goals as goal

pub table-init : goal.table-init
table-init c =
    let size : ℕ = length c.args.section.now in
    let left_is : c.new-cursor.result.left ≡ drop c.args.offset c.args.section.now =
    ap (λ (r : Reading). r.left) c.new-cursor.ensures ∙ c.split_at.ensures.back in
    record {
      same =
          ap (λ (l : List code.Declaration.Declaration). with_before (map told_declaration l)
          (table_within (length c.new-cursor.result.left) size c.new-cursor.result.left)) c.new-list.ensures.items
          ∙ ap (λ (l : List ℕ). with_before [] (table_within (length l) size l)) left_is ∙ table_starts c.args.section.now c.args.offset;
      on = omega (arith, ap length left_is, length-drop c.args.offset c.args.section.now);
    }

pub table-preserved : goal.table-preserved
table-preserved c =
    let read = rw c.in-Ok-Some.field-0-is at c.in-Ok-Some.ensures.read in
    let size : ℕ = length c.args.section.now in
    let ds : List Declaration = map told_declaration c.table.list.items in
    let d : Declaration = told_declaration c.in-Ok-Some.declaration in
    record {
      same =
          ap (λ (l : List Declaration). with_before l (table_within (length c.next_declaration.new.cursor.left) size
          c.next_declaration.new.cursor.left))
          (ap (map told_declaration) c.in_ok-push-in-Ok-Some.ensures.items
          ∙ map-append told_declaration c.table.list.items (c.in-Ok-Some.declaration ∷ []))
          ∙ table_more ds d size c.table.cursor.left c.next_declaration.new.cursor.left read ∙ c.table.invariant.same;
      on = omega (
        arith,
        declaration_forward (size - length c.table.cursor.left) c.table.cursor.left c.next_declaration.new.cursor.left _
            read,
        c.table.invariant.on,
      );
    }

pub returns-in-Ok-None : goal.returns-in-Ok-None
returns-in-Ok-None c =
    let read = rw c.in-Ok-None.field-0-is at c.in-Ok-None.ensures.read in
    let size : ℕ = length c.args.section.now in
    let ds : List Declaration = map told_declaration c.table.list.items in
    ap (λ (n : ℕ). record { list = ds; end = Some (size - n) }) c.left.ensures
    ∙ sym (table_ends ds size c.table.cursor.left c.next_declaration.new.cursor.left read) ∙ c.table.invariant.same

pub returns-in-Err-Trouble : goal.returns-in-Err-Trouble
returns-in-Err-Trouble c =
    let broken = rw c.in-Err-Trouble.field-0-is at c.in-Err-Trouble.ensures.trouble in
    sym (table_breaks (map told_declaration c.table.list.items) (length c.args.section.now) c.table.cursor.left c.in-Err-Trouble.field-0-0
    broken)
    ∙ c.table.invariant.same

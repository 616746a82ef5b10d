use Rattle.std.proofs.Common.{◌≡◌, ◌<◌, ◌-◌, ◌+◌, ◌∙◌, sym, ap, arith, Err, List, ℕ, length, Bool}
use Rattle.std.specs.Prelude.{if◌then◌else◌}
use Rattle.std.proofs.lemmas.Result.{err_from_is_err_and}
use Rattle.table_core.specs.ReadSteps.{with_head}
use Rattle.dw_unit.specs.CompUnits.{UnitBounds, attrs_at, depth_behind}
use Rattle.dw_unit.specs.Declarations.{Declaration}
use Rattle.dw_unit.specs.Walking.{entries_at, unit_bounds, walked_entry}
use Rattle.dw_unit.specs.Told.{told_declaration}
use Rattle.dw_unit.specs.TablesAt.{told_at}
use Rattle.dw_unit.proofs.PlacedAttrs.{placed_less}
use Rattle.dw_unit.proofs.Entries.{no_entries, bad_code, end_code, bad_declaration, bad_attrs, one_entry, trouble_map}
use Rattle.dw_unit.specs.declared.declaration.Spec.{Spec}
use Rattle.dw_unit.specs.declared.entry.Attr.{Attr}
use Rattle.dw_unit.proofs.walk.next_entry.Goals as goal
use Rattle.dw_unit.proofs.walk.next_entry.Goals.{then-declaration, else-declaration}

pub returns-in_err-code-clause-trouble : goal.returns-in_err-code-clause-trouble
returns-in_err-code-clause-trouble c =
    let u : UnitBounds = unit_bounds c.args.unit c.args.end (told_at c.args.table) in
    let p = err_from_is_err_and c.from_residual.result c.from_residual.ensures.1 in
    let some : 0 < length c.codes.cursor.left = omega arith in
    rw (p.1, p.2) (sym c.codes.invariant.same ∙ bad_code u c.codes.depth c.codes.cursor.left c.in_err-code.field-0.0 some
    c.in_err-code.ensures.trouble)

pub returns-in_err-declaration-clause-trouble : goal.returns-in_err-declaration-clause-trouble
returns-in_err-declaration-clause-trouble c =
    let u : UnitBounds = unit_bounds c.args.unit c.args.end (told_at c.args.table) in
    let p = err_from_is_err_and c.from_residual-in_err-declaration.result c.from_residual-in_err-declaration.ensures.1 in
    let some : 0 < length c.codes.cursor.left = omega arith in
    rw (p.1, p.2) (sym c.codes.invariant.same ∙ bad_declaration u c.codes.depth c.in_ok-code.code c.codes.cursor.left
    c.unsigned.new.cursor.left c.in_err-declaration.field-0.0 some
    c.in_ok-code.ensures.read c.if-code-ne0.true c.in_err-declaration.ensures.trouble)

pub returns-in_err-read_attrs-clause-trouble : goal.returns-in_err-read_attrs-clause-trouble
returns-in_err-read_attrs-clause-trouble c =
    let u : UnitBounds = unit_bounds c.args.unit c.args.end (told_at c.args.table) in
    let p = err_from_is_err_and c.from_residual-in_err-read_attrs.result c.from_residual-in_err-read_attrs.ensures.1 in
    let some : 0 < length c.codes.cursor.left = omega arith in
    let d : Declaration = told_declaration c.in_ok-declaration.declaration.now in
    rw (p.1, p.2) (trouble_map c.in_err-read_attrs.field-0.0 (λ t. attrs_at c.args.end d.place c.deref.result.now
    c.unsigned.new.cursor.left ≡ Err t) (λ t. entries_at u c.args.depth.now c.args.cursor.now.left ≡ Err t)
    (λ t e. sym c.codes.invariant.same ∙ bad_attrs u c.codes.depth c.in_ok-code.code c.codes.cursor.left c.unsigned.new.cursor.left d t
    some c.in_ok-code.ensures.read c.if-code-ne0.true c.in_ok-declaration.ensures.read
    (ap (λ (l : List Spec). attrs_at c.args.end d.place l c.unsigned.new.cursor.left) (sym c.deref.ensures.value) ∙ e))
    c.in_err-read_attrs.ensures.trouble)

pub returns-then-code-ne0-clause-read : goal.returns-then-code-ne0-clause-read
returns-then-code-ne0-clause-read c =
    let u : UnitBounds = unit_bounds c.args.unit c.args.end (told_at c.args.table) in
    let some : 0 < length c.codes.cursor.left = omega arith in
    let d : Declaration = told_declaration c.in_ok-declaration.declaration.now in
    let left : List ℕ = c.codes.cursor.left in
    let behind : List ℕ = c.read_attrs.new.cursor.left in
    let items : List Attr = c.read_attrs.new.attrs.items in
    let depth : ℕ = c.codes.depth in
    let depth_is : c.if-declaration.depth ≡ depth_behind depth d = elim c.if-declaration.branch [
      | then-declaration w ↦ w.depth-is ∙ ap (λ (b : Bool). if b then depth + 1 else depth) (sym w.if-declaration.true)
      | else-declaration w ↦ w.depth-is ∙ ap (λ (b : Bool). if b then depth + 1 else depth) (sym w.if-declaration.false)
    ] in
    sym c.codes.invariant.same
    ∙ one_entry u depth c.in_ok-code.code left c.unsigned.new.cursor.left behind d items some c.in_ok-code.ensures.read c.if-code-ne0.true
    c.in_ok-declaration.ensures.read
    (ap (λ (l : List Spec). attrs_at c.args.end d.place l c.unsigned.new.cursor.left) (sym c.deref.ensures.value)
    ∙ c.in_ok-read_attrs.ensures.read)
    ∙ ap (λ (n : ℕ). with_head (walked_entry u (c.args.end - n) depth d items) (entries_at u (depth_behind depth d) behind))
    (sym c.left-in-codes.ensures)
    ∙ ap (λ (n : ℕ). with_head (walked_entry u (c.args.end - c.left-in-codes.result) depth d items) (entries_at u n behind))
    (sym depth_is)

pub returns-then-code-ne0-clause-placed : goal.returns-then-code-ne0-clause-placed
returns-then-code-ne0-clause-placed c =
    let end : ℕ = c.args.end in
    let less : length c.unsigned.new.cursor.left < length c.codes.cursor.left = c.in_ok-code.ensures.on in
    let on = c.codes.invariant.on in
    placed_less (end - length c.unsigned.new.cursor.left) (end - length c.args.cursor.now.left)
    (end - length c.read_attrs.new.cursor.left) c.read_attrs.new.attrs.items
    (omega arith) c.in_ok-read_attrs.ensures.placed

pub codes-preserved : goal.codes-preserved
codes-preserved c =
    let u : UnitBounds = unit_bounds c.args.unit c.args.end (told_at c.args.table) in
    let some : 0 < length c.codes.cursor.left = omega arith in
    let read = rw c.if-code-ne0.false at c.in_ok-code.ensures.read in
    let less : length c.unsigned.new.cursor.left < length c.codes.cursor.left = c.in_ok-code.ensures.on in
    record {
      same =
          ap (λ (n : ℕ). entries_at u n c.unsigned.new.cursor.left) c.saturating_sub.ensures
          ∙ sym (end_code u c.codes.depth c.codes.cursor.left c.unsigned.new.cursor.left some read) ∙ c.codes.invariant.same;
      on = omega arith;
      bounded = omega arith;
    }

pub returns-clause-read : goal.returns-clause-read
returns-clause-read c =
    let u : UnitBounds = unit_bounds c.args.unit c.args.end (told_at c.args.table) in
    let none : length c.codes.cursor.left ≡ 0 = omega arith in
    sym c.codes.invariant.same ∙ no_entries u c.codes.depth c.codes.cursor.left none

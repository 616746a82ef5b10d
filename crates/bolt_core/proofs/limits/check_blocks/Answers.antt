use Rattle.std.proofs.Common.{All, List, sym, subst}
use Rattle.std.proofs.lemmas.Result.{err_from_is_err_and}
use Rattle.rv_code.specs.declared.placed.Block.{Block}
use Rattle.rv_code.specs.declared.placed.Func.{Func}
use Rattle.rv_code.specs.layout.FunctionLists.{AreLaidOut}
use Rattle.rv_code.specs.layout.FunctionMembers.{IsOfFunction}
use Rattle.bolt_core.proofs.Accepted.{as_slices, large_code_refusal, misplaced_refusal, no_place_refusal, no_room_by}
use Rattle.bolt_core.proofs.Accepted.{not_carried_refusal, stands_by}
use Rattle.bolt_core.proofs.limits.check_blocks.Goals as goal

pub check_units-requires-clause-funcs : goal.check_units-requires-clause-funcs
check_units-requires-clause-funcs c =
    subst AreLaidOut (sym c.as_slice-funcs.ensures.value) c.requires.laid

pub check_units-requires-clause-blocks : goal.check_units-requires-clause-blocks
check_units-requires-clause-blocks c =
    subst (λ (blocks : List Block). All (IsOfFunction c.as_slice-funcs.result.now) blocks) (sym c.as_slice-blocks.ensures.value)
    (subst (λ (funcs : List Func). All (IsOfFunction funcs) c.args.program.now.blocks.items) (sym c.as_slice-funcs.ensures.value)
    c.requires.stretches)

pub returns-in_err-check_units-clause-refused : goal.returns-in_err-check_units-clause-refused
returns-in_err-check_units-clause-refused c = λ file profile is.
    let p = err_from_is_err_and c.from_residual.result c.from_residual.ensures.1 in
    rw (p.1, p.2) (misplaced_refusal
    (as_slices c.args.program.now c.as_slice-funcs.ensures.value c.as_slice-blocks.ensures.value is)
    c.in_err-check_units.field-0.0 c.in_err-check_units.ensures.fault)

pub returns-in_err-read_tables-clause-refused : goal.returns-in_err-read_tables-clause-refused
returns-in_err-read_tables-clause-refused c = λ file profile is.
    let p = err_from_is_err_and c.from_residual-in_err-read_tables.result c.from_residual-in_err-read_tables.ensures.1 in
    rw (p.1, p.2) (not_carried_refusal
    (as_slices c.args.program.now c.as_slice-funcs.ensures.value c.as_slice-blocks.ensures.value is)
    c.in_ok-check_units.ensures.free c.in_err-read_tables.field-0.0 c.in_err-read_tables.ensures.fault)

pub returns-in_err-new_start-clause-refused : goal.returns-in_err-new_start-clause-refused
returns-in_err-new_start-clause-refused c = λ file profile is.
    let p = err_from_is_err_and c.from_residual-in_err-new_start.result c.from_residual-in_err-new_start.ensures.1 in
    rw (p.1, p.2) (no_place_refusal
    (as_slices c.args.program.now c.as_slice-funcs.ensures.value c.as_slice-blocks.ensures.value is)
    c.in_ok-check_units.ensures.free c.in_ok-read_tables.ensures.free c.in_err-new_start.field-0.0
    (no_room_by c.args.program.now c.as_slice-funcs.ensures.value c.as_slice-blocks.ensures.value c.in_err-new_start.field-0.0
    c.in_err-new_start.ensures.refused))

pub returns-in_err-check_code-clause-refused : goal.returns-in_err-check_code-clause-refused
returns-in_err-check_code-clause-refused c = λ file profile is.
    let p = err_from_is_err_and c.from_residual-in_err-check_code.result c.from_residual-in_err-check_code.ensures.1 in
    rw (p.1, p.2) (large_code_refusal
    (as_slices c.args.program.now c.as_slice-funcs.ensures.value c.as_slice-blocks.ensures.value is)
    (stands_by c.args.program.now c.as_slice-funcs.ensures.value c.as_slice-blocks.ensures.value c.in_ok-check_units.ensures.free
    c.in_ok-read_tables.ensures.free c.in_ok-new_start.ensures.room)
    c.in_err-check_code.field-0.0 c.in_err-check_code.ensures.refused)

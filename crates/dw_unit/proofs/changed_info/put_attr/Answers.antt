use Rattle.std.proofs.Common.{◌≡◌, arith, ⊎_elim}
use Rattle.table_core.specs.declared.form.TheConstants.{DW_FORM_addr, DW_FORM_sec_offset}
use Rattle.dw_unit.proofs.changed_info.put_attr.Goals as goal

pub put_number-requires-clause-len : goal.put_number-requires-clause-len
put_number-requires-clause-len c = ⊎_elim
    (λ (e : c.args.attr.now.form ≡ DW_FORM_addr). let g = c.requires.placed.address e in omega arith)
    (λ (e : c.args.attr.now.form ≡ DW_FORM_sec_offset). let g = c.requires.placed.offset e in omega arith)
    c.in-Some.ensures.form

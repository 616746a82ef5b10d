use Rattle.std.proofs.Common.{◌∙◌, Some, ap, refl}
use Rattle.std.specs.Option.{option_or}
use Rattle.table_core.specs.DebugUnits.{Walked}
use Rattle.addr_rewrite.specs.ArangesReading.{told}
use Rattle.addr_rewrite.proofs.TableLists.{table_added, table_failed}
use Rattle.addr_rewrite.proofs.table_list.add_table.Goals as goal

pub returns-in_ok-add_ranges-in-Ok : goal.returns-in_ok-add_ranges-in-Ok
returns-in_ok-add_ranges-in-Ok c = λ ws are.
    table_added ws c.args.table.now c.args.read.now _ are (told c.in-Ok.table) c.in-Ok.ensures.read c.in_ok-add_ranges-in-Ok.ensures refl

pub returns-in-Err-Trouble : goal.returns-in-Err-Trouble
returns-in-Err-Trouble c = λ ws are.
    let trouble = rw c.in-Err-Trouble.field-0-is at c.in-Err-Trouble.ensures.trouble in
    table_failed ws c.args.table.now c.args.read.now _ are c.in-Err-Trouble.field-0-0 trouble refl
    (c.or-read.ensures ∙ ap (λ (w : Walked). option_or c.args.read.now.bad (Some w.place)) c.table.view_is)

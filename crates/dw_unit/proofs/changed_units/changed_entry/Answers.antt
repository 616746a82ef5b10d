use Rattle.std.proofs.Common.{◌∙◌, sym}
use Rattle.dw_unit.specs.Told.{told_declaration}
use Rattle.dw_unit.proofs.changed_units.changed_entry.Goals as goal

pub returns-clause-is_own : goal.returns-clause-is_own
returns-clause-is_own c = λ s m x. c.has.ensures ∙ sym (x.own (told_declaration c.args.head.now.declaration.now))

use Rattle.std.proofs.Common.{◌∙◌, sym, ap}
use Rattle.answer_runs.specs.Choices.{least}
use Rattle.dw_unit.specs.Declarations.{Table, has_bad_form, has_bad_high}
use Rattle.dw_unit.specs.Faults.{places_with}
use Rattle.dw_unit.proofs.tables.Tables.find.Goals as goal

pub indexed-table-requires : goal.indexed-table-requires
indexed-table-requires c = (c.args.self.now.right c.args.offset c.start-start.result c.start-start.ensures).within

pub returns-clause-table : goal.returns-clause-table
returns-clause-table c =
    (c.args.self.now.right c.args.offset c.start-start.result c.start-start.ensures).table c.indexed-table.result.now
    c.indexed-table.ensures

pub returns-clause-form : goal.returns-clause-form
returns-clause-form c =
    let s = c.args.self.now.right c.args.offset c.start-start.result c.start-start.ensures in
    (s.from c.indexed-table.result.now c.indexed-table.ensures).form
    ∙ sym (ap (λ (t : Table). least (places_with has_bad_form t.list)) (s.table c.indexed-table.result.now c.indexed-table.ensures))

pub returns-clause-high : goal.returns-clause-high
returns-clause-high c =
    let s = c.args.self.now.right c.args.offset c.start-start.result c.start-start.ensures in
    (s.from c.indexed-table.result.now c.indexed-table.ensures).high
    ∙ sym (ap (λ (t : Table). least (places_with has_bad_high t.list)) (s.table c.indexed-table.result.now c.indexed-table.ensures))

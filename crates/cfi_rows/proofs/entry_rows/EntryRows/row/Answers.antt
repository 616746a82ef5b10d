use Rattle.std.proofs.Common.{rules, ◌≡◌, ◌∙◌, ap, get_or}
use Rattle.std.specs.Rc.{rc_value}
use Rattle.cfi_rows.specs.declared.cie_program.CieProgram.{CieProgram}
use Rattle.cfi_rows.specs.RuleChanges.{over}
use Rattle.cfi_rows.proofs.HistorySteps.{row-of}
use Rattle.cfi_rows.proofs.entry_rows.EntryRows.row.Goals as goal

pub returns : goal.returns
returns c =
    let initial = (rc_value c.self.inside.initial).known.rules in
    let changes = c.self.inside.history.changes.items in
    let kept = c.index-kept.result.now in
    let item : kept ≡ get_or c.self.inside.history.rows.items c.args.i kept = search rules in
    let cfa : c.in_ok-copy.field-0 ≡ rc_value kept.cfa = c.in_ok-copy.ensures ∙ c.deref-2.ensures in
    let list : c.in_ok-copied.field-0.items ≡ over initial c.in_ok-own.own =
    c.in_ok-copied.ensures ∙ c.in_ok-rules.ensures ∙ ap (λ (x : CieProgram). over x.known.rules c.in_ok-own.own) c.deref.ensures in
    row-of initial changes c.self.inside.history.rows.items c.args.self.now c.args.i kept _ c.self.view_is c.requires item
    (λ i. record { cfa = cfa i; rules = (list ∙ ap (over initial) c.in_ok-own.ensures) i })

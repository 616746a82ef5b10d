use Rattle.std.proofs.Common.{option_map, reverse}
use Rattle.std.specs.Rc.{rc_value}
use Rattle.cfi_rows.specs.FrameRows.{restored}
use Rattle.cfi_rows.proofs.RememberedStates.{changed}
use Rattle.cfi_rows.proofs.machine.Machine.replace_rule.Goals as goal

pub returns : goal.returns
returns c =
    let m = c.args.self.now in
    changed m.location (option_map rc_value m.cfa) m.rules c.replace.new.self
    (restored c.args.register (option_map rc_value c.args.rule) m.rules)
    m.changes.items c.push.new.self.items c.in_ok-change.change (reverse m.saved.items)
    c.in_ok-change.ensures.replaced c.in_ok-change.ensures.undone c.in_ok-push.ensures.items

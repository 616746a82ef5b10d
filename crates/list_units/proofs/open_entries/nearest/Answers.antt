use Rattle.std.proofs.Common.{◌∙◌, reverse, sym}
use Rattle.list_units.proofs.OpenFacts.{last_is, nearest_is, nearest_none}
use Rattle.list_units.proofs.open_entries.nearest.Goals as goal

pub returns : goal.returns
returns c =
    nearest_is (reverse c.args.entries.now) c.in_ok-last.last.now (sym (last_is c.args.entries.now) ∙ sym c.in_ok-last.ensures.value)

pub returns-in_err-last : goal.returns-in_err-last
returns-in_err-last c =
    rw c.from_residual.ensures
    (nearest_none (reverse c.args.entries.now) (sym (last_is c.args.entries.now) ∙ sym c.in_err-last.ensures.value))

use Rattle.std.proofs.Common.{[], ◌∷◌, refl}
use Rattle.cfi_rows.proofs.HistorySteps.{goes-on}
use Rattle.cfi_rows.proofs.row_history.RowHistory.add_change.Goals as goal

pub returns : goal.returns
returns c = λ rules keeps.
    goes-on c.args.self.now _ rules _ (record { register = c.args.register; rule = c.args.rule } ∷ []) refl refl
    c.in_ok-push.ensures.items refl keeps

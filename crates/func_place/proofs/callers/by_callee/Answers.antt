use Rattle.std.proofs.Common.{rules, sym, ◌∙◌, ◌+◌, get_or}
use Rattle.std.proofs.lemmas.Fn.{always_returns_same}
use Rattle.func_place.specs.declared.calls.UnitCall.{UnitCall}
use Rattle.func_place.proofs.CalleeOrder.{AreByCallee-sorted}
use Rattle.func_place.proofs.Ranking.{is_lt-pair}
use Rattle.func_place.proofs.callers.by_callee.Goals as goal

pub returns-clause-ordered : goal.returns-clause-ordered
returns-clause-ordered c =
    let sorted = c.sort_by_key.new.self.items in
    AreByCallee-sorted sorted (λ k d a b.
    let later : UnitCall = get_or sorted (k + 1) d in
    let here : UnitCall = get_or sorted k d in
    sym (is_lt-pair later.to here.to later.from here.from)
    ∙ c.in_ok-sort_by_key.ensures.sorted (λ c. (c.to, c.from)) (always_returns_same _ _ _ (λ a r g k. search rules)) k d a b)

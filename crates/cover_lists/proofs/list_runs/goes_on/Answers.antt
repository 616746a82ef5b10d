use Rattle.std.proofs.Common.{arith, ◌≡◌, ◌∙◌, sym, ap, Option, Some, List, ℕ}
use Rattle.std.specs.Global.{Vec}
use Rattle.std.proofs.lemmas.Option.{get_or_from_slice_get, slice_get_within}
use Rattle.answer_runs.specs.Choices.{unless_empty}
use Rattle.answer_runs.proofs.Grown.{last-get, said-last}
use Rattle.cover_lists.specs.KeptLists.{items_in, said_by}
use Rattle.cover_lists.specs.ListRuns.{said}
use Rattle.cover_lists.proofs.list_runs.goes_on.Goals as goal

pub returns-in-Some : goal.returns-in-Some
returns-in-Some c = λ same.
    let o : Option (List (List ℕ)) = unless_empty (said_by c.args.list.now c.args.numbers.now) in
    let is = sym c.in-Some.ensures.value in
    let within = slice_get_within c.args.runs.now _ _ is in
    said-last said (λ m. o ≡ Some m) c.args.runs.now
    (last-get (λ r. o ≡ Some (said r.answer)) c.args.runs.now _ c.in-Some.last.now
    (omega (arith, within)) (sym (get_or_from_slice_get c.args.runs.now _ _ _ is))
    (c.is_said.ensures same ∙ ap (λ (xs : List (Vec ℕ)). Some (items_in xs)) c.deref.ensures.value))

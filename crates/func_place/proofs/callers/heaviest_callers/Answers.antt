use Rattle.std.proofs.Common.{ℕ, ◌≡◌, ◌<◌, Option, None, subst, length}
use Rattle.std.specs.Prelude.{IfOk, slice_index_or}
use Rattle.std.specs.List.Sorted.{IsPermutation}
use Rattle.std.proofs.lemmas.List.Sorted.{All-permutation, sum_by-IsPermutation}
use Rattle.func_place.specs.declared.calls.UnitCall.{UnitCall}
use Rattle.func_place.specs.Calls.{heaviest_caller}
use Rattle.func_place.proofs.CalleeOrder.{heaviest_caller-IsPermutation}
use Rattle.func_place.proofs.callers.heaviest_callers.Goals as goal

pub heaviest_of_sorted-requires-clause-inside : goal.heaviest_of_sorted-requires-clause-inside
heaviest_of_sorted-requires-clause-inside c =
    rw c.deref.ensures.value
    (All-permutation (λ (k : UnitCall). (k.from < length c.args.heats.now) × (k.to < length c.args.heats.now)) c.args.calls.now
    c.in_ok-sorted.sorted.items c.in_ok-sorted.ensures.each c.requires.inside)

pub heaviest_of_sorted-requires-clause-room : goal.heaviest_of_sorted-requires-clause-room
heaviest_of_sorted-requires-clause-room c =
    rw (
      c.deref.ensures.value,
      sum_by-IsPermutation (λ (k : UnitCall). k.count) c.args.calls.now c.in_ok-sorted.sorted.items c.in_ok-sorted.ensures.each,
    ) c.requires.room

pub returns-clause-heaviest : goal.returns-clause-heaviest
returns-clause-heaviest c =
    let p : IsPermutation c.args.calls.now c.deref.result.now = rw c.deref.ensures.value c.in_ok-sorted.ensures.each in
    let same : heaviest_caller c.args.heats.now c.deref.result.now ≡ heaviest_caller c.args.heats.now c.args.calls.now =
    λ i u. heaviest_caller-IsPermutation c.args.heats.now c.args.calls.now c.deref.result.now u p i in
    subst (λ (f : ℕ → Option ℕ). IfOk c.heaviest_of_sorted.result (λ v. (u : ℕ) → slice_index_or v.items u None ≡ f u)) same
    c.heaviest_of_sorted.ensures.heaviest

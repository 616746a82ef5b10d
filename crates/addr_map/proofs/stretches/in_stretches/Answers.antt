use Rattle.std.proofs.Common.{◌∙◌, ap, sym, subst, List}
use Rattle.std.specs.Prelude.{IsPermutation, flat_map}
use Rattle.std.proofs.lemmas.Result.{IfOk-weaker}
use Rattle.addr_map.specs.declared.span.Span.{Span}
use Rattle.addr_map.specs.internal.Stretches.{spans_in}
use Rattle.addr_map.proofs.StretchOrder.{flat_map-permutation}
use Rattle.addr_map.proofs.stretches.in_stretches.Goals as goal

pub returns : goal.returns
returns c =
    let sorted = c.sort_stretches.new.stretches.items in
    IfOk-weaker c.joined.result _ _
    (λ moved is. subst (λ (xs : List Span). IsPermutation xs moved.items) c.in_ok-stretches.ensures
    (subst (IsPermutation (flat_map spans_in c.in_ok-stretches.stretches.items))
    (sym (is ∙ ap (flat_map spans_in) c.deref.ensures.value))
    (flat_map-permutation spans_in c.in_ok-stretches.stretches.items sorted c.in_ok-sort_stretches.ensures)))
    c.joined.ensures

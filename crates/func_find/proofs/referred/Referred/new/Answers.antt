use Rattle.std.proofs.Common.{◌∙◌, ap, subst, ℕ, List, [], ◌∷◌, ◌++◌, Any}
use Rattle.std.proofs.lemmas.List.Kept.{AllPairs-from_increasing}
use Rattle.rv_code.specs.declared.placed.Role.{Role}
use Rattle.rv_code.specs.declared.cell.CodeCell.{CodeCell}
use Rattle.rv_code.specs.layout.ProgramCode.{RoleNames, CellNames}
use Rattle.rb_bytes.specs.Lists.{Gains}
use Rattle.rb_lanes.proofs.Walked.{rising}
use Rattle.func_find.proofs.ReferredLists.{AreReferred-lists}
use Rattle.func_find.proofs.referred.Referred.new.Goals as goal

pub invariant_of-result : goal.invariant_of-result
invariant_of-result c = record {
  rising = rising (λ (n : ℕ). n) _ (AllPairs-from_increasing _ c.make_ascending.ensures.ascending);
}

pub returns : goal.returns
returns c = λ tabled refers.
    let elf = c.args.elf.now in
    let two = c.push_targets.new.addresses.items in
    let three = c.push_roles.new.addresses.items in
    let four = c.push_cells.new.addresses.items in
    let first = c.in_ok-push.ensures.items ∙ ap (λ (xs : List ℕ). xs ++ elf.entry ∷ []) c.new-addresses.ensures.items in
    let roles = subst
    (λ (rs : List (ℕ × Role)). Gains two three (λ a. Any (λ r. RoleNames r.1 a) rs)) c.deref.ensures.value
    c.in_ok-push_roles.ensures in
    let cells = subst
    (λ (cs : List CodeCell). Gains three four (λ a. Any (λ x. CellNames x a) cs)) c.deref-2.ensures.value
    c.in_ok-push_cells.ensures in
    AreReferred-lists elf tabled c.args.parts.now c.args.refs.now _ two three four _ c.requires.parts refers first
    c.in_ok-push_targets.ensures roles cells c.make_ascending.ensures.same

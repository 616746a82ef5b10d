use Rattle.std.proofs.Common.{◌∙◌, ap, subst, ℕ, List, [], ◌∷◌, ◌++◌}
use Rattle.std.specs.Prelude.{Any}
use Rattle.std.proofs.lemmas.List.Kept.{AllPairs-from_increasing}
use Rattle.rv_code.specs.declared.placed.Role.{Role}
use Rattle.rv_code.specs.declared.cell.CodeCell.{CodeCell}
use Rattle.rv_code.specs.layout.ProgramCode.{RoleNames, CellNames}
use Rattle.rb_bytes.specs.Lists.{Gains}
use Rattle.flow_infer.proofs.EntryLists.{entries_listed}
use Rattle.flow_infer.proofs.entries.entries.Goals as goal

pub returns-clause-ascending : goal.returns-clause-ascending
returns-clause-ascending c = AllPairs-from_increasing _ c.make_ascending.ensures.ascending

pub returns-clause-members : goal.returns-clause-members
returns-clause-members c =
    let two = c.push_far_targets.new.addresses.items in
    let three = c.push_roles.new.addresses.items in
    let four = c.push_cells.new.addresses.items in
    let first = c.in_ok-push.ensures.items ∙ ap (λ (xs : List ℕ). xs ++ c.args.entry ∷ []) c.new-entries.ensures.items in
    let roles = subst (λ (rs : List (ℕ × Role)). Gains two three (λ a. Any (λ r. RoleNames r.1 a) rs)) c.deref.ensures.value
    c.in_ok-push_roles.ensures in
    let cells = subst (λ (cs : List CodeCell). Gains three four (λ a. Any (λ x. CellNames x a) cs)) c.deref-2.ensures.value
    c.in_ok-push_cells.ensures in
    entries_listed c.args.funcs.now c.args.refs.now c.args.entry _ two three four _ first c.in_ok-push_far_targets.ensures roles
    cells c.make_ascending.ensures.same

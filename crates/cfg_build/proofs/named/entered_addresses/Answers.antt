use Rattle.std.proofs.Common.{◌∙◌, ap, subst, ℕ, List, [], ◌∷◌, ◌++◌}
use Rattle.std.proofs.lemmas.Result.{IfOk-weaker}
use Rattle.std.specs.Prelude.{◌↔◌, Any, Contains}
use Rattle.rv_code.specs.declared.placed.Role.{Role}
use Rattle.rv_code.specs.declared.cell.CodeCell.{CodeCell}
use Rattle.rv_code.specs.layout.ProgramCode.{RoleNames, CellNames}
use Rattle.rb_bytes.specs.Lists.{Gains}
use Rattle.cfg_build.specs.NamedAddresses.{IsMember}
use Rattle.cfg_build.proofs.Entered.{AreEntered-lists}
use Rattle.cfg_build.proofs.named.entered_addresses.Goals as goal

pub returns : goal.returns
returns c =
    let two = c.push_targets.new.addresses.items in
    let three = c.push_roles.new.addresses.items in
    let four = c.push_cells.new.addresses.items in
    let first = c.in_ok-push.ensures.items ∙ ap (λ (xs : List ℕ). xs ++ c.args.entry ∷ []) c.new-entered.ensures.items in
    let roles = subst (λ (rs : List (ℕ × Role)). Gains two three (λ a. Any (λ r. RoleNames r.1 a) rs)) c.deref.ensures.value
    c.in_ok-push_roles.ensures in
    let cells = subst (λ (cs : List CodeCell). Gains three four (λ a. Any (λ x. CellNames x a) cs)) c.deref-2.ensures.value
    c.in_ok-push_cells.ensures in
    IfOk-weaker c.new.result _ _
    (λ set is. AreEntered-lists c.args.funcs.now c.args.refs.now c.args.entry _ two three four set first
    c.in_ok-push_targets.ensures roles cells
    (subst (λ (xs : List ℕ). (a : ℕ) → IsMember set a ↔ Contains xs a) c.deref-3.ensures.value is))
    c.new.ensures

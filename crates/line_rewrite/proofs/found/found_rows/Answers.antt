use Rattle.std.proofs.Common.{◌≡◌, ◌∙◌, ◌⊎◌, inl, inr, ap, subst, sym, List}
use Rattle.line_rewrite.specs.declared.near.NearRows.{NearRows}
use Rattle.line_rewrite.specs.declared.registers.Registers.{Registers}
use Rattle.line_rewrite.specs.declared.unit.Unit as kept
use Rattle.line_rewrite.specs.LineMachine.{in_force}
use Rattle.line_rewrite.specs.NearRows.{AreNear}
use Rattle.line_rewrite.specs.SequenceIndex.{AreRowsAt}
use Rattle.line_rewrite.specs.Walks.{Ascends}
use Rattle.line_rewrite.proofs.found.found_rows.Goals as goal

still : (us : List kept.Unit) (old new : NearRows) → AreNear us old → (new ≡ old) ⊎ AreNear us new → AreNear us new
still us old new was (inl same) = subst (AreNear us) (sym same) was
still us old new was (inr now) = now

pub in_force-requires : goal.in_force-requires
in_force-requires c =
    subst (Ascends 0) (sym c.deref.ensures.value)
    (still c.args.units.now c.args.near.now c.reach.new.self c.requires.near c.in_ok-reach.ensures.near).ascend

pub returns-then-not-branch-clause-near : goal.returns-then-not-branch-clause-near
returns-then-not-branch-clause-near c =
    still c.args.units.now c.args.near.now c.reach.new.self c.requires.near c.in_ok-reach.ensures.near

pub returns-clause-near : goal.returns-clause-near
returns-clause-near c =
    still c.args.units.now c.args.near.now c.reach.new.self c.requires.near c.in_ok-reach.ensures.near

pub returns-clause-found : goal.returns-clause-found
returns-clause-found c =
    let near = c.reach.new.self in
    let found = still c.args.units.now c.args.near.now near c.requires.near c.in_ok-reach.ensures.near in
    let there = c.in_ok-reach.ensures.reaches c.if-not-branch.false in
    subst (AreRowsAt c.args.units.now c.args.a near.unit)
    (sym (c.in_ok-rows.ensures ∙ ap (λ (l : List Registers). in_force c.args.a l) c.deref.ensures.value))
    (found.found c.args.a there.low there.high)

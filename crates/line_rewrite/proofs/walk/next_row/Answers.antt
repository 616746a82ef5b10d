use Rattle.std.proofs.Common.{arith}
use Rattle.line_rewrite.proofs.Steps.{none_out, none_gap, none_stops, none_ends, same_sets, row_appends}
use Rattle.line_rewrite.proofs.walk.next_row.Goals as goal

pub returns-in_default-clause-none : goal.returns-in_default-clause-none
returns-in_default-clause-none c = λ f.
    none_gap _ _ _ _ _ c.ops.invariant _ c.in_default.ensures.gap

pub returns-then-not-step-clause-none : goal.returns-then-not-step-clause-none
returns-then-not-step-clause-none c = λ f.
    none_stops _ _ _ _ _ c.ops.invariant _ _ c.in-Ok.ensures.read (c.step.ensures.passes c.if-not-step.true)

pub returns-in-Ends-clause-none : goal.returns-in-Ends-clause-none
returns-in-Ends-clause-none c = λ f.
    none_ends _ _ _ _ _ c.ops.invariant _ _ c.in-Ok.ensures.read _ c.in-Ends.ensures (c.step.ensures.stays c.if-not-step.false)

pub ops-preserved : goal.ops-preserved
ops-preserved c =
    same_sets _ _ _ _ _ c.ops.invariant _ _ c.in-Ok.ensures.read _ c.in-Sets.ensures (c.step.ensures.stays c.if-not-step.false)

pub returns-in-Appends-clause-some : goal.returns-in-Appends-clause-some
returns-in-Appends-clause-some c = λ t.
    row_appends _ _ _ _ _ c.ops.invariant _ _ c.in-Ok.ensures.read _ c.in-Appends.ensures (c.step.ensures.stays c.if-not-step.false)

pub returns-clause-none : goal.returns-clause-none
returns-clause-none c = λ f.
    none_out _ _ _ _ _ c.ops.invariant (omega arith)

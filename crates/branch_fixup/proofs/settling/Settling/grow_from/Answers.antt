use Rattle.std.proofs.Common.{◌∙◌, ap, arith}
use Rattle.std.specs.Prelude.{sum_by}
use Rattle.branch_fixup.specs.Growth.{left_of}
use Rattle.branch_fixup.proofs.settling.Settling.grow_from.Goals as goal

pub loop-short-preserved : goal.loop-short-preserved
loop-short-preserved c =
    let i = c.loop-short.invariant in
    let e = c.in_ok-grew.ensures in
    let less = rw c.if-not-grew.false at e.fewer in
    let before = i.fewer in
    record { settling = e.settling; same = e.same ∙ i.same; fewer = omega (arith, less, before); listed = e.listed }

pub loop-short-smaller : goal.loop-short-smaller
loop-short-smaller c = rw c.if-not-grew.false at c.in_ok-grew.ensures.fewer

pub returns-then-not-grew-clause-same : goal.returns-then-not-grew-clause-same
returns-then-not-grew-clause-same c = c.in_ok-grew.ensures.same ∙ c.loop-short.invariant.same

pub returns-then-not-grew-clause-fewer : goal.returns-then-not-grew-clause-fewer
returns-then-not-grew-clause-fewer c =
    let same = rw c.if-not-grew.true at c.in_ok-grew.ensures.fewer in
    let e = ap (sum_by left_of) same in
    let before = c.loop-short.invariant.fewer in
    omega (arith, e, before)

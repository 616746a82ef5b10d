use Rattle.std.proofs.Common.{◌<◌, ◌≤◌, subst}
use Rattle.rv_code.specs.layout.FunctionLists.{address_end}
use Rattle.frame_rewrite.proofs.CodeEnd.{one-later, step-within, span-low, all-seen}
use Rattle.frame_rewrite.proofs.frames_address.code_end.Goals as goal

pub later-end-requires : goal.later-end-requires
later-end-requires c = span-low c.args.map.now c.loop-i.i address_end c.span.result
    (subst (λ n. c.loop-i.i < n) c.len-i-end.ensures c.loop-i-test.true) c.span.ensures c.requires

pub loop-i-preserved : goal.loop-i-preserved
loop-i-preserved c =
    let less = subst (λ n. c.loop-i.i < n) c.len-i-end.ensures c.loop-i-test.true in
    record {
      rest = one-later c.args.map.now c.loop-i.i c.loop-i.end c.later-end.result _ c.span.result less c.span.ensures
          c.later-end.ensures c.loop-i.invariant.rest;
      low = step-within c.args.map.now c.loop-i.i c.loop-i.end c.later-end.result address_end c.span.result less
          c.span.ensures c.later-end.ensures c.requires c.loop-i.invariant.low;
    }

pub returns-clause-is : goal.returns-clause-is
returns-clause-is c = all-seen c.args.map.now c.loop-i.i c.loop-i.end _
    (subst (λ n. n ≤ c.loop-i.i) c.len-i-end.ensures c.loop-i-test.false) c.loop-i.invariant.rest

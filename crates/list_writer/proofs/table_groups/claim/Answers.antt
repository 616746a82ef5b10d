use Rattle.std.proofs.Common.{List, subst}
use Rattle.std.proofs.lemmas.List.{take_all}
use Rattle.dw_lists.specs.declared.named_list.NamedList.{NamedList}
use Rattle.list_writer.proofs.GroupSteps.{AreClaimedSoFar, all_claimed, none_claimed, one_claimed}
use Rattle.list_writer.proofs.table_groups.claim.Goals as goal

pub loop-entry-init : goal.loop-entry-init
loop-entry-init c = none_claimed c.args.own c.args.used.now

pub loop-entry-preserved : goal.loop-entry-preserved
loop-entry-preserved c =
    one_claimed c.args.own c.args.entries.now c.loop-entry.entry-index _ c.args.used.now c.loop-entry.used c.claim_index.new.used
    c.in_ok-claim_index.field-0 c.loop-entry-test.true c.loop-entry.invariant c.in_ok-claim_index.ensures c.if-not-branch.false

pub returns : goal.returns
returns c =
    all_claimed c.args.own c.args.entries.now c.args.used.now c.loop-entry.used
    (subst (λ (l : List NamedList). AreClaimedSoFar c.args.own l c.args.used.now c.loop-entry.used)
    (take_all c.loop-entry.entry-index c.args.entries.now c.loop-entry-test.false) c.loop-entry.invariant)

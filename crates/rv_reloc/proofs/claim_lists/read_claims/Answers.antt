use Rattle.std.proofs.Common.{sym, arith}
use Rattle.std.proofs.lemmas.List.{get_or_default}
use Rattle.rv_reloc.proofs.ClaimLists.{claims_begin, claims_next, claims_all}
use Rattle.rv_reloc.proofs.Kept.{counts}
use Rattle.rv_reloc.proofs.claim_lists.read_claims.Goals as goal

pub loop-relocation-init : goal.loop-relocation-init
loop-relocation-init c = claims_begin c.args.elf.now c.args.records.now _ c.new-claims.ensures.items

pub claims_at-claim-requires-clause-counts : goal.claims_at-claim-requires-clause-counts
claims_at-claim-requires-clause-counts c =
    counts c.args.elf.now c.args.records.now _ c.requires.records
    (c.loop-relocation.relocation-index, c.loop-relocation-test.true, sym (get_or_default _ _ _ _ c.loop-relocation-test.true))

pub loop-relocation-preserved : goal.loop-relocation-preserved
loop-relocation-preserved c =
    claims_next c.args.elf.now c.args.records.now c.loop-relocation.relocation-index _ c.loop-relocation.claims.items _ _
    c.claims_at-claim.result.0 c.claims_at-claim.result.1
    c.loop-relocation-test.true
    (get_or_default _ _ _ _ c.loop-relocation-test.true) c.in_ok-push_some.ensures.is c.in_ok-push_some-2.ensures.is
    c.claims_at-claim.ensures.is c.claims_at-claim.ensures.each c.claims_at-claim.ensures.after_is c.claims_at-claim.ensures.after_each
    c.loop-relocation.invariant

pub returns : goal.returns
returns c =
    claims_all c.args.elf.now c.args.records.now c.loop-relocation.relocation-index _ (omega arith) c.loop-relocation.invariant

use Rattle.std.proofs.Common.{arith}
use Rattle.std.proofs.lemmas.List.{get_or_default}
use Rattle.rv_reloc.specs.Lows.{IsLowOf}
use Rattle.rv_reloc.specs.Records.{seen}
use Rattle.rv_reloc.proofs.Finds.{AreFound-begin, AreFound-next, AreFound-all}
use Rattle.rv_reloc.proofs.lows.read_lows.Goals as goal

pub loop-record-init : goal.loop-record-init
loop-record-init c = AreFound-begin (λ r low. IsLowOf c.args.elf.now (seen r) low) c.args.records.now _ c.new-lows.ensures.items

pub loop-record-preserved : goal.loop-record-preserved
loop-record-preserved c =
    AreFound-next
    (λ r low. IsLowOf c.args.elf.now
    (seen r) low) c.args.records.now c.loop-record.record-index _ c.loop-record.lows.items _
    c.low_of.result c.loop-record-test.true
    (get_or_default _ _ _ _ c.loop-record-test.true) c.in_ok-push_some.ensures.is c.low_of.ensures.is
    c.low_of.ensures.only c.loop-record.invariant

pub returns : goal.returns
returns c = AreFound-all (λ r low. IsLowOf c.args.elf.now (seen r) low) c.args.records.now c.loop-record.record-index _
    (omega arith) c.loop-record.invariant

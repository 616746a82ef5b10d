use Rattle.rv_memory.specs.Memory.{memory_of}
use Rattle.rv_memory.proofs.MemoryBytes.{bytes_more, bytes_all}
use Rattle.rv_memory.proofs.memory.Memory.bytes.Goals as goal

pub loop-i-preserved : goal.loop-i-preserved
loop-i-preserved c =
    rw (c.in_ok-push.ensures.items, c.byte.ensures)
    (bytes_more (memory_of c.args.self.now) c.args.address c.loop-i.i c.args.count c.loop-i.bytes.items _
    c.loop-i-test.true c.loop-i.invariant)

pub returns : goal.returns
returns c = bytes_all
    (memory_of c.args.self.now) c.args.address c.loop-i.i c.args.count c.loop-i.bytes.items _
    c.loop-i-test.false c.loop-i.invariant

use Rattle.std.proofs.Common.{◌^◌, ◌+◌, ◌≤◌, arith, length}
use Rattle.rv_code.specs.machine.Machine.{low_bytes}
use Rattle.rv_memory.specs.Memory.{unwritten_byte}
use Rattle.rv_memory.specs.Pages.{page_byte}
use Rattle.rv_code.proofs.machine.LowBytes.{length_low_bytes}
use Rattle.rv_memory.proofs.AddressRuns.{put_pages}
use Rattle.rv_memory.proofs.CodeKept.{code_put_if}
use Rattle.rv_memory.proofs.memory.Memory.put_in_page.Goals as goal

pub returns-clause-written : goal.returns-clause-written
returns-clause-written c = λ yes q.
    let m = c.args.self.now in
    let low = low_bytes c.args.count c.args.number in
    let room : c.args.address + length low ≤ 2 ^ 64 = omega (arith, length_low_bytes c.args.count c.args.number) in
    put_pages (page_byte m.pages) (page_byte c.put.new.self) (unwritten_byte m) c.args.address low room (c.put.ensures.put yes) q

pub invariant_of-self-clause-code_stays : goal.invariant_of-self-clause-code_stays
invariant_of-self-clause-code_stays c =
    let m = c.args.self.now in
    let low = low_bytes c.args.count c.args.number in
    code_put_if m c.put.result (page_byte c.put.new.self) c.args.address c.args.count low
    (length_low_bytes c.args.count c.args.number)
    (omega arith) c.requires.writable c.put.ensures.put c.put.ensures.kept

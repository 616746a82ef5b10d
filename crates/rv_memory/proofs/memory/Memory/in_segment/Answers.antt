use Rattle.std.proofs.Common.{◌∙◌, sym, arith}
use Rattle.rv_memory.proofs.AddressRuns.{loaded_run}
use Rattle.rv_memory.proofs.memory.Memory.in_segment.Goals as goal

pub returns-then-has_flag : goal.returns-then-has_flag
returns-then-has_flag c = λ yes.
    let elf = c.args.self.now.elf.now in
    let p = c.in-Some.segment.now in
    let within = c.lies_in.ensures.0 yes in
    let low = within.0 in
    let high = within.1 in
    let sum = c.saturating_add.ensures in
    loaded_run elf c.args.flag c.args.address c.args.count p (sym c.in-Some.ensures.first) c.in-Some.ensures.loads
    (sym c.has_flag.ensures ∙ c.if-has_flag.true) low (omega arith) (omega arith)

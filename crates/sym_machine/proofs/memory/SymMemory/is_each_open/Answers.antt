use Rattle.std.proofs.Common.{◌∙◌, sym, arith}
use Rattle.sym_machine.specs.internal.Memory.{is_open_at}
use Rattle.sym_machine.proofs.EachByte.{each-next, each-all}
use Rattle.sym_machine.proofs.memory.SymMemory.is_each_open.Goals as goal

pub returns-then-not-is_open : goal.returns-then-not-is_open
returns-then-not-is_open c = sym (each-next (is_open_at c.args.self.now) c.args.address c.loop-i.i c.args.count _
    c.loop-i-test.true c.loop-i.invariant (sym c.is_open.ensures ∙ c.if-not-is_open.true))

pub loop-i-preserved : goal.loop-i-preserved
loop-i-preserved c = each-next (is_open_at c.args.self.now) c.args.address c.loop-i.i c.args.count _
    c.loop-i-test.true c.loop-i.invariant (sym c.is_open.ensures ∙ c.if-not-is_open.false)

pub returns : goal.returns
returns c = sym (each-all (is_open_at c.args.self.now) c.args.address c.loop-i.i c.args.count (omega (arith, c.loop-i-test.false))
    c.loop-i.invariant)

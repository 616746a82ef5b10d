use Rattle.std.proofs.Common.{◌≡◌, ◌<◌, ◌-◌, ◌+◌, rules, arith, length}
use Rattle.std.proofs.lemmas.Grind.{common_steps}
use Rattle.rv_code.specs.machine.Machine.{plus}
use Rattle.rv_memory.specs.Memory.{memory_of}
use Rattle.rv_memory.proofs.MemoryBytes.{put_none, put_next}
use Rattle.rv_memory.proofs.CodeKept.{all_may_each, writable-keeps}
use Rattle.std.proofs.Common.{◌∙◌, ap, drop}
use Rattle.rv_code.specs.machine.Machine.{put}
use Rattle.rv_memory.proofs.memory.Memory.overwrite.Goals as goal

pub loop-left-init : goal.loop-left-init
loop-left-init c = grind (arith, common_steps, put_none)

pub loop-left-preserved : goal.loop-left-preserved
loop-left-preserved c = record {
  within = omega (arith, c.loop-left.invariant.within);
  room = λ k h. c.overwrite_byte.ensures.kept (plus c.args.address k) (c.loop-left.invariant.room k h);
  writable = writable-keeps c.loop-left.self c.overwrite_byte.new.self c.overwrite_byte.ensures.space_kept c.args.address
      (length c.args.bytes.now) c.loop-left.invariant.writable;
  written = λ q.
      let inside : c.loop-left.left - 1 < length c.args.bytes.now = omega (arith, c.loop-left.invariant.within) in
      let next : c.loop-left.left - 1 + 1 ≡ c.loop-left.left = omega arith in
      let step =
      rw next at (put_next (memory_of c.args.self.now) c.args.address (c.loop-left.left - 1) q c.args.bytes.now inside) in
      grind (arith, common_steps, step, c.loop-left.invariant.written q, c.overwrite_byte.ensures.written q);
  space_kept = search (rules, c.loop-left.invariant.space_kept, c.overwrite_byte.ensures.space_kept);
}

pub overwrite_byte-requires-clause-writable : goal.overwrite_byte-requires-clause-writable
overwrite_byte-requires-clause-writable c = grind (arith, common_steps, all_may_each)

pub returns-clause-written : goal.returns-clause-written
returns-clause-written c = λ q.
    let m = memory_of c.args.self.now in
    let none : c.loop-left.left ≡ 0 = omega (arith, c.loop-left-test.false) in
    let start : plus c.args.address 0 ≡ c.args.address = omega arith in
    c.loop-left.invariant.written q ∙ ap (λ k. put m (plus c.args.address k) (drop k c.args.bytes.now) q) none
    ∙ ap (λ a. put m a c.args.bytes.now q) start

use Rattle.std.proofs.Common.{◌≡◌, ◌∙◌, ◌+◌, ◌-◌, ◌<◌, sym, ap, arith, None, refl}
use Rattle.std.specs.Prelude.{◌==◌, if◌then◌else◌, replicate}
use Rattle.rv_code.specs.machine.Machine.{plus, put}
use Rattle.sym_machine.specs.internal.OtherBytes.{other_byte}
use Rattle.sym_machine.proofs.SymbolMemory.{put_nothing, put_none_next}
use Rattle.sym_machine.proofs.memory.SymMemory.clear_each.Goals as goal

pub loop-left-init : goal.loop-left-init
loop-left-init c = record {
  within = omega arith;
  cleared = λ q. put_nothing (other_byte c.args.self.now.others) (plus c.args.address c.args.count)
      (c.args.count - c.args.count) q (omega arith);
  bytes = refl;
}

pub loop-left-preserved : goal.loop-left-preserved
loop-left-preserved c = record {
  within = omega (arith, c.loop-left.invariant.within);
  cleared = λ q.
      let old = other_byte c.args.self.now.others in
      let i = c.loop-left.left - 1 in
      let inside : i < c.args.count = omega (arith, c.loop-left.invariant.within) in
      let next : i + 1 ≡ c.loop-left.left = omega arith in
      c.clear.ensures q
      ∙ ap (λ x. if q == plus c.args.address i then None else x) (c.loop-left.invariant.cleared q)
      ∙ sym (rw next at (put_none_next old c.args.address i c.args.count q inside));
  bytes = c.loop-left.invariant.bytes;
}

pub returns-clause-cleared : goal.returns-clause-cleared
returns-clause-cleared c = λ q.
    let old = other_byte c.args.self.now.others in
    let none : c.loop-left.left ≡ 0 = omega (arith, c.loop-left-test.false) in
    let start : plus c.args.address 0 ≡ c.args.address = omega arith in
    let whole : c.args.count - 0 ≡ c.args.count = omega arith in
    c.loop-left.invariant.cleared q
    ∙ ap (λ k. put old (plus c.args.address k) (replicate (c.args.count - k) None) q) none
    ∙ ap (λ a. put old a (replicate (c.args.count - 0) None) q) start
    ∙ ap (λ n. put old c.args.address (replicate n None) q) whole

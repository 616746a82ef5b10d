use Rattle.std.proofs.Common.{◌≡◌, ◌∙◌, ◌+◌, ◌-◌, ◌<◌, sym, ap, arith, Some, refl}
use Rattle.std.specs.Prelude.{◌==◌, if◌then◌else◌}
use Rattle.rv_code.specs.machine.Machine.{plus, put}
use Rattle.sym_machine.specs.declared.other_bytes.OtherByte.TheVariants as other
use Rattle.sym_machine.specs.internal.OtherBytes.{other_byte}
use Rattle.sym_machine.specs.internal.Memory.{other_bytes}
use Rattle.sym_machine.proofs.SymbolMemory.{put_symbol_nothing, put_symbol_next}
use Rattle.sym_machine.proofs.memory.SymMemory.put_symbol.Goals as goal

pub loop-left-init : goal.loop-left-init
loop-left-init c = record {
  within = omega arith;
  room = c.requires.room;
  written = λ q. put_symbol_nothing (other_byte c.args.self.now.others) (plus c.args.address c.args.count)
      (c.args.count - c.args.count) q c.args.bytes.symbol c.args.bytes.width (c.args.bytes.first + c.args.count) (omega arith);
  space_kept = refl;
}

pub put-requires : goal.put-requires
put-requires c = c.loop-left.invariant.room (c.loop-left.left - 1) (omega (arith, c.loop-left.invariant.within))

pub loop-left-preserved : goal.loop-left-preserved
loop-left-preserved c = record {
  within = omega (arith, c.loop-left.invariant.within);
  room = λ k inside. c.put.ensures.groups _ ∙ c.loop-left.invariant.room k inside;
  written = λ q.
      let old = other_byte c.args.self.now.others in
      let b = c.args.bytes in
      let i = c.loop-left.left - 1 in
      let inside : i < c.args.count = omega (arith, c.loop-left.invariant.within) in
      let next : i + 1 ≡ c.loop-left.left = omega arith in
      c.put.ensures.written q
      ∙ ap (λ x. if q == plus c.args.address i then Some (other.Symbol b.symbol b.width (b.first + i)) else x)
      (c.loop-left.invariant.written q)
      ∙ sym (rw next at (put_symbol_next old c.args.address i c.args.count q b.symbol b.width b.first inside));
  space_kept = c.loop-left.invariant.space_kept;
}

pub returns-clause-written : goal.returns-clause-written
returns-clause-written c = λ q.
    let old = other_byte c.args.self.now.others in
    let b = c.args.bytes in
    let none : c.loop-left.left ≡ 0 = omega (arith, c.loop-left-test.false) in
    let start : plus c.args.address 0 ≡ c.args.address = omega arith in
    let whole : c.args.count - 0 ≡ c.args.count = omega arith in
    let from : b.first + 0 ≡ b.first = omega arith in
    c.loop-left.invariant.written q
    ∙ ap (λ k. put old (plus c.args.address k) (other_bytes b.symbol b.width (b.first + k) (c.args.count - k)) q) none
    ∙ ap (λ a. put old a (other_bytes b.symbol b.width (b.first + 0) (c.args.count - 0)) q) start
    ∙ ap (λ n. put old c.args.address (other_bytes b.symbol b.width (b.first + 0) n) q) whole
    ∙ ap (λ i. put old c.args.address (other_bytes b.symbol b.width i c.args.count) q) from

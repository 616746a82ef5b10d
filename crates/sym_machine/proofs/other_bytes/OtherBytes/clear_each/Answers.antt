use Rattle.std.proofs.Common.{◌≡◌, ◌∙◌, ap, arith, None}
use Rattle.std.specs.Prelude.{◌==◌, if◌then◌else◌}
use Rattle.sym_machine.specs.internal.OtherBytes.{other_byte, cleared_between}
use Rattle.sym_machine.proofs.Groups.{cleared_none, cleared_one}
use Rattle.sym_machine.proofs.other_bytes.OtherBytes.clear_each.Goals as goal

pub loop-at-init : goal.loop-at-init
loop-at-init c = record {
  from = omega arith;
  within = omega (arith, c.requires);
  done = λ q. cleared_none (other_byte c.args.self.now q) c.args.from c.args.from q (omega arith);
}

pub loop-at-preserved : goal.loop-at-preserved
loop-at-preserved c = record {
  from = omega (arith, c.loop-at.invariant.from);
  within = omega arith;
  done = λ q.
      c.clear.ensures q
      ∙ ap (λ x. if q == c.loop-at.at then None else x) (c.loop-at.invariant.done q)
      ∙ cleared_one (other_byte c.args.self.now q) c.args.from c.loop-at.at q c.loop-at.invariant.from;
}

pub returns : goal.returns
returns c = λ q.
    let same : c.loop-at.at ≡ c.args.to = omega (arith, c.loop-at.invariant.within) in
    c.loop-at.invariant.done q ∙ ap (λ at. cleared_between c.args.self.now c.args.from at q) same

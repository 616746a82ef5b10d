use Rattle.std.proofs.Common.{◌≡◌, ◌∙◌, ◌+◌, ◌<◌, ◌≤◌, sym, ap, arith, None, ⊎_elim}
use Rattle.std.specs.Prelude.{◌&&◌, nat_le, nat_lt, if◌then◌else◌}
use Rattle.std.proofs.lemmas.Bool.{cases_lt}
use Rattle.sym_machine.specs.internal.OtherBytes.{other_byte, cleared_between}
use Rattle.sym_machine.proofs.Groups.{cleared_none, cleared_join}
use Rattle.sym_machine.proofs.other_bytes.OtherBytes.clear_run.Goals as goal

pub loop-at-init : goal.loop-at-init
loop-at-init c = record {
  from = omega arith;
  within = omega arith;
  done = λ q. cleared_none (other_byte c.args.self.now q) c.args.from c.args.from q (omega arith);
}

pub clear_in_group-requires-clause-within : goal.clear_in_group-requires-clause-within
clear_in_group-requires-clause-within c = λ q from to. omega (arith, c.min-count.ensures)

pub loop-at-preserved : goal.loop-at-preserved
loop-at-preserved c =
    let end = c.loop-at.at + c.min-count.result in
    record {
      from = omega (arith, c.loop-at.invariant.from);
      within = omega (arith, c.min-count.ensures);
      done = λ q.
          c.clear_in_group.ensures q
          ∙ ap (λ x. if nat_le c.loop-at.at q && nat_lt q end then None else x) (c.loop-at.invariant.done q)
          ∙ cleared_join (other_byte c.args.self.now q) c.args.from c.loop-at.at end q c.loop-at.invariant.from (omega arith);
    }

pub returns : goal.returns
returns c = λ q.
    ⊎_elim
    (λ (back : c.args.to < c.args.from).
    let same : c.loop-at.at ≡ c.args.from = omega (arith, c.loop-at.invariant.within, c.loop-at.invariant.from) in
    c.loop-at.invariant.done q ∙ ap (λ at. cleared_between c.args.self.now c.args.from at q) same
    ∙ sym (cleared_none (other_byte c.args.self.now q) c.args.from c.args.from q (omega arith))
    ∙ cleared_none (other_byte c.args.self.now q) c.args.from c.args.to q (omega arith))
    (λ (forth : c.args.from ≤ c.args.to).
    let same : c.loop-at.at ≡ c.args.to = omega (arith, c.loop-at.invariant.within) in
    c.loop-at.invariant.done q ∙ ap (λ at. cleared_between c.args.self.now c.args.from at q) same)
    (cases_lt c.args.to c.args.from)

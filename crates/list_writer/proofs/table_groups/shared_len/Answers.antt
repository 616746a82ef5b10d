use Rattle.std.proofs.Common.{◌≡◌, ℕ, arith, drop, length, subst, take}
use Rattle.list_writer.specs.TableGroups.{AreClaimed, IsGroup}
use Rattle.list_writer.proofs.GroupSteps.{none_shared, one_shared}
use Rattle.list_writer.proofs.table_groups.shared_len.Goals as goal

pub loop-number-init : goal.loop-number-init
loop-number-init c = none_shared c.args.units.now c.args.entries.now c.new-used.result c.new-used.ensures.empty

pub loop-number-preserved : goal.loop-number-preserved
loop-number-preserved c =
    one_shared c.args.units.now c.args.entries.now c.loop-number.number c.loop-number.taken c.unit_len.result c.loop-number.used
    c.claim.new.used _ c.split_at.result.1.now c.split_at-in-loop-number.result.0.now c.loop-number.invariant c.loop-number-test.true
    c.split_at.ensures.back c.split_at-in-loop-number.ensures.front c.unit_len.ensures.within c.unit_len.ensures.same
    c.unit_len.ensures.next
    (subst (AreClaimed _ c.split_at-in-loop-number.result.0.now c.loop-number.used c.claim.new.used) c.if-not-branch.false
    c.in_ok-claim.ensures)

pub returns : goal.returns
returns c =
    let inv = c.loop-number.invariant in
    let end : c.loop-number.number ≡ length c.args.units.now = omega (arith, c.loop-number-test.false, c.loop-number.auto.number-end) in
    record {
      within = (omega arith, inv.within);
      some = λ h. h;
      group = λ kind lo bound left.
          subst (λ (n : ℕ). IsGroup (take c.loop-number.taken c.args.entries.now) (drop c.loop-number.taken c.args.entries.now)
          (take n c.args.units.now) (drop n c.args.units.now)) end (inv.group kind lo bound left);
    }

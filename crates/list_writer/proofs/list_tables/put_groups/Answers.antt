use Rattle.std.proofs.Common.{◌≡◌, arith, length, refl, rules}
use Rattle.list_writer.proofs.UnitSteps.{all_written, at_start, next_group}
use Rattle.list_writer.proofs.list_tables.put_groups.Goals as goal

pub loop-number-init : goal.loop-number-init
loop-number-init c = (
  at_start c.args.kind c.args.lists.now c.args.named.now c.args.units.now c.args.out.now.items c.args.names.now.items c.requires.left
      c.requires.start,
  λ none. refl,
)

pub loop-number-preserved : goal.loop-number-preserved
loop-number-preserved c =
    let n = c.in_ok-unit_count in (
      next_group c.args.kind c.args.lists.now c.args.named.now c.args.units.now c.loop-number.rest.now c.loop-number.left.now
          c.loop-number.number c.loop-number.out.items c.put_group.new.out.items c.loop-number.names.items c.put_group.new.names.items
          c.split_at-in-loop-number.result.0.now c.split_at-in-loop-number.result.1.now c.split_at.result.0.now c.split_at.result.1.now
          n.unit_count n.entry_count c.loop-number.invariant.0 c.split_at-in-loop-number.ensures.front
          c.split_at-in-loop-number.ensures.back c.split_at.ensures.front c.split_at.ensures.back (n.ensures.some (search rules))
          (search rules) n.ensures.group c.in_ok-put_group.ensures,
      λ none. absurd (omega (arith, none, c.loop-number-test.true)),
    )

pub returns : goal.returns
returns c = record {
  written = all_written c.args.kind c.args.lists.now c.args.named.now c.args.units.now c.loop-number.rest.now c.loop-number.left.now
      c.loop-number.number c.loop-number.out.items c.loop-number.names.items c.loop-number.invariant.0
      (let fits = c.loop-number.invariant.0.fits in omega (arith, fits, c.loop-number-test.false));
  none = c.loop-number.invariant.1;
}

pub returns-then-is_empty-clause-written : goal.returns-then-is_empty-clause-written
returns-then-is_empty-clause-written c =
    let none : length c.loop-number.left.now ≡ 0 = search rules in
    all_written c.args.kind c.args.lists.now c.args.named.now c.args.units.now c.loop-number.rest.now c.loop-number.left.now
    c.loop-number.number c.loop-number.out.items c.loop-number.names.items c.loop-number.invariant.0 none

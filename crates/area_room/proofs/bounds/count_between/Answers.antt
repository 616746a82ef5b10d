use Rattle.std.proofs.Common.{sym, arith}
use Rattle.area_room.specs.EntryNeeds.{is_strictly_between}
use Rattle.rb_bytes.proofs.RangeCounts.{count-inside, count-none, none_inside}
use Rattle.area_room.proofs.bounds.count_between.Goals as goal

pub returns-then-high-low : goal.returns-then-high-low
returns-then-high-low c =
    sym (count-none (is_strictly_between c.args.low c.args.high) c.args.numbers.now
    (λ n. none_inside c.args.low c.args.high n c.if-high-low.true))

pub returns : goal.returns
returns c =
    let all = count-inside c.args.low c.args.high c.if-high-low.false c.args.numbers.now in
    omega (arith, all, c.count_below.ensures, c.count_up_to.ensures, c.saturating_sub.ensures)

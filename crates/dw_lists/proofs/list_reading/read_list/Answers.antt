use Rattle.std.proofs.Common.{arith, length, map, ◌≡◌, ◌-◌, ◌+◌, suc}
use Rattle.dw_lists.specs.declared.list_reading.Flow.TheVariants as flow
use Rattle.cover_lists.specs.ListPlaces.{located_of}
use Rattle.dw_lists.proofs.ListSteps.{goes_as, never_ends}
use Rattle.dw_lists.proofs.list_reading.read_list.Goals as goal

pub returns-in-End : goal.returns-in-End
returns-in-End c =
    let less : length c.args.bytes.now - c.loop-i.i
    ≡ suc (length c.args.bytes.now - (c.loop-i.i + 1)) = omega (arith, c.loop-i-test.true) in
    goes_as c.args.list _ c.loop-i.base _ c.loop-i.cursor.left _ (map located_of c.loop-i.places.items) _ _ _ _ c.loop-i.invariant less
    _ flow.End c.in_ok-take_step.ensures c.in-End.is

pub returns-in-Bad : goal.returns-in-Bad
returns-in-Bad c =
    let less : length c.args.bytes.now - c.loop-i.i
    ≡ suc (length c.args.bytes.now - (c.loop-i.i + 1)) = omega (arith, c.loop-i-test.true) in
    goes_as c.args.list _ c.loop-i.base _ c.loop-i.cursor.left _ (map located_of c.loop-i.places.items) _ _ _ _ c.loop-i.invariant less
    _ flow.Bad c.in_ok-take_step.ensures c.in-Bad.is

pub loop-i-preserved : goal.loop-i-preserved
loop-i-preserved c =
    let less : length c.args.bytes.now - c.loop-i.i
    ≡ suc (length c.args.bytes.now - (c.loop-i.i + 1)) = omega (arith, c.loop-i-test.true) in
    goes_as c.args.list _ c.loop-i.base _ c.loop-i.cursor.left _ (map located_of c.loop-i.places.items) _ _ _ _ c.loop-i.invariant less
    _ flow.More c.in_ok-take_step.ensures c.in-More.is

pub returns : goal.returns
returns c =
    never_ends c.args.list _ c.loop-i.base c.loop-i.cursor.left (map located_of c.loop-i.places.items) (length c.args.bytes.now -
    c.loop-i.i) _
    c.loop-i.invariant (omega (arith, c.loop-i-test.false))

use Rattle.std.proofs.Common.{sym}
use Rattle.std.proofs.lemmas.Bool.{both_ways}
use Rattle.map_check.proofs.KeptPlaces.{not_loaded, not_there, other_flags, equal_bytes, other_bytes}
use Rattle.map_check.proofs.bytes.is_kept.Goals as goal

pub returns-then-not-same_flags : goal.returns-then-not-same_flags
returns-then-not-same_flags c = λ r of ch.
    other_flags r c.args.input.now c.args.output.now of c.args.a c.in-Some.from.now (sym c.in-Some.ensures.first)
    c.in-Some-segment_at.to.now (sym c.in-Some-segment_at.ensures.first)
    (λ same. both_ways c.same_flags.result c.if-not-same_flags.true (c.same_flags.ensures.1 same))

pub returns-then-before-after : goal.returns-then-before-after
returns-then-before-after c = λ r of ch.
    equal_bytes r c.args.input.now c.args.output.now of c.args.a c.in-Some.from.now (sym c.in-Some.ensures.first)
    c.in-Some-segment_at.to.now (sym c.in-Some-segment_at.ensures.first) c.byte_or_zero-before.result c.byte_or_zero-after.result
    (c.same_flags.ensures.0 c.if-not-same_flags.false) c.byte_or_zero-before.ensures c.byte_or_zero-after.ensures c.if-before-after.true

pub returns : goal.returns
returns c = λ r of ch.
    other_bytes r c.args.input.now c.args.output.now of c.args.a c.in-Some.from.now (sym c.in-Some.ensures.first)
    c.in-Some-segment_at.to.now (sym c.in-Some-segment_at.ensures.first) c.byte_or_zero-before.result c.byte_or_zero-after.result
    c.may_change.result (c.same_flags.ensures.0 c.if-not-same_flags.false) c.byte_or_zero-before.ensures
    c.byte_or_zero-after.ensures c.if-before-after.false (c.may_change.ensures r of.input_is ch)

pub returns-in_default-segment_at : goal.returns-in_default-segment_at
returns-in_default-segment_at c = λ r of ch.
    not_there r c.args.input.now c.args.output.now of c.args.a c.in-Some.from.now (sym c.in-Some.ensures.first)
    (sym c.in_default-segment_at.ensures.first)

pub returns-in_default : goal.returns-in_default
returns-in_default c = λ r of ch. not_loaded r c.args.input.now c.args.output.now of c.args.a (sym c.in_default.ensures.first)

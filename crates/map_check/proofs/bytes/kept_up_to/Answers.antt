use Rattle.std.proofs.Common.{sym, arith, max, ◌+◌, ◌<◌}
use Rattle.elf_image.specs.memory.Image.{end_of}
use Rattle.map_check.specs.FirstFalse.{IsKept}
use Rattle.map_check.proofs.KeptPlaces.{bytes_kept, one_more, zeros_kept}
use Rattle.map_check.proofs.bytes.kept_up_to.Goals as goal

pub returns-then-are_zeros-clause-kept : goal.returns-then-are_zeros-clause-kept
returns-then-are_zeros-clause-kept c = λ r of kept q above below.
    let parts = c.are_zeros.ensures.0 c.if-are_zeros.true in
    let one = c.first_end-end.ensures.one in
    let two = c.first_end-end.ensures.two in
    let in_from : q < end_of c.in-Some.from.now = omega (arith, below, one) in
    let in_to : q < end_of c.in-Some-segment_at.to.now = omega (arith, below, two) in
    zeros_kept r c.args.input.now c.args.output.now of c.args.a c.in-Some.from.now c.in-Some-segment_at.to.now
    (sym c.in-Some.ensures.first) (sym c.in-Some-segment_at.ensures.first) c.in-Some.ensures.loads c.in-Some-segment_at.ensures.loads
    parts.0 parts.1 kept q above in_from in_to

pub returns-clause-kept : goal.returns-clause-kept
returns-clause-kept c = λ r of kept q above below.
    let one = c.first_end-end.ensures.one in
    let two = c.first_end-end.ensures.two in
    let in_from : q < end_of c.in-Some.from.now = omega (arith, below, one) in
    let in_to : q < end_of c.in-Some-segment_at.to.now = omega (arith, below, two) in
    let near : q < c.args.a + max c.common_length-same.result 1 = omega (arith, below, c.min.ensures, c.max.ensures) in
    bytes_kept r c.args.input.now c.args.output.now of c.args.a c.common_length-same.result c.in-Some.from.now
    c.in-Some-segment_at.to.now c.bytes_from.result.now c.bytes_from-2.result.now (sym c.in-Some.ensures.first)
    (sym c.in-Some-segment_at.ensures.first) c.in-Some.ensures.loads c.in-Some-segment_at.ensures.loads c.bytes_from.ensures
    c.bytes_from-2.ensures c.common_length-same.ensures.within c.common_length-same.ensures.bound
    c.common_length-same.ensures.same kept q above near in_from in_to

pub returns-in_default-segment_at-clause-kept : goal.returns-in_default-segment_at-clause-kept
returns-in_default-segment_at-clause-kept c = λ r of kept q above below. one_more (IsKept r) c.args.a q kept above below

pub returns-in_default-clause-kept : goal.returns-in_default-clause-kept
returns-in_default-clause-kept c = λ r of kept q above below. one_more (IsKept r) c.args.a q kept above below

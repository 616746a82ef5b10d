use Rattle.std.proofs.Common.{refl, arith, ◌≤◌, length}
use Rattle.elf_image.specs.memory.Executables.{AreCodeBytes, executable_read}
use Rattle.map_check.specs.internal.SpanLists.{no_span}
use Rattle.map_check.proofs.LowestItems.{judged_none, judged_more, judged_all}
use Rattle.map_check.proofs.code_spans.lowest_outside.Goals as goal

pub loop-span-init : goal.loop-span-init
loop-span-init c = judged_none (λ s. AreCodeBytes (executable_read c.args.output.now) s.out s.len) (λ s. s.input) c.args.spans.now

pub loop-span-preserved : goal.loop-span-preserved
loop-span-preserved c =
    judged_more (λ s. AreCodeBytes (executable_read c.args.output.now) s.out s.len) (λ s. s.input) c.args.spans.now
    c.loop-span.span-index no_span c.loop-span-test.true c.are_code_bytes-inside.result
    c.are_code_bytes-inside.ensures c.loop-span.lowest c.lower-lowest.result c.place_if.result _ c.lower-lowest.ensures
    c.place_if.ensures refl c.loop-span.invariant

pub returns-clause-all : goal.returns-clause-all
returns-clause-all c =
    let all : length c.args.spans.now ≤ c.loop-span.span-index = omega arith in
    (judged_all (λ s. AreCodeBytes (executable_read c.args.output.now) s.out s.len) (λ s. s.input) c.args.spans.now
    c.loop-span.span-index c.loop-span.lowest all c.loop-span.invariant).0

pub returns-clause-lowest : goal.returns-clause-lowest
returns-clause-lowest c =
    let all : length c.args.spans.now ≤ c.loop-span.span-index = omega arith in
    (judged_all (λ s. AreCodeBytes (executable_read c.args.output.now) s.out s.len) (λ s. s.input) c.args.spans.now
    c.loop-span.span-index c.loop-span.lowest all c.loop-span.invariant).1

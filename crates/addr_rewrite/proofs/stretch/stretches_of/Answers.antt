use Rattle.std.proofs.Common.{◌<◌, ◌^◌, [], ℕ, arith}
use Rattle.std.proofs.lemmas.List.Elements.{All-get_or}
use Rattle.answer_runs.specs.declared.run.Run.{Run}
use Rattle.addr_rewrite.specs.WrittenAranges.{stretch_of}
use Rattle.addr_rewrite.proofs.ListLoops.{mapped_more, mapped_all}
use Rattle.addr_rewrite.proofs.stretch.stretches_of.Goals as goal

pub overflow_cast-run : goal.overflow_cast-run
overflow_cast-run c =
    let small = All-get_or (λ (r : Run ℕ). r.answer < 2 ^ 32) c.args.runs.now c.loop-run.run-index
    (record { start = 0; len = 0; answer = 0 })
    c.loop-run-test.true c.requires in
    omega (arith, small)

pub loop-run-preserved : goal.loop-run-preserved
loop-run-preserved c =
    mapped_more stretch_of c.args.runs.now c.loop-run.run-index [] c.loop-run.stretches.items c.push.new.self.items
    _ c.loop-run-test.true c.loop-run.invariant c.in_ok-push.ensures.items

pub returns : goal.returns
returns c =
    mapped_all stretch_of c.args.runs.now c.loop-run.run-index [] c.loop-run.stretches.items c.loop-run.stretches.items
    c.loop-run-test.false c.loop-run.invariant

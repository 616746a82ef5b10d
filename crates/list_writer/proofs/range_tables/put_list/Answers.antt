use Rattle.list_writer.specs.WrittenRanges.{run_bytes}
use Rattle.list_writer.proofs.SpelledLists.{spelled_more}
use Rattle.list_writer.proofs.SpelledRanges.{list_done}
use Rattle.list_writer.proofs.range_tables.put_list.Goals as goal

pub loop-run-preserved : goal.loop-run-preserved
loop-run-preserved c =
    spelled_more run_bytes c.args.runs.now c.loop-run.run-index _ c.args.out.now.items c.loop-run.out.items c.put_run.new.out.items
    c.loop-run-test.true
    c.loop-run.invariant c.in_ok-put_run.ensures

pub returns : goal.returns
returns c =
    list_done c.args.runs.now c.loop-run.run-index c.args.out.now.items c.loop-run.out.items c.put_end.new.out.items c.loop-run-test.false
    c.loop-run.invariant
    c.in_ok-put_end.ensures

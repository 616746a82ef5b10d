use Rattle.flow_text.specs.Report.{function_lines}
use Rattle.flow_text.proofs.BlockRanges.{lines_up}
use Rattle.flow_text.proofs.reporting.report.Goals as goal

pub loop-func-preserved : goal.loop-func-preserved
loop-func-preserved c =
    lines_up (function_lines c.args.funcs.now c.args.blocks.now c.args.flow.now) c.loop-func.func c.loop-func.text.items
    c.put_function.new.text.items c.loop-func.invariant c.in_ok-put_function.ensures

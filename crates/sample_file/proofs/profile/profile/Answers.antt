use Rattle.sample_file.proofs.Ranges.{lines_more}
use Rattle.sample_file.proofs.profile.profile.Goals as goal

pub loop-k-preserved : goal.loop-k-preserved
loop-k-preserved c = lines_more c.args.n c.loop-k.k c.loop-k.text.items c.put_own_lines.new.text.items
    c.put_call_line.new.text.items c.loop-k.invariant c.in_ok-put_own_lines.ensures c.in_ok-put_call_line.ensures

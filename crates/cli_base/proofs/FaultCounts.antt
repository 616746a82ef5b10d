-- Counts of faults over two calls.
use Rattle.std.proofs.Common.{◌∙◌, ◌<◌, ◌≤◌, ℕ, List, arith}
use Rattle.rb_io.specs.FaultCounts.{Rose}
use Rattle.rb_io.specs.Names.{NeverFalls}
use Rattle.rb_io.specs.Views.{FilesSeen, FilesGoOn}

-- a count that rose in the second call, and didn't fall in the first
pub rose_after : (before between after : ℕ) → before ≤ between → Rose between after → Rose before after
rose_after before between after le rose = λ below. let later : between < after = rose below in omega arith

-- a count that rose in the first call, and didn't fall in the second
pub rose_before : (before between after : ℕ) → between ≤ after → Rose before between → Rose before after
rose_before before between after le rose = λ below. let earlier : before < between = rose (omega arith) in omega arith

-- counts that fall in neither of two calls
never_falls_after : (a b c : List ℕ → ℕ) → NeverFalls a b → NeverFalls b c → NeverFalls a c
never_falls_after a b c f g = record {
  each = λ name. let one : a name ≤ b name = f.each name in let two : b name ≤ c name = g.each name in omega arith;
}

pub go_on_after : (a b c : FilesSeen) → FilesGoOn a b → FilesGoOn b c → FilesGoOn a c
go_on_after a b c first next = record {
  told_kept = next.told_kept ∙ first.told_kept;
  reads = never_falls_after a.read_faults b.read_faults c.read_faults first.reads next.reads;
  writes = never_falls_after a.write_faults b.write_faults c.write_faults first.writes next.writes;
}

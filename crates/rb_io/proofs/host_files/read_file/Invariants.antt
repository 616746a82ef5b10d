use Rattle.std.proofs.Common.{◌≤◌, length}
use Rattle.rb_io.proofs.host_files.read_file.Given as goal

abbrev pub invariant-loop : goal.invariant-loop
invariant-loop g l = length l.into.items ≤ l.limit

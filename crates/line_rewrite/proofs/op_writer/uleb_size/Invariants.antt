use Rattle.std.proofs.Common.{◌≡◌, ◌+◌, length}
use Rattle.rb_bytes.specs.Leb.{uleb}
use Rattle.line_rewrite.proofs.op_writer.uleb_size.Given as goal

abbrev pub invariant-bytes : goal.invariant-bytes
invariant-bytes l = l.size + length (uleb l.rest) ≡ 1 + length (uleb l.fn.n)

abbrev pub decreases-bytes : goal.decreases-bytes
decreases-bytes l = l.rest

-- The encoding of `rest` is still to be written, and there is room for it.
use Rattle.std.proofs.Common.{◌≡◌, ◌≤◌, ◌+◌, ◌++◌, length, vec_len, vec_capacity}
use Rattle.rb_bytes.specs.Leb.{uleb}
use Rattle.rb_bytes.proofs.leb.put_uleb.Given as goal

abbrev pub invariant-bytes : goal.invariant-bytes
invariant-bytes l = record {
  text : l.out.items ++ uleb l.rest ≡ l.fn.out.items ++ uleb l.v;
  room : vec_len l.out + length (uleb l.rest) ≤ vec_capacity l.out;
}

abbrev pub decreases-bytes : goal.decreases-bytes
decreases-bytes l = l.rest

-- The encoding of `rest` is still to be written, and there is room for it.
use Rattle.std.proofs.Common.{◌≡◌, ◌≤◌, ◌+◌, ◌++◌, length, vec_len, vec_capacity}
use lib.Signed.{mag}
use Rattle.rb_bytes.specs.Leb.{sleb}
use Rattle.rb_bytes.proofs.leb.put_sleb.Given as goal

abbrev pub invariant-bytes : goal.invariant-bytes
invariant-bytes l = record {
  text : l.out.items ++ sleb l.rest ≡ l.fn.out.items ++ sleb l.v;
  room : vec_len l.out + length (sleb l.rest) ≤ vec_capacity l.out;
}

abbrev pub decreases-bytes : goal.decreases-bytes
decreases-bytes l = mag l.rest

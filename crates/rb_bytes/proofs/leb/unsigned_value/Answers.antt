use Rattle.std.proofs.Common.{◌≡◌, arith}
use Rattle.rb_bytes.specs.Leb.{uleb_value}
use Rattle.rb_bytes.proofs.UnsignedLeb.{uleb_value-drop-mul-le}
use Rattle.rb_bytes.proofs.leb.unsigned_value.Goals as goal

pub returns-in_err-value : goal.returns-in_err-value
returns-in_err-value c = rw c.from_residual.ensures (λ fits. c.in_err-value.ensures
    (omega (arith, uleb_value-drop-mul-le c.bytes.index c.args.bytes.now c.bytes-test.true)))

pub returns : goal.returns
returns c =
    let start : c.bytes.index ≡ 0 = omega arith in
    let value : c.bytes.value ≡ uleb_value c.args.bytes.now = rw start at c.bytes.invariant.value in (omega arith, value)

use Rattle.std.proofs.Common.{◌<◌, length, arith}
use Rattle.std.proofs.lemmas.Grind.{common_steps}
use Rattle.rb_bytes.proofs.SignedLeb.{sleb_value-too_large}
use Rattle.rb_bytes.proofs.leb.signed_value.Goals as goal

pub returns-in_err-value : goal.returns-in_err-value
returns-in_err-value c =
    let inside : c.bytes.index < length c.args.bytes.now = omega arith in
    rw c.from_residual.ensures (sleb_value-too_large c.bytes.index c.args.bytes.now c.bytes-test.true inside
    (rw (← c.bytes.invariant) (λ fits. c.in_err-value.ensures fits)))

pub bytes-init : goal.bytes-init
bytes-init c = grind (arith, common_steps)

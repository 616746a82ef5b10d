use Rattle.std.proofs.Common.{arith}
use Rattle.rb_bytes.proofs.DigitValues.{appended_none, appended_some, small_value}
use Rattle.cli_args.proofs.words.value.Goals as goal

pub returns-in_err-value : goal.returns-in_err-value
returns-in_err-value c =
    rw c.from_residual.ensures
    (appended_none 16 c.loop-c.value c.digit_value.result c.args.digits.now c.loop-c.c-index (omega arith) c.loop-c-test.true
    c.loop-c.invariant.0 c.digit_value.ensures c.in_err-value.ensures)

pub loop-c-preserved : goal.loop-c-preserved
loop-c-preserved c =
    appended_some 16 c.loop-c.value c.digit_value.result c.in_ok-value.value c.args.digits.now c.loop-c.c-index c.loop-c-test.true
    c.loop-c.invariant.0 c.digit_value.ensures c.in_ok-value.ensures

pub returns : goal.returns
returns c =
    small_value 16 c.loop-c.value c.args.digits.now c.loop-c.c-index c.loop-c-test.false c.loop-c.invariant.0 c.loop-c.invariant.1

use Rattle.std.proofs.Common.{◌∙◌, sym}
use Rattle.rb_bytes.proofs.DigitValues.{hex_from_decimal}
use Rattle.rb_bytes.proofs.number.decimal_number.Goals as goal

pub value-requires-clause-digits : goal.value-requires-clause-digits
value-requires-clause-digits c =
    hex_from_decimal c.args.digits.now (sym c.are_decimal.ensures ∙ c.if-not-are_decimal.false)

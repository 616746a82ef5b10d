use Rattle.std.proofs.Common.{◌≡◌, ◌≤◌, ◌<◌, ◌+◌, ◌-◌, ◌++◌, ◌∙◌, ◌^◌, length, drop, slice_set, arith, ap, length-set}
use Rattle.std.proofs.Common.{length-drop, length-append}
use Rattle.rb_bytes.specs.Text.{hexadecimal}
use Rattle.rb_bytes.proofs.HexDigits.{hexadecimal_before, hex_onto-written, hex_onto-written_last, quotient-lt, some_left}
use Rattle.rb_bytes.proofs.text.write_hex.Goals as goal

pub digits-init : goal.digits-init
digits-init c =
    let room : c.args.end + 16 - c.args.end ≡ 16 = omega arith in
    let digits : c.args.end + 64 - c.args.end ≡ 64 = omega arith in
    let below : c.args.v < 16 ^ 16 = omega (arith, c.ranges.v) in
    record {
      some_left = omega arith;
      within = omega arith;
      room = rw room below;
      text = rw digits (hexadecimal_before c.args.v (drop c.args.end c.args.buf.now));
    }

pub digits-preserved : goal.digits-preserved
digits-preserved c =
    let i = c.digits.invariant in
    let start = c.digits.start in
    let end = c.args.end in
    let inside : start ≤ length c.digits.buf = omega (arith, c.digits.auto.buf, c.requires.inside, i.within) in
    let less : start - 1 + 16 - end ≡ start + 16 - end - 1 = omega (arith, c.requires.room, i.some_left) in
    let fewer : start - 1 + 64 - end ≡ start + 64 - end - 1 = omega (arith, c.requires.room, i.some_left) in
    let room = quotient-lt c.digits.rest (start + 16 - end) (omega arith) i.room in
    let left = some_left _ _ room c.if-rest-eq0.false in
    record {
      some_left = omega (arith, left);
      within = omega arith;
      room = rw less room;
      text = rw fewer (hex_onto-written (start + 64 - end) start c.digits.rest _ c.digits.buf (omega arith)
          (omega (arith, c.requires.room)) inside
          c.if-rest-eq0.false c.hex_digit.ensures) ∙ i.text;
    }

pub returns : goal.returns
returns c =
    let i = c.digits.invariant in
    let start = c.digits.start in
    let end = c.args.end in
    let buf = slice_set c.digits.buf (start - 1) c.hex_digit.result in
    let inside : start ≤ length c.digits.buf = omega (arith, c.digits.auto.buf, c.requires.inside, i.within) in
    let written : drop (start - 1) buf ≡ hexadecimal c.args.v ++ drop end c.args.buf.now
    = hex_onto-written_last (start + 64 - end) start c.digits.rest _ c.digits.buf (omega arith)
    (omega (arith, c.requires.room)) inside
    c.if-rest-eq0.true c.hex_digit.ensures
    ∙ i.text in
    let long = simp (length-append, length-drop, length-set) at (ap length written) in
    record {
      start = omega (arith, long, c.digits.auto.buf, c.requires.inside, c.requires.room, i.within, i.some_left);
      short = omega (arith, c.requires.room, i.some_left);
      written = written;
    }

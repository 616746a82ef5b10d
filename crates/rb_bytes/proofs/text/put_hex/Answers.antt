use Rattle.std.proofs.Common.{◌-◌, ◌++◌, ◌∙◌, take, arith, ap}
use Rattle.std.proofs.lemmas.List.{take_all, append-nil}
use Rattle.rb_bytes.specs.Text.{hexadecimal}
use Rattle.rb_bytes.proofs.text.put_hex.Goals as goal

pub returns-clause-ok : goal.returns-clause-ok
returns-clause-ok c =
    let start = c.write_hex-start.result in
    let digits = hexadecimal c.args.v in
    c.in_ok-extend_from_slice.ensures.items
    ∙ ap (λ text. c.args.out.now.items ++ take (16 - start) text) (c.write_hex-start.ensures.written ∙ append-nil digits)
    ∙ ap (λ text. c.args.out.now.items ++ text) (take_all (16 - start) digits (omega (arith, c.write_hex-start.ensures.start)))

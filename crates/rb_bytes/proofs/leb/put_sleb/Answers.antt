use Rattle.std.proofs.Common.{◌≡◌, ◌+◌, ◌∷◌, ◌++◌, FitsSigned, rules, arith, sym, ◌∙◌, ap, length, to_z, suc, append_assoc}
use Rattle.std.proofs.lemmas.Int.{to_z-of_z}
use Rattle.std.specs.Int.{w64}
use Rattle.rb_bytes.specs.Leb.{sleb}
use Rattle.rb_bytes.proofs.SignedLeb.{sleb-next}
use Rattle.rb_bytes.proofs.leb.put_sleb.Goals as goal

pub bytes-preserved : goal.bytes-preserved
bytes-preserved c =
    let z = to_z w64 c.bytes.rest-bits in let higher = c.high_bits-rest.result in
    let rest_fits : FitsSigned w64 z = search rules in
    let fits : FitsSigned w64 higher = search rules in
    let next : (c.low_bits.result + 128) ∷ sleb higher ≡ sleb z =
    rw (c.low_bits.ensures, c.high_bits-rest.ensures)
    (sym (sleb-next z (sym c.fits_seven_bits.ensures ∙ c.bytes-test.true) rest_fits)) in
    let one_less : suc (length (sleb higher)) ≡ length (sleb z) = ap length next in
    let pushed = rw c.unwrap.ensures at c.push.ensures.items in
    let longer = rw c.unwrap.ensures at c.push.ensures.len in
    simp (to_z-of_z w64 higher fits) (record {
      text = rw (pushed, append_assoc) (ap (λ bytes. c.bytes.out.items ++ bytes) next ∙ c.bytes.invariant.text);
      room = omega arith;
    })

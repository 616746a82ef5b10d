use Rattle.std.proofs.Common.{◌≡◌, sym, ◌-◌, ◌%◌, ap, true, false, arith, ◌∙◌, IsTrue, subst, ℕ, ℤ, ◌<◌, ◌^◌, ◌↔◌, ◌+◌, List}
use Rattle.std.proofs.Common.{FitsSigned, rules}
use Rattle.std.proofs.lemmas.Bool.{lt-ltb}
use Rattle.std.proofs.lemmas.Int.{to_z-of_z}
use Rattle.std.specs.Int.{w128}
use Rattle.rb_bytes.specs.Leb.{low_bits, high_bits}
use Rattle.elf_code.specs.Fields.{HoldBits}
use Rattle.rv_reloc.specs.Tails.{AreLebBytes, magnitude}
use Rattle.rv_reloc.proofs.Lebs.{first-bits, last-bits, more-bits, unloaded-bytes, high-small}
use Rattle.rv_reloc.proofs.tails.+holds_within.Goals as goal

pub returns-then-byte-low_bits : goal.returns-then-byte-low_bits
returns-then-byte-low_bits t c = λ bytes are.
    let fits : FitsSigned w128 c.args.number = search rules in
    let low : c.low_bits.result ≡ low_bits c.args.number =
    c.low_bits.ensures ∙ ap low_bits (to_z-of_z w128 c.args.number fits) in (
      λ wrong. let e : false ≡ true = wrong in absurd (cc),
      λ hold. absurd
          (c.if-byte-low_bits.true
          (first-bits c.args.elf.now c.args.address c.in-Some.byte bytes c.args.number are
          (sym c.in-Some.ensures.value) hold ∙ sym low)),
    )

pub holds_within-requires : goal.holds_within-requires
holds_within-requires t c =
    let fits : FitsSigned w128 c.args.number = search rules in
    let high : c.high_bits.result ≡ high_bits c.args.number =
    c.high_bits.ensures ∙ ap high_bits (to_z-of_z w128 c.args.number fits) in
    let fits_high : FitsSigned w128 c.high_bits.result = search rules in
    let small = high-small c.args.number c.args.steps (c.args.steps - 1) (omega arith) c.requires.steps in (
      omega arith,
      (
        c.requires.low,
        (
          c.requires.known,
          subst (λ (z : ℤ). magnitude z < 128 ^ (c.args.steps - 1))
              (sym (to_z-of_z w128 c.high_bits.result fits_high ∙ high)) small,
        ),
      ),
    )

pub returns-then-byte-lt128 : goal.returns-then-byte-lt128
returns-then-byte-lt128 t c = λ bytes are.
    let fits : FitsSigned w128 c.args.number = search rules in
    let same : c.in-Some.byte % 128 ≡ low_bits c.args.number = c.if-byte-low_bits.false ∙ c.low_bits.ensures
    ∙ ap low_bits (to_z-of_z w128 c.args.number fits) in (
      λ _. last-bits c.args.elf.now c.args.address c.in-Some.byte bytes c.args.number are
          (sym c.in-Some.ensures.value) c.if-byte-lt128.true same,
      λ _. lt-ltb c.in-Some.byte 128 c.if-byte-lt128.true,
    )

pub returns-else-byte-lt128 : goal.returns-else-byte-lt128
returns-else-byte-lt128 t c = λ bytes are.
    let fits : FitsSigned w128 c.args.number = search rules in
    let same : c.in-Some.byte % 128 ≡ low_bits c.args.number = c.if-byte-low_bits.false ∙ c.low_bits.ensures
    ∙ ap low_bits (to_z-of_z w128 c.args.number fits) in
    let high : c.high_bits.result ≡ high_bits c.args.number =
    c.high_bits.ensures ∙ ap high_bits (to_z-of_z w128 c.args.number fits) in
    let fits_high : FitsSigned w128 c.high_bits.result = search rules in
    let rest = subst
    (λ (z : ℤ). (cs : List ℕ) → AreLebBytes c.args.elf.now (c.args.address + 1) cs → IsTrue c.holds_within.result ↔ HoldBits cs z)
    (to_z-of_z w128 c.high_bits.result fits_high ∙ high) c.holds_within.ensures in
    more-bits c.args.elf.now c.args.address c.in-Some.byte bytes c.args.number c.holds_within.result are
    (sym c.in-Some.ensures.value) c.if-byte-lt128.false same rest

pub returns-in-None : goal.returns-in-None
returns-in-None t c = λ bytes are. absurd (unloaded-bytes _ _ bytes are (sym c.in-None.ensures.value))

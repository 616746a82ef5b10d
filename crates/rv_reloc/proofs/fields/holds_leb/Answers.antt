use Rattle.std.proofs.Common.{◌≡◌, ◌∙◌, sym, ap, ◌+◌, ◌-◌, ◌-ℤ◌, ℤ, List, IsTrue, ◌↔◌, subst, rules, FitsSigned, to_z, of_z}
use Rattle.std.specs.Int.{w128}
use Rattle.std.proofs.lemmas.Int.{to_z-of_z}
use Rattle.elf_code.specs.Fields.{HoldBits}
use Rattle.rv_reloc.specs.Tails.{AreLebBytes}
use Rattle.rv_reloc.proofs.Lebs.{field-holds}
use Rattle.rv_reloc.proofs.fields.holds_leb.Goals as goal

pub returns-in-Some : goal.returns-in-Some
returns-in-Some c =
    let place = c.args.relocation.now.place in
    let section = c.args.relocation.now.section.now in
    let fits : FitsSigned w128 c.difference_of.result = search rules in
    let fits_to : FitsSigned w128 c.args.to = search rules in
    let fits_from : FitsSigned w128 c.args.from = search rules in
    let value : to_z w128 (of_z w128 c.difference_of.result) ≡ c.args.to -ℤ c.args.from =
    to_z-of_z w128 c.difference_of.result fits ∙ c.difference_of.ensures.value
    ∙ ap (λ (z : ℤ). z -ℤ to_z w128 (of_z w128 c.args.from)) (to_z-of_z w128 c.args.to fits_to)
    ∙ ap (λ (z : ℤ). c.args.to -ℤ z) (to_z-of_z w128 c.args.from fits_from) in
    let test = subst
    (λ (z : ℤ). (bs : List _) → AreLebBytes c.args.elf.now place bs →
    IsTrue c.holds_bits.result ↔ HoldBits bs z) value c.holds_bits.ensures in
    field-holds c.args.elf.now place (section.addr + section.size - place) c.in-Some.field-0
    (c.args.to -ℤ c.args.from) c.holds_bits.result (sym c.leb_size.ensures ∙ c.in-Some.is) test

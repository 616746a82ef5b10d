use Rattle.std.proofs.Common.{subst, ℤ, IsTrue, ◌↔◌, rules, FitsSigned, to_z, of_z}
use Rattle.std.specs.Int.{w128}
use Rattle.std.proofs.lemmas.Int.{to_z-of_z}
use Rattle.elf_code.specs.Fields.{HoldsDifference}
use Rattle.rv_reloc.specs.Labels.{width_of}
use Rattle.rv_reloc.specs.Records.{seen}
use Rattle.rv_reloc.proofs.DifferenceCases.{other-found, none-other}
use Rattle.rv_reloc.proofs.differences.is_other_number.Goals as goal

pub returns-in-Some : goal.returns-in-Some
returns-in-Some c =
    let elf = c.args.elf.now in
    let r = seen c.args.relocation.now in
    let d = c.in-Some.difference in
    let fits : FitsSigned w128 d.to = search rules in
    let fits' : FitsSigned w128 d.from = search rules in
    let test = subst
    (λ (z : ℤ). IsTrue c.holds_difference.result ↔ HoldsDifference elf r (width_of d.width) z (to_z w128 (of_z w128 d.from)))
    (to_z-of_z w128 d.to fits) c.holds_difference.ensures in
    let test' = subst (λ (z : ℤ). IsTrue c.holds_difference.result ↔ HoldsDifference elf r (width_of d.width) d.to z)
    (to_z-of_z w128 d.from fits') test in
    other-found elf r d c.holds_difference.result c.in-Some.ensures.is c.in-Some.ensures.only test'

pub returns-in-None : goal.returns-in-None
returns-in-None c = none-other c.args.elf.now (seen c.args.relocation.now) c.in-None.ensures.only

use Rattle.std.proofs.Common.{subst, ℤ, IsTrue, ◌↔◌, rules, FitsSigned, to_z, of_z}
use Rattle.std.specs.Int.{w128}
use Rattle.std.proofs.lemmas.Int.{to_z-of_z}
use Rattle.elf_code.specs.Cells.{HasCodeLabel, IsInOneWhole}
use Rattle.rv_reloc.proofs.FieldsFound.{crosses-found}
use Rattle.rv_reloc.proofs.differences.crosses.Goals as goal

pub returns : goal.returns
returns c = λ tabled are.
    let elf = c.args.elf.now in
    let d = c.args.difference.now in
    let fits : FitsSigned w128 d.to = search rules in
    let fits' : FitsSigned w128 d.from = search rules in
    let to = to_z-of_z w128 d.to fits in
    let from = to_z-of_z w128 d.from fits' in
    let code = subst (λ (z : ℤ). HasCodeLabel elf z (to_z w128 (of_z w128 d.from))) to
    (c.has_code_label.ensures.0 c.if-not-has_code_label.false) in
    let one = subst (λ (z : ℤ). IsTrue c.in_one_whole.result ↔ IsInOneWhole elf tabled z (to_z w128 (of_z w128 d.from))) to
    (c.in_one_whole.ensures elf tabled are) in
    crosses-found c.in_one_whole.result (HasCodeLabel elf d.to d.from) (IsInOneWhole elf tabled d.to d.from)
    (subst (HasCodeLabel elf d.to) from code)
    (subst (λ (z : ℤ). IsTrue c.in_one_whole.result ↔ IsInOneWhole elf tabled d.to z) from one)

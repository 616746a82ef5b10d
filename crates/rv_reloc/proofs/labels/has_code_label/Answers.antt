use Rattle.std.proofs.Common.{rules, subst, ℤ, IsTrue, ◌↔◌, FitsSigned}
use Rattle.std.specs.Int.{w128}
use Rattle.std.proofs.lemmas.Int.{to_z-of_z}
use Rattle.elf_code.specs.Cells.{IsCodeLabel}
use Rattle.rv_reloc.proofs.CodeLabels.{either-first, either-second}
use Rattle.rv_reloc.proofs.labels.has_code_label.Goals as goal

pub returns-then-is_code_label : goal.returns-then-is_code_label
returns-then-is_code_label c =
    let fits : FitsSigned w128 c.args.to = search rules in
    let to = subst (λ (z : ℤ). IsTrue c.is_code_label.result ↔ IsCodeLabel c.args.elf.now z)
    (to_z-of_z w128 c.args.to fits) c.is_code_label.ensures in
    either-first c.is_code_label.result _ (IsCodeLabel c.args.elf.now c.args.from) c.if-is_code_label.true to

pub returns-else-is_code_label : goal.returns-else-is_code_label
returns-else-is_code_label c =
    let fits : FitsSigned w128 c.args.to = search rules in
    let to = subst (λ (z : ℤ). IsTrue c.is_code_label.result ↔ IsCodeLabel c.args.elf.now z)
    (to_z-of_z w128 c.args.to fits) c.is_code_label.ensures in
    let fits' : FitsSigned w128 c.args.from = search rules in
    let from = subst (λ (z : ℤ). IsTrue c.is_code_label-else-is_code_label.result ↔ IsCodeLabel c.args.elf.now z)
    (to_z-of_z w128 c.args.from fits') c.is_code_label-else-is_code_label.ensures in
    either-second c.is_code_label.result c.is_code_label-else-is_code_label.result _ _ c.if-is_code_label.false to from

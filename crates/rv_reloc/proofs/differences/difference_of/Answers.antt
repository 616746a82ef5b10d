use Rattle.std.proofs.Common.{◌∙◌, sym, subst, rules, FitsSigned, refl, arith}
use Rattle.std.specs.Int.{w128}
use Rattle.std.proofs.lemmas.Int.{to_z-of_z, ints}
use Rattle.elf_code.specs.Cells.{of_place}
use Rattle.rv_reloc.specs.Labels.{IsLabelSize}
use Rattle.rv_reloc.specs.Records.{seen}
use Rattle.rv_reloc.proofs.DifferenceCases.{by-place, no-difference}
use Rattle.rv_reloc.proofs.differences.difference_of.Goals as goal

pub returns-then-is_pc_difference-clause-is : goal.returns-then-is_pc_difference-clause-is
returns-then-is_pc_difference-clause-is c =
    let elf = c.args.elf.now in
    let r = seen c.args.relocation.now in
    let fits : FitsSigned w128 c.label.result = search rules in
    let to = to_z-of_z w128 c.label.result fits in
    record {
      is = of_place c.requires.listed (sym c.is_pc_difference.ensures ∙ c.if-is_pc_difference.true) refl
          (to ∙ c.label.ensures.label)
          (omega (arith, ints));
      to_size = subst IsLabelSize (sym to) c.label.ensures.size;
      from_size = record { least = omega (arith, ints); below = omega (arith, ints) };
    }

pub returns-then-is_pc_difference-clause-only : goal.returns-then-is_pc_difference-clause-only
returns-then-is_pc_difference-clause-only c = λ w to from is.
    let elf = c.args.elf.now in
    let r = seen c.args.relocation.now in
    let made = by-place elf r w to from (sym c.is_pc_difference.ensures ∙ c.if-is_pc_difference.true) is in
    let fits : FitsSigned w128 c.label.result = search rules in
    record {
      width_is = sym made.width_is;
      to_is = to_z-of_z w128 c.label.result fits ∙ c.label.ensures.label ∙ sym made.to_is;
      from_is = (omega (arith, ints, made.from_is));
    }

pub returns-in_err-width-clause-only : goal.returns-in_err-width-clause-only
returns-in_err-width-clause-only c = rw c.from_residual.ensures (λ w to from is.
    no-difference c.args.elf.now (seen c.args.relocation.now) w to from
    (sym c.is_pc_difference.ensures ∙ c.if-is_pc_difference.false)
    (sym c.in_err-width.ensures) is)

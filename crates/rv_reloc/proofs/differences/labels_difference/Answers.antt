use Rattle.std.proofs.Common.{◌∙◌, sym, ap, subst, ℤ, rules, FitsSigned, to_z, of_z, IfSome, Option}
use Rattle.std.specs.Int.{w128}
use Rattle.std.proofs.lemmas.Int.{to_z-of_z}
use Rattle.elf_code.specs.Cells.{IsOnly, is_plus, is_minus, IsDifference}
use Rattle.elf_code.specs.Relocations.{relocations, label}
use Rattle.rv_reloc.specs.declared.records.Record.{Record}
use Rattle.rv_reloc.specs.Labels.{width_of, IsLabelSize}
use Rattle.rv_reloc.specs.Records.{seen}
use Rattle.rv_reloc.proofs.DifferenceCases.{difference-made, made-by_labels, none-found, one-found}
use Rattle.rv_reloc.proofs.differences.labels_difference.Goals as goal

pub returns-clause-is : goal.returns-clause-is
returns-clause-is c =
    let elf = c.args.elf.now in
    let r = seen c.args.relocation.now in
    let w = width_of c.args.width in
    let plus = subst (λ (o : Option Record). IfSome o (λ q. IsOnly (is_plus r.place w) (relocations elf) (seen q))) c.in_ok-only_plus.was
    (c.only_plus.ensures.is elf c.requires.records) in
    let minus = subst
    (λ (o : Option Record). IfSome o (λ q. IsOnly (is_minus r.place w) (relocations elf) (seen q))) c.in_ok-minus.was
    (c.only_minus.ensures.is elf c.requires.records) in
    let fits : FitsSigned w128 c.label.result = search rules in
    let fits' : FitsSigned w128 c.label-2.result = search rules in
    let to = to_z-of_z w128 c.label.result fits in
    let from = to_z-of_z w128 c.label-2.result fits' in
    let made = difference-made elf r _ (seen c.in_ok-minus.minus) w c.requires.listed c.requires.width plus minus in
    record {
      is = subst (λ (z : ℤ). IsDifference elf r w z (to_z w128 (of_z w128 c.label-2.result)))
          (sym (to ∙ c.label.ensures.label))
          (subst (λ (z : ℤ). IsDifference elf r w (label elf r) z) (sym (from ∙ c.label-2.ensures.label)) made);
      to_size = subst IsLabelSize (sym to) c.label.ensures.size;
      from_size = subst IsLabelSize (sym from) c.label-2.ensures.size;
    }

pub returns-clause-only : goal.returns-clause-only
returns-clause-only c = λ w to from is.
    let elf = c.args.elf.now in
    let r = seen c.args.relocation.now in
    let made = made-by_labels elf r (width_of c.args.width) w to from c.requires.width is in
    let found = one-found c.only_minus.result seen c.in_ok-minus.minus made.minus c.in_ok-minus.was
    (c.only_minus.ensures.only elf made.minus c.requires.records made.only_minus) in
    let fits : FitsSigned w128 c.label.result = search rules in
    let fits' : FitsSigned w128 c.label-2.result = search rules in
    record {
      width_is = sym made.width_is;
      to_is = to_z-of_z w128 c.label.result fits ∙ c.label.ensures.label ∙ sym made.to_is;
      from_is =
          to_z-of_z w128 c.label-2.result fits' ∙ c.label-2.ensures.label ∙ ap (label elf) found
          ∙ sym made.from_is;
    }

pub returns-in_err-minus-clause-only : goal.returns-in_err-minus-clause-only
returns-in_err-minus-clause-only c = rw c.from_residual-in_err-minus.ensures (λ w to from is.
    let elf = c.args.elf.now in
    let made = made-by_labels elf (seen c.args.relocation.now) (width_of c.args.width) w to from c.requires.width is in
    none-found c.only_minus.result seen made.minus c.in_err-minus.was
    (c.only_minus.ensures.only elf made.minus c.requires.records made.only_minus))

pub returns-in_err-only_plus-clause-only : goal.returns-in_err-only_plus-clause-only
returns-in_err-only_plus-clause-only c = rw c.from_residual.ensures (λ w to from is.
    let elf = c.args.elf.now in
    let r = seen c.args.relocation.now in
    let made = made-by_labels elf r (width_of c.args.width) w to from c.requires.width is in
    none-found c.only_plus.result seen r c.in_err-only_plus.was (c.only_plus.ensures.only elf r c.requires.records made.plus))

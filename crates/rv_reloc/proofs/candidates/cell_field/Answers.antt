use Rattle.std.proofs.Common.{◌∙◌, sym, ap, ℤ, refl, rules, FitsSigned, to_z, of_z}
use Rattle.std.specs.Int.{w128}
use Rattle.std.proofs.lemmas.Int.{to_z-of_z}
use Rattle.elf_code.specs.Cells.{Difference}
use Rattle.rv_reloc.proofs.candidates.cell_field.Goals as goal

pub returns-clause-is : goal.returns-clause-is
returns-clause-is c = λ tabled are.
    let d = c.args.difference.now in
    let fits : FitsSigned w128 d.to = search rules in
    let fits' : FitsSigned w128 d.from = search rules in
    let crossing = (c.crosses.ensures tabled are).0 c.if-not-crosses.false in
    record {
      has_code = crossing.0;
      across = crossing.1;
      width_is = sym c.in_ok-width.ensures;
      place_is = refl;
      content_is = ap (λ (z : ℤ). Difference z (to_z w128 (of_z w128 d.from))) (to_z-of_z w128 d.to fits)
          ∙ ap (λ (z : ℤ). Difference d.to z) (to_z-of_z w128 d.from fits');
      free = c.are_free.ensures.0 c.if-not-are_free.false;
    }
